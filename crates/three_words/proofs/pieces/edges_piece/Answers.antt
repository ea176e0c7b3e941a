use mathlib.Core.List.{[]}
use mathlib.Core.Path.{refl}
use lib.Dec.{ltb}
use borrow.Author.Rules.{rules}
use Rattle.meaning.specs.Scene.{Scene, scene_of}
use Rattle.three_words.specs.Right.{edges_roomy, edges_asked}
use Rattle.three_words.proofs.pieces.edges_piece.Goals as goal

pub judge_edges-requires : goal.judge_edges-requires
judge_edges-requires c =
    let pre = c.requires in
    let a = c.args in (
      rw (c.one_of-other.ensures, c.one_of-seen.ensures, c.one_of-between.ensures, c.one_of-base.ensures)
          (edges_roomy pre (ltb 0 a.i) (ltb 0 a.j)),
      pre.bounded,
    )

pub returns : goal.returns
returns c =
    let a = c.args in
    let s : Scene = scene_of a.positions.now [] [] [] in
    edges_asked s a.e a.i a.f a.j (ltb 0 a.i) (ltb 0 a.j) refl refl c.judge_edges.result
    (rw (c.one_of-other.ensures, c.one_of-seen.ensures, c.one_of-between.ensures, c.one_of-base.ensures)
    at c.judge_edges.ensures)
