use borrow.Author.Rules.{rules}
use Rattle.meaning.specs.Scene.{Scene, scene_of}
use Rattle.meaning.specs.Pieces.{piece_of}
use Rattle.exact.specs.Volumes.{holds_small}
use Rattle.exact_signs.specs.BySigns.{told}
use Rattle.exact_signs.specs.BySignsLaws.{tells}
use Rattle.theory.specs.Computed.{edge_differences}
use Rattle.three_words.specs.Pairs.{of_four, tells_either}
use Rattle.three_words.specs.Ready.{moving}
use Rattle.three_words.specs.Right.{flags, edges_held}
use Rattle.three_words.proofs.accepted.edges_pair.Goals as goal

pub returns : goal.returns
unfolding piece_of flags edge_differences
returns c =
    let d = c in
    let a = d.args in
    let v = d.edge_volumes-v.ensures in
    λ e t w i j one two.
    let s : Scene = scene_of a.positions.now e t w in
    let aa = d.edge_signs-a in
    let ab = d.edge_signs-b in
    let ba = d.edge_signs-c in
    let bb = d.edge_signs-d in
    let last = c.either in
    let behind = c.either-2 in
    rw (c.verdict_of.ensures, tells_either aa.result behind.result c.either-3.ensures, tells_either ab.result last.result behind.ensures, tells_either ba.result bb.result last.ensures)
    (of_four s i j (told aa.result) (told ab.result) (told ba.result) (told bb.result)
    (rw (one, two) (edges_held s a.first 0 a.second 0 (told aa.result) v.holds0 (tells aa.ensures)))
    (rw (one, two) (edges_held s a.first 0 a.second 1 (told ab.result) v.holds1 (tells ab.ensures)))
    (rw (one, two) (edges_held s a.first 1 a.second 0 (told ba.result) v.holds2 (tells ba.ensures)))
    (rw (one, two) (edges_held s a.first 1 a.second 1 (told bb.result) v.holds3 (tells bb.ensures))))

pub edge_volumes-v-requires : goal.edge_volumes-v-requires
edge_volumes-v-requires c = let r = c.requires in (moving r.low, moving r.high, moving r.other_low, moving r.other_high, r.bounded)

pub edge_signs-a-requires : goal.edge_signs-a-requires
edge_signs-a-requires c = holds_small c.edge_volumes-v.ensures.holds0

pub edge_signs-b-requires : goal.edge_signs-b-requires
edge_signs-b-requires c = holds_small c.edge_volumes-v.ensures.holds1

pub edge_signs-c-requires : goal.edge_signs-c-requires
edge_signs-c-requires c = holds_small c.edge_volumes-v.ensures.holds2

pub edge_signs-d-requires : goal.edge_signs-d-requires
edge_signs-d-requires c = holds_small c.edge_volumes-v.ensures.holds3
