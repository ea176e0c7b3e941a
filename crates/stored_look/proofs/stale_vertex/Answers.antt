-- `stale_vertex`: axis by axis.
use borrow.Author.Rules.{rules}
use native.Mathlib.Omega.{arith}
use Rattle.scene_seams.specs.Alone.{only_positions}
use Rattle.stored_look.specs.Looked.{vertex_told}
use Rattle.stored_look.proofs.stale_vertex.Goals as goal

pub returns : goal.returns
returns c =
    let a = c.args in
    vertex_told (only_positions a.positions.now) a.boxes.now a.v c.other_vertex-x.ensures c.other_vertex-y.ensures c.other_vertex-z.ensures
