-- `kept::store_vertex`: span by span.
use borrow.Author.Rules.{rules}
use native.Mathlib.Omega.{arith}
use Rattle.scene_seams.specs.Alone.{only_positions}
use Rattle.list_boxes.specs.Working.{vertex_stored}
use Rattle.list_boxes.proofs.kept.store_vertex.Goals as goal

pub returns : goal.returns
returns c =
    let start = c in
    vertex_stored (only_positions start.args.positions.now) _ _
    c.store_between.ensures
    c.store_between-2.ensures
    c.store_between-3.ensures
    (omega (arith, start.requires))
