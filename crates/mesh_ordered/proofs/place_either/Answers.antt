-- `place_either`: by what is lent.
use borrow.Author.Rules.{rules}
use native.Mathlib.Omega.{arith}
use Prim.Native.Nat.{ℕ, ◌+◌}
use mathlib.Core.Path.{sym, subst}
use Rattle.scene_seams.specs.Alone.{tabled}
use Rattle.mesh_rows.specs.Rows.{RowTree, part_row}
use Rattle.mesh_led_runs.specs.Put.{put_there}
use Rattle.mesh_ordered.proofs.place_either.Goals as goal

pub first_second-from-requires : goal.first_second-from-requires
first_second-from-requires c = omega (arith, c.requires.either_tree.1, c.requires.either_tree.0.few_rows)

pub overflow_add-offset : goal.overflow_add-offset
overflow_add-offset c = omega (arith, c.requires.either_tree.1, c.requires.either_tree.0.few_rows, c.requires.either_tree.0.low)

pub place_row-requires : goal.place_row-requires
place_row-requires c =
    let start = c in
    let a = start.args in
    let s = tabled a.positions.now a.edges.now a.triangles.now a.stands.now in
    let tree = start.requires.either_tree.0.plain c.if-order-eq0.true in record { row_tree = subst (λ (f : ℕ). RowTree s a.kind a.i a.boxes.now a.levels.now a.parts a.top (a.offset + a.i) f) (sym c.first_second-from.ensures) (tree.row a.i start.requires.either_tree.1); parts_in_bounds = start.requires.parts_in_bounds.0 }

pub order_places-requires : goal.order_places-requires
order_places-requires c = let some = c.if-order-eq0.false in record { led_tree = (c.requires.either_tree.0.led some, c.requires.either_tree.1); parts_in_bounds = c.requires.parts_in_bounds.1 some }

pub returns-then-order-eq0 : goal.returns-then-order-eq0
returns-then-order-eq0 c =
    let a = c.args in
    put_there (part_row a.which (tabled a.positions.now a.edges.now a.triangles.now a.stands.now) a.kind a.i) c.place_row.ensures

pub returns-else-order-eq0 : goal.returns-else-order-eq0
returns-else-order-eq0 c = c.order_places.ensures
