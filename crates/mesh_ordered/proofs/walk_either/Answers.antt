-- `walk_either`: by what is lent, where there is a row.
use borrow.Author.Rules.{rules}
use native.Mathlib.Omega.{arith}
use Rattle.sequences.specs.Gather.{gather_none}
use Rattle.mesh_entries.specs.Entering.{entered_none}
use Rattle.mesh_ordered.proofs.walk_either.Goals as goal

pub returns-then-end-first : goal.returns-then-end-first
returns-then-end-first c =
    let a = c.args in
    rw (gather_none _ a.first a.end c.if-end-first.true) (entered_none _ _ _)

pub walk_kind-requires : goal.walk_kind-requires
walk_kind-requires c = record { kind_tree = (c.requires.either_tree.0.plain c.if-order-eq0.true, c.requires.either_tree.1, c.requires.either_tree.2); in_bounds = (omega arith, omega arith); most_in_bounds = (c.requires.parts_in_bounds.1, c.requires.parts_in_bounds.2) }

pub walk_led-requires : goal.walk_led-requires
walk_led-requires c = let some = c.if-order-eq0.false in record { led_tree = (c.requires.either_tree.0.led some, c.requires.either_tree.1, c.requires.either_tree.2); parts_in_bounds = (c.requires.parts_in_bounds.0 some, c.requires.parts_in_bounds.1, c.requires.parts_in_bounds.2) }

pub returns-then-order-eq0 : goal.returns-then-order-eq0
returns-then-order-eq0 c = c.walk_kind.ensures

pub returns-else-order-eq0 : goal.returns-else-order-eq0
returns-else-order-eq0 c = c.walk_led.ensures
