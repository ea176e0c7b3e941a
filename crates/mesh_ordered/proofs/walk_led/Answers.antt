-- `walk_led`: run by run, in room that is made for it.
use borrow.Author.Rules.{rules}
use native.Mathlib.Omega.{arith}
use Rattle.mesh_ordered.proofs.walk_led.Goals as goal

pub walk_led_runs-requires : goal.walk_led_runs-requires
walk_led_runs-requires c =
    let start = c in
    let room = start.requires.parts_in_bounds in record { led_tree = start.requires.led_tree; parts_in_bounds = (room.0, omega arith, omega arith); most_in_bounds = (room.1, room.2) }
