-- `walk_led_runs`: the runs passed are entered.
use Prim.Native.Nat.{◌-◌, ◌≤◌}
use mathlib.Core.Path.{◌≡◌}
use lib.ListN.{length}
use Rattle.scene_seams.specs.Alone.{tabled}
use Rattle.mesh_entries.specs.Entering.{EnteringUpTo}
use Rattle.mesh_runs.specs.Runs.{kind_entries}
use Rattle.mesh_led_runs.proofs.walk_led_runs.Given as goal

abbrev pub invariant-loop-i : goal.invariant-loop-i
invariant-loop-i l =
    (length l.places ≡ length l.initial.places)
    × (length l.six ≡ length l.initial.six)
    × (length l.marks ≡ length l.initial.marks)
    × (l.i ≤ l.end)
    × EnteringUpTo (kind_entries l.which (tabled l.positions l.edges l.triangles l.stands) l.kind) l.most l.initial.list l.at l.first l.list l.k l.i

abbrev pub decreases-loop-i : goal.decreases-loop-i
decreases-loop-i l = l.end - l.i
