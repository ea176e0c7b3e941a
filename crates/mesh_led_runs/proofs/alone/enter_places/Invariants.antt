-- `enter_places`: the places passed are entered.
use mathlib.Core.List.{map}
use lib.ListN.{take}
use Rattle.mesh_entries.specs.Entering.{Entered}
use Rattle.mesh_rows.specs.Rows.{entry_of}
use Rattle.mesh_led_runs.proofs.alone.enter_places.Given as goal

abbrev pub invariant-loop-place : goal.invariant-loop-place
invariant-loop-place l = Entered l.most l.initial.list l.at (map (entry_of l.kind l.i) (take l.place-index (take l.count l.places))) l.list l.k
