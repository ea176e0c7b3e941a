-- `tell_steps`: from step to step, each block read and its step told.
use Prim.Native.Nat.{◌+◌, ◌-◌}
use mathlib.Core.Path.{◌≡◌}
use lib.ListN.{length}
use Rattle.series_walk.specs.Reading.{StepNow}
use Rattle.series_walk.proofs.tell_steps.Given as goal

abbrev pub invariant-loop-next : goal.invariant-loop-next
invariant-loop-next l = StepNow l.text l.room l.next l.read l.step l.positions l.edges l.triangles l.seams l.stands l.past × (length l.positions ≡ length l.initial.positions)

abbrev pub decreases-loop-next : goal.decreases-loop-next
decreases-loop-next l = length l.text + 2 - l.step
