-- The claims that are done have their answers in front of the buffer. Each turn answers the next of those still to come, and none is at fault.
use mathlib.Core.Path.{◌≡◌}
use Prim.Native.Nat.{◌-◌}
use lib.ListN.{length}
use Rattle.scene_seams.specs.Alone.{tabled}
use Rattle.claim_answers.specs.Answering.{Answering}
use Rattle.claim_answers.proofs.answer_all.Given as goal

abbrev pub invariant-loop-at : goal.invariant-loop-at
invariant-loop-at l = Answering (tabled l.positions l.edges l.triangles l.stands) l.text l.initial.answers l.answers l.count l.at × (length l.sizes ≡ 9) × (length l.minus ≡ 9)

abbrev pub decreases-loop-at : goal.decreases-loop-at
decreases-loop-at l = length l.text - l.at
