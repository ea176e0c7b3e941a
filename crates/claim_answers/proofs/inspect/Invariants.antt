-- The lines before the place are claims, none at fault, and they are counted. Each turn passes a line.
use mathlib.Core.Path.{◌≡◌}
use Prim.Native.Nat.{◌-◌}
use lib.ListN.{length}
use Rattle.scene_seams.specs.Alone.{tabled}
use Rattle.claim_answers.specs.Inspecting.{Inspecting}
use Rattle.claim_answers.proofs.inspect.Given as goal

abbrev pub invariant-loop-at : goal.invariant-loop-at
invariant-loop-at l = Inspecting (tabled l.positions l.edges l.triangles l.stands) l.text l.count l.at × (length l.sizes ≡ 9) × (length l.minus ≡ 9)

abbrev pub decreases-loop-at : goal.decreases-loop-at
decreases-loop-at l = length l.text - l.at
