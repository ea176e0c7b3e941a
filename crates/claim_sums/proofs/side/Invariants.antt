-- The sum so far is that of the points so far. It is at most so many products in size, and six of them fit 64 bits.
use Prim.Native.Nat.{ℕ, ◌*◌, ◌≤◌}
use mathlib.Core.List.{List}
use lib.IntN.{ℤ}
use Rattle.whole.specs.Sizes.{Is}
use Rattle.corner_leaf.specs.declared.SixPoints.{SixPoints}
use Rattle.claim_sums.specs.Sums.{share_limit, side}
use Rattle.claim_sums.proofs.side.Given as goal

-- what is summed up before point i
pub record SoFar (ps : List ℤ) (six : SixPoints) (ws : List ℕ) (from i row : ℕ) (sum : ℤ) : Type 0 where
  pub reached : from ≤ i
  pub sums : Is (i * share_limit) sum (side ps six ws from i row)

abbrev pub invariant-loop-i : goal.invariant-loop-i
invariant-loop-i l = SoFar l.positions l.six l.weights l.from l.i l.row l.sum
