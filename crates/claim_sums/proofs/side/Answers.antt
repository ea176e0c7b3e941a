use Prim.Native.Nat.{ℕ, ◌+◌, ◌*◌, ◌≤◌, ◌<◌, zero-le}
use native.Mathlib.Nat.{le_refl}
use native.Mathlib.Omega.{arith}
use mathlib.Core.List.{List}
use mathlib.Core.Path.{◌≡◌, refl, sym}
use lib.IntN.{ℤ, pos, ◌+ℤ◌, ◌*ℤ◌}
use mir.Syntax.{w64}
use Rattle.whole.specs.Sizes.{Is, is_exact, is_equal, held}
use Rattle.whole.proofs.Sizes.{is_add, is_wider, fits, back}
use Rattle.corner_leaf.specs.declared.SixPoints.{SixPoints}
use Rattle.meaning.specs.Claims.{weight_at}
use Rattle.corner_leaf.specs.Points.{event_at}
use Rattle.claim_sums.specs.Sums.{share_limit, side_limit, reading, side}
use Rattle.claim_sums.specs.Sides.{side_none, side_next}
use Rattle.claim_sums.proofs.side.Invariants.{SoFar}
use Rattle.claim_sums.proofs.side.Goals as goal

module _ {ps : List ℤ} {six : SixPoints} {ws : List ℕ} {from row i : ℕ} where
  start : i ≡ from → SoFar ps six ws from i row (pos 0)
  start e = rw e (record { reached = le_refl from; sums = is_equal (sym (side_none ps six ws from row)) (is_exact (record { size = zero-le })) })

  module _ {sum share : ℤ} (h : SoFar ps six ws from i row sum) (k : i < 6) (s : Is share_limit share (pos (weight_at ws i) *ℤ reading row (event_at ps six i))) where
    next : Is ((i + 1) * share_limit) (sum +ℤ held w64 share) (side ps six ws from (i + 1) row)
    next =
        is_wider (is_equal (sym (side_next ps six ws from i row h.reached k)) (is_add h.sums (back w64 s tt))) (omega arith)

    next_small : Is side_limit (sum +ℤ held w64 share) (side ps six ws from (i + 1) row)
    next_small = is_wider next (omega arith)

    step : SoFar ps six ws from (i + 1) row (held w64 (sum +ℤ held w64 share))
    step = record { reached = omega (arith, h.reached); sums = record { same = (back w64 next_small tt).same; within = next.within } }

  finish : {to : ℕ} {sum : ℤ} → i ≤ to → to ≤ i → to ≤ 6 → SoFar ps six ws from i row sum → Is side_limit sum (side ps six ws from to row)
  finish {to} h k n s =
      let same : i ≡ to = omega arith in
      let small : i * share_limit ≤ side_limit = omega arith in
      rw same at (is_wider s.sums small)

pub loop-i-init : goal.loop-i-init
loop-i-init c = start refl

pub share-sum-requires : goal.share-sum-requires
share-sum-requires c = let p = c.requires in (p.0, p.1, omega (arith, p.3))

pub overflow_add-sum : goal.overflow_add-sum
overflow_add-sum c = fits w64 (next_small c.loop-i.invariant (omega arith) c.share-sum.ensures) tt

pub loop-i-preserved : goal.loop-i-preserved
loop-i-preserved c = step c.loop-i.invariant (omega arith) c.share-sum.ensures

pub returns : goal.returns
returns c = finish (omega (arith, c.requires.2, c.loop-i.auto)) c.loop-i-test.false c.requires.3 c.loop-i.invariant
