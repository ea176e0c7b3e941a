-- The sum of four: the sums of two fit 64 bits, so the two that are held are worth all four.
use mathlib.Core.Path.{◌≡◌, ◌∙◌}
use Prim.Native.Nat.{◌+◌}
use lib.Dec.{lit≤}
use lib.IntN.{ℤ, pos, ◌+ℤ◌, ◌-ℤ◌}
use mir.Syntax.{w64}
use Rattle.whole.specs.Sizes.{Is, is_exact, held}
use Rattle.whole.proofs.Sizes.{is_add, is_sub, fits, back}
use Rattle.whole.proofs.Sized.{sized, fitting}
use Rattle.exact.specs.Limits.{determinant_limit}
use Rattle.exact.specs.Volumes.{four_of, Small}
use Rattle.exact.specs.declared.Volumes.{Volumes}
use Rattle.exact_signs.specs.BySigns.{sum}
use Rattle.exact_signs.specs.Sums.{two_and_two}
use Rattle.exact_signs.proofs.sum_of.Goals as goal

-- two volumes added, as their locals hold them
abbrev added : ℤ → ℤ → ℤ
added a b = held w64 a +ℤ held w64 b

abbrev IsTwo : ℤ → ℤ → Type 0
IsTwo = Is (determinant_limit + determinant_limit)

nothing : Is 0 (pos 0) (pos 0)
nothing = is_exact (record { size = lit≤ tt })

module _ {v : Volumes} (h : Small v) where
  two_is : IsTwo (added v.e0 v.e1) (v.e0 +ℤ v.e1)
  two_is = is_add (back w64 h.is0 tt) (back w64 h.is1 tt)

  others-are : IsTwo (added v.e2 v.e3) (v.e2 +ℤ v.e3)
  others-are = is_add (back w64 h.is2 tt) (back w64 h.is3 tt)

  minus-others-is : IsTwo (pos 0 -ℤ held w64 (added v.e2 v.e3)) (pos 0 -ℤ (v.e2 +ℤ v.e3))
  minus-others-is = is_sub nothing (back w64 others-are tt)

  all-four : held w64 (added v.e0 v.e1) -ℤ held w64 (pos 0 -ℤ held w64 (added v.e2 v.e3)) ≡ sum (four_of v)
  all-four = rw ((back w64 two_is tt).same, (back w64 minus-others-is tt).same) (two_and_two (four_of v))

pub overflow_add-two : goal.overflow_add-two
overflow_add-two c = fitting (search sized depth 20) tt

pub overflow_add-against : goal.overflow_add-against
overflow_add-against c = fitting (search sized depth 20) tt

pub overflow_sub-against : goal.overflow_sub-against
overflow_sub-against c = fits w64 (minus-others-is c.requires) tt

pub returns : goal.returns
returns c = all-four c.requires
