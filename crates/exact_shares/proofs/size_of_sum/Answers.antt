-- The size of a sum of four: in this range each sum on the way fits.
use Prim.Native.Nat.{◌+◌}
use mathlib.Core.Path.{◌≡◌, ap, ◌∙◌}
use lib.IntN.{ℤ, nat_abs, ◌+ℤ◌}
use mir.Syntax.{w64}
use Rattle.whole.specs.Sizes.{Is, is_exact, held}
use Rattle.whole.proofs.Sizes.{is_add, back}
use Rattle.exact.specs.Volumes.{four_of}
use Rattle.exact.specs.declared.Volumes.{Volumes}
use Rattle.exact_signs.specs.BySigns.{sum}
use Rattle.exact_shares.specs.InRange.{InRange, first_volume}
use Rattle.exact_shares.proofs.size_of_sum.Goals as goal

abbrev added : ℤ → ℤ → ℤ
added a b = held w64 a +ℤ held w64 b

abbrev added_all : Volumes → ℤ
added_all v = added (added (added v.e0 v.e1) v.e2) v.e3

module _ {v : Volumes} (h : InRange (four_of v)) where
  two-are : Is (first_volume + first_volume) (added v.e0 v.e1) (v.e0 +ℤ v.e1)
  two-are = is_add (back w64 (is_exact h.in0) tt) (back w64 (is_exact h.in1) tt)

  three-are : Is (first_volume + first_volume + first_volume) (added (added v.e0 v.e1) v.e2) (v.e0 +ℤ v.e1 +ℤ v.e2)
  three-are = is_add (back w64 two-are tt) (back w64 (is_exact h.in2) tt)

  four_are : Is (first_volume + first_volume + first_volume + first_volume) (added_all v) (sum (four_of v))
  four_are = is_add (back w64 three-are tt) (back w64 (is_exact h.in3) tt)

  is_held : held w64 (added_all v) ≡ sum (four_of v)
  is_held = (back w64 four_are tt).same

pub returns : goal.returns
returns c = c.unsigned_abs.ensures.value ∙ ap nat_abs (is_held c.requires)
