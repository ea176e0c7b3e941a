-- The signs of a piece: the code's comparisons with 0, joined, are the agreement of the signs.
use borrow.Author.Rules.{rules}
use mathlib.Core.Path.{◌≡◌, refl, sym, ◌∙◌, ap}
use mathlib.Core.Bool.{Bool, true, false, not, cond, ◌&&◌, ◌||◌, and_assoc, and-true}
use mathlib.Core.List.{[], ◌∷◌}
use lib.IntN.{ℤ, pos, neg_ℤ}
use lib.Signed.{le_z}
use mir.Syntax.{w64}
use mir.Facts.{to_z-of_z}
use Rattle.whole.specs.Signs.{Sgn, negative, nought, positive, sgn, is_nought, is_negative, is_positive, opposite, sgn_neg, le_nought, nought_le, zero_test}
use Rattle.whole.specs.Sizes.{held}
use Rattle.whole.proofs.Sizes.{fits, back}
use Rattle.exact.specs.Volumes.{turned}
use Rattle.meaning.specs.declared.Verdict.TheVariants.{Hit, Miss, Degenerate}
use Rattle.exact_signs.specs.declared.Signs.{Signs}
use Rattle.exact_signs.specs.BySigns.{signs_of}
use Rattle.exact_signs.specs.OneSign.{one_sign}
use Rattle.exact_signs.specs.Sums.{worth}
use Rattle.exact_signs.proofs.by_signs.Goals as goal

opposite-signs : (s : Sgn) → not (is_negative (opposite s)) ≡ not (is_positive s)
opposite-signs negative = refl
opposite-signs nought = refl
opposite-signs positive = refl

-- that a number is not positive is that minus it is not negative
neg-test : (z : ℤ) → le_z (pos 0) (neg_ℤ z) ≡ le_z z (pos 0)
neg-test z =
    nought_le (neg_ℤ z) ∙ ap (λ (s : Sgn). not (is_negative s)) (sgn_neg z) ∙ opposite-signs (sgn z) ∙ sym (le_nought z)

abbrev signs : Bool → Bool → Signs
signs h f = record { hit = h; flat = f }

-- no piece is hit and singular
hit-first : (flat hit : Bool) → signs (not flat && hit) flat ≡ signs_of (cond flat Degenerate (cond hit Hit Miss))
unfolding signs_of
hit-first true hit = refl
hit-first false true = refl
hit-first false false = refl

-- the code's choice, of the exact numbers
abbrev chosen : ℤ → ℤ → ℤ → ℤ → ℤ → ℤ → Signs
chosen d a b c e f =
    let flat = le_z d (pos 0) && le_z (pos 0) d in
    let up = le_z (pos 0) a && le_z (pos 0) b && le_z (pos 0) c && le_z (pos 0) e && le_z (pos 0) f in
    let down = le_z (pos 0) (neg_ℤ a) && le_z (pos 0) (neg_ℤ b) && le_z (pos 0) (neg_ℤ c) && le_z (pos 0) (neg_ℤ e) && le_z f (pos 0) in
    signs (not flat && (up || down)) flat

chosen_right : (d a b c e f : ℤ) → chosen d a b c e f ≡ signs_of (one_sign d (a ∷ b ∷ c ∷ e ∷ f ∷ []))
unfolding one_sign
chosen_right d a b c e f =
    simp (neg-test, zero_test, and_assoc, and-true)
    (hit-first (is_nought (sgn d)) _)

pub returns : goal.returns
returns c =
    let s = c in
    let x = s.args in
    let h = s.ranges in
    let p = s.requires in
    rw
    ((back w64 (turned p.small0) tt).same, (back w64 (turned p.small1) tt).same, (back w64 (turned p.small2) tt).same, (back w64 (turned p.small3) tt).same, to_z-of_z h.a, to_z-of_z h.b, to_z-of_z h.c, to_z-of_z h.e, c.at_least_zero-2.ensures, c.at_most_zero-2.ensures, c.at_most_zero.ensures, c.at_least_zero.ensures)
    (chosen_right (worth x.d) x.a x.b x.c x.e (worth x.f))

pub overflow_sub-less_a : goal.overflow_sub-less_a
overflow_sub-less_a c = fits w64 (turned c.requires.small0) tt

pub overflow_sub-less_b : goal.overflow_sub-less_b
overflow_sub-less_b c = fits w64 (turned c.requires.small1) tt

pub overflow_sub-less_c : goal.overflow_sub-less_c
overflow_sub-less_c c = fits w64 (turned c.requires.small2) tt

pub overflow_sub-less_e : goal.overflow_sub-less_e
overflow_sub-less_e c = fits w64 (turned c.requires.small3) tt
