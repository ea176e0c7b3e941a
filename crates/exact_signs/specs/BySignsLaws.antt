-- What the verdict by signs says, in each of its three cases, and what its sums are.
use Rattle.std.specs.Prelude.{◌≡◌, refl, ◌≢◌, ◌↔◌, Bool, true, false, not, cond, List, [], ◌∷◌, T, ℤ, pos, ◌-ℤ◌, ◌*ℤ◌}
use Rattle.std.proofs.Common.{sym, ap, ◌∙◌}
use Rattle.std.proofs.Math.IntN.{*ℤ-zero}
use Rattle.std.proofs.Math.Facts.{and_yes, yes_and}
use Rattle.whole.specs.Laws.{*ℤ_idr}
use Rattle.whole.specs.Cramer.{Four, each, dot4}
use Rattle.whole.specs.Signs.{sgn, is_nought, is_nought_is, nought_is, Agrees, agree, agree_is}
use Rattle.meaning.specs.declared.Verdict.{Verdict}
use Rattle.meaning.specs.declared.Verdict.TheVariants.{Hit, Miss, Degenerate}
use Rattle.exact_signs.specs.declared.Signs.{Signs}
use Rattle.exact_signs.specs.BySigns.{all_agree, by_signs, told, signs_of, sum, keep, kept}

unfoldable pub EachAgrees : ℤ → List ℤ → Type 0
EachAgrees d [] = Unit {0}
EachAgrees d (e ∷ es) = Agrees d e × EachAgrees d es

unfoldable pub SignsSay : ℤ → List ℤ → Verdict → Type 0
SignsSay d es Degenerate = d ≡ pos 0
SignsSay d es Hit = (d ≢ pos 0) × EachAgrees d es
SignsSay d es Miss = (d ≢ pos 0) × ¬ EachAgrees d es

pub all_agree_is : (d : ℤ) (es : List ℤ) → T (all_agree d es) ↔ EachAgrees d es
unfolding EachAgrees
all_agree_is d [] = (λ t. tt, λ t. tt)
all_agree_is d (e ∷ es) = (
  λ t. let s = and_yes (agree (sgn d) (sgn e)) (all_agree d es) t in ((agree_is d e).0 s.0, (all_agree_is d es).0 s.1),
  λ h. yes_and (agree (sgn d) (sgn e)) (all_agree d es) ((agree_is d e).1 h.0) ((all_agree_is d es).1 h.1),
)

pub by_signs_says : (d : ℤ) (es : List ℤ) → SignsSay d es (by_signs d es)
unfolding SignsSay by_signs
by_signs_says d es =
    either (is_nought (sgn d)) (all_agree d es) (λ t. (nought_is d).0 ((is_nought_is (sgn d)).0 t))
    (λ n e. n ((is_nought_is (sgn d)).1 ((nought_is d).1 e))) (all_agree_is d es)
  where
    either : (flat all : Bool) → (T flat → d ≡ pos 0) → (¬ (T flat) → d ≢ pos 0) → T all ↔ EachAgrees d es → SignsSay d es (cond flat Degenerate (cond all Hit Miss))
    either true all f g h = f tt
    either false true f g h = (g (λ t. t), h.0 tt)
    either false false f g h = (g (λ t. t), h.1)

-- ---- the sums over the ends and over the starts, as combinations of the four by their times

abbrev pub clock : Bool → ℤ
clock true = pos 1
clock false = pos 0

pub keep_clock : (t : Bool) (e : ℤ) → keep t e ≡ e *ℤ clock t
unfolding keep
keep_clock true e = sym (*ℤ_idr e)
keep_clock false e = sym (*ℤ-zero e)

keep_not : (t : Bool) (e : ℤ) → keep (not t) e ≡ e *ℤ (pos 1 -ℤ clock t)
keep_not true e = keep_clock false e
keep_not false e = keep_clock true e

pub sum_ends : (t : Four Bool) (e : Four ℤ) → sum (kept t e) ≡ dot4 e (each clock t)
sum_ends t e = simp keep_clock

pub sum_starts : (t : Four Bool) (e : Four ℤ) → sum (kept (each not t) e) ≡ dot4 e (each (λ b. pos 1 -ℤ clock b) t)
sum_starts t e = simp keep_not

-- ---- the verdict that the two of a piece tell

told_signs : (v : Verdict) → told (signs_of v) ≡ v
unfolding signs_of
told_signs Hit = refl
told_signs Miss = refl
told_signs Degenerate = refl

pub tells : {s : Signs} {v : Verdict} → s ≡ signs_of v → told s ≡ v
tells {v = v} e = ap (λ (s : Signs). told s) e ∙ told_signs v
