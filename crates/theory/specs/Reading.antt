-- The verdict read off signs: of the common factor, and of the numbers that are to agree with it. Here is what the reading means for
-- a piece that the numbers solve, and how comparisons with 0 compute it.
use Rattle.std.specs.Prelude.{◌≡◌, refl, ◌≢◌, ◌↔◌, Bool, true, false, not, cond, ◌&&◌, ◌||◌, List, [], ◌∷◌, map, ℕ, zero, suc, ◌<◌, T, ℤ, pos, length}
use Rattle.std.proofs.Common.{sym, ap, subst, not-suc-le-zero, arith}
use Rattle.std.proofs.Math.Bool.{or-false}
use Rattle.std.specs.Int.Signed.{le_z}
use Rattle.whole.specs.Signs.{Sgn, positive, nought, negative, sgn, nought_is, is_nought, is_negative, is_positive, is_nought_is, le_nought, nought_le, agree, agree_is, Agrees}
use Rattle.meaning.specs.Pieces.{Piece}
use Rattle.meaning.specs.Equations.{determinant_of, Touches}
use Rattle.meaning.specs.Verdicts.{PieceIs}
use Rattle.meaning.specs.declared.Verdict.{Verdict}
use Rattle.meaning.specs.declared.Verdict.TheVariants.{Hit, Miss, Degenerate}
use Rattle.theory.specs.Solved.{AllAgree}
use Rattle.theory.specs.Spread.{weights_of}

-- each sign is nought or the sign d
unfoldable pub agreeing : Sgn → List Sgn → Bool
agreeing d [] = true
agreeing d (s ∷ l) = agree d s && agreeing d l

-- d is the sign of the common factor
unfoldable pub verdict_of : Sgn → List Sgn → Verdict
verdict_of d l = cond (is_nought d) Degenerate (cond (agreeing d l) Hit Miss)

-- ---- what it means

pub T_both : (a b : Bool) → T (a && b) ↔ (T a × T b)
T_both true b = (λ t. (tt, t), λ t. t.1)
T_both false b = (λ t. absurd t, λ t. t.0)

pub agreeing_is : (D : ℤ) (l : List ℤ) → T (agreeing (sgn D) (map sgn l)) ↔ AllAgree D (weights_of l) l
unfolding agreeing
agreeing_is D l = (λ t. record { each = to l t }, λ h. from l h.each)
  where
    to : (l : List ℤ) → T (agreeing (sgn D) (map sgn l)) → (i : ℕ) → i < length l → Agrees D (weights_of l i)
    to [] t i h = absurd (not-suc-le-zero h)
    to (z ∷ l) t zero h = (agree_is D z).0 ((T_both (agree (sgn D) (sgn z)) (agreeing (sgn D) (map sgn l))).0 t).0
    to (z ∷ l) t (suc i) h = to l ((T_both (agree (sgn D) (sgn z)) (agreeing (sgn D) (map sgn l))).0 t).1 i (omega arith)

    from : (l : List ℤ) → ((i : ℕ) → i < length l → Agrees D (weights_of l i)) → T (agreeing (sgn D) (map sgn l))
    from [] h = tt
    from (z ∷ l) h = (T_both (agree (sgn D) (sgn z)) (agreeing (sgn D) (map sgn l))).1 ((agree_is D z).1 (h 0 (omega arith)), from l (λ i k. h (suc i) (omega arith)))

-- a verdict that is right for a piece, from what makes the piece degenerate and what makes it touch
pub verdict_right : (p : Piece) (D : ℤ) (l : List Sgn) → (determinant_of p ≡ pos 0) ↔ (D ≡ pos 0) → (D ≢ pos 0 → Touches p ↔ T (agreeing (sgn D) l)) → PieceIs p (verdict_of (sgn D) l)
unfolding PieceIs verdict_of
verdict_right p D l z t = go (is_nought (sgn D)) (agreeing (sgn D) l) refl refl
  where
    go : (b c : Bool) → is_nought (sgn D) ≡ b → agreeing (sgn D) l ≡ c → PieceIs p (cond b Degenerate (cond c Hit Miss))
    go true c e f = z.1 ((nought_is D).0 ((is_nought_is (sgn D)).0 (subst T (sym e) tt)))
    go false c e f = decided c f
      where
        some : D ≢ pos 0
        some h = subst T e ((is_nought_is (sgn D)).1 ((nought_is D).1 h))

        decided : (c : Bool) → agreeing (sgn D) l ≡ c → PieceIs p (cond c Hit Miss)
        decided true f = (λ h. some (z.0 h), (t some).1 (subst T (sym f) tt))
        decided false f = (λ h. some (z.0 h), λ h. subst T f ((t some).0 h))

-- ---- by comparisons with 0

unfoldable pub none_below : List ℤ → Bool
none_below [] = true
none_below (z ∷ l) = le_z (pos 0) z && none_below l

unfoldable pub none_above : List ℤ → Bool
none_above [] = true
none_above (z ∷ l) = le_z z (pos 0) && none_above l

agreeing_positive : (l : List ℤ) → agreeing positive (map sgn l) ≡ none_below l
unfolding agreeing none_below
agreeing_positive [] = refl
agreeing_positive (z ∷ l) = simp (nought_le, agreeing_positive l) (ap (λ b. b && none_below l) (alike (sgn z)))
  where
    alike : (s : Sgn) → agree positive s ≡ not (is_negative s)
    alike positive = refl
    alike nought = refl
    alike negative = refl

agreeing_negative : (l : List ℤ) → agreeing negative (map sgn l) ≡ none_above l
unfolding agreeing none_above
agreeing_negative [] = refl
agreeing_negative (z ∷ l) = simp (le_nought, agreeing_negative l) (ap (λ b. b && none_above l) (alike (sgn z)))
  where
    alike : (s : Sgn) → agree negative s ≡ not (is_positive s)
    alike positive = refl
    alike nought = refl
    alike negative = refl

-- what code computes: is the factor 0, are all of one sign
pub by_comparison : (D : ℤ) (l : List ℤ) → verdict_of (sgn D) (map sgn l) ≡ cond (le_z D (pos 0) && le_z (pos 0) D) Degenerate (cond (none_below (D ∷ l) || none_above (D ∷ l)) Hit Miss)
unfolding verdict_of none_below none_above
by_comparison D l = rw (nought_le D, le_nought D) (go (sgn D))
  where
    go : (s : Sgn) → verdict_of s (map sgn l) ≡ cond (not (is_positive s) && not (is_negative s)) Degenerate (cond (not (is_negative s) && none_below l || not (is_positive s) && none_above l) Hit Miss)
    go nought = refl
    go positive = rw (agreeing_positive, or-false)
    go negative = rw agreeing_negative
