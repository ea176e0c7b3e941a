-- The verdict of a piece by signs alone, from the determinant of its equations and its weights, all up to one common factor.
-- Every sum in here is exact: how code finds its sign is the code's own affair.
use Rattle.std.specs.Prelude.{Bool, true, false, not, cond, ◌&&◌, ◌||◌, List, [], ◌∷◌, ℤ, pos, neg_ℤ, ◌+ℤ◌}
use Rattle.whole.specs.Signs.{sgn, is_nought, agree}
use Rattle.whole.specs.Cramer.{Four, each, all}
use Rattle.meaning.specs.declared.Verdict.{Verdict}
use Rattle.meaning.specs.declared.Verdict.TheVariants.{Hit, Miss, Degenerate}
use Rattle.exact_signs.specs.declared.Signs.{Signs}

-- each number is 0 or has d's sign
abbrev pub all_agree : ℤ → List ℤ → Bool
all_agree d [] = true
all_agree d (e ∷ es) = agree (sgn d) (sgn e) && all_agree d es

unfoldable pub by_signs : ℤ → List ℤ → Verdict
by_signs d es = cond (is_nought (sgn d)) Degenerate (cond (all_agree d es) Hit Miss)

-- the verdict that is told by 'one is hit' and 'one is singular'
abbrev pub told : Signs → Verdict
told s = cond s.hit Hit (cond s.flat Degenerate Miss)

-- the two of one piece with this verdict: no piece is both
unfoldable pub signs_of : Verdict → Signs
signs_of Hit = record { hit = true; flat = false }
signs_of Miss = record { hit = false; flat = false }
signs_of Degenerate = record { hit = false; flat = true }

-- the two of several pieces taken together
abbrev pub either_of : Signs → Signs → Signs
either_of a b = record { hit = a.hit || b.hit; flat = a.flat || b.flat }

abbrev pub sum : Four ℤ → ℤ
sum e = e.v0 +ℤ e.v1 +ℤ e.v2 +ℤ e.v3

-- a segment p p' against four points: e are the signed volumes of the four, seen from p or p'
unfoldable pub point_verdict : Four ℤ → Verdict
point_verdict e = by_signs (sum e) (all e)

-- e where it counts, else 0
unfoldable pub keep : Bool → ℤ → ℤ
keep true e = e
keep false e = pos 0

abbrev pub kept : Four Bool → Four ℤ → Four ℤ
kept t e =
    record {
      v0 = keep t.v0 e.v0;
      v1 = keep t.v1 e.v1;
      v2 = keep t.v2 e.v2;
      v3 = keep t.v3 e.v3;
    }

-- p p' and one more point, the first of the four, against the three others; `ends` says which of the four are at the end
unfoldable pub edge_verdict : Four Bool → Four ℤ → Verdict
edge_verdict ends e =
    by_signs (e.v1 +ℤ e.v2 +ℤ e.v3)
    (neg_ℤ e.v0 ∷ e.v1 ∷ e.v2 ∷ e.v3 ∷ sum (kept (each not ends) e) ∷ sum (kept ends e) ∷ [])
