-- The determinant of the six equations of a piece is the common factor of its form with the other sign. So the one is 0 exactly when the
-- other is.
use Rattle.std.specs.Prelude.{◌≡◌, refl, ◌↔◌, List, [], ◌∷◌, ◌++◌, map, ℕ, ◌+◌, ℤ, pos, neg_ℤ}
use Rattle.std.proofs.Common.{sym, ◌∙◌, ap}
use Rattle.std.proofs.Math.IntN.{neg_ℤ-neg_ℤ}
use Rattle.whole.specs.Vector.{Vector, volume}
use Rattle.whole.specs.Ring.{Expr, con, var, add, neg, solve}
use Rattle.whole.specs.Operations.{expand_in, determinant_in}
use Rattle.whole.specs.Cramer.{Four, volumes, all}
use Rattle.meaning.specs.Pieces.{Event}
use Rattle.meaning.specs.Equations.{determinant_of}
use Rattle.theory.specs.Differences.{differences, Form, alone, around, formed}
use Rattle.theory.specs.Spread.{factor}
use Rattle.theory.specs.Symbols.{Vectorˣ, Eventˣ, Unknownˣ, of_firstˣ, of_secondˣ, determinantˣ, determinant_worth, spannedˣ}

-- ---- twenty-two letters: the base's two places, then the place and the time of each of the four others

abbrev placeˣ : ℕ → Vectorˣ
placeˣ i = record { x = var i; y = var (i + 1); z = var (i + 2) }

abbrev startˣ : Eventˣ
startˣ = record { place = placeˣ 0; time = con (pos 0) }

abbrev endˣ : Eventˣ
endˣ = record { place = placeˣ 3; time = con (pos 1) }

abbrev otherˣ : ℕ → Eventˣ
otherˣ i = record { place = placeˣ i; time = var (i + 3) }

abbrev othersˣ : Four Eventˣ
othersˣ = record { v0 = otherˣ 6; v1 = otherˣ 10; v2 = otherˣ 14; v3 = otherˣ 18 }

abbrev numbers : Event → List ℤ
numbers o = o.place.x ∷ o.place.y ∷ o.place.z ∷ o.time ∷ []

abbrev environment : Vector → Vector → Four Event → List ℤ
environment p q o =
    p.x ∷ p.y ∷ p.z ∷ q.x ∷ q.y ∷ q.z ∷ numbers o.v0 ++ numbers o.v1 ++ numbers o.v2 ++ numbers o.v3

-- the six columns
abbrev columnsˣ : Form → List Unknownˣ
columnsˣ alone = map of_firstˣ (startˣ ∷ endˣ ∷ []) ++ map of_secondˣ (all othersˣ)
columnsˣ around =
    map of_firstˣ (startˣ ∷ othersˣ.v0 ∷ endˣ ∷ []) ++ map of_secondˣ (othersˣ.v1 ∷ othersˣ.v2 ∷ othersˣ.v3 ∷ [])

abbrev volumeˣ : Four Expr
volumeˣ = spannedˣ (placeˣ 0) (placeˣ 3) othersˣ

abbrev threeˣ : Expr
threeˣ = add (add volumeˣ.v1 volumeˣ.v2) volumeˣ.v3

abbrev fourˣ : Expr
fourˣ = add (add (add volumeˣ.v0 volumeˣ.v1) volumeˣ.v2) volumeˣ.v3

-- ---- the bridge

pub determinant_is : (form : Form) (p q : Vector) (o : Four Event) → determinant_of (formed form p q o) ≡ neg_ℤ (factor form (volumes (differences p q o)))
unfolding determinant_of formed factor volume determinant_in expand_in
determinant_is alone p q o =
    sym (determinant_worth (environment p q o) (columnsˣ alone)) ∙ solve (environment p q o) (determinantˣ (columnsˣ alone)) (neg fourˣ) refl
determinant_is around p q o =
    sym (determinant_worth (environment p q o) (columnsˣ around)) ∙ solve (environment p q o) (determinantˣ (columnsˣ around)) (neg threeˣ) refl

pub singular_is : (form : Form) (p q : Vector) (o : Four Event) → (determinant_of (formed form p q o) ≡ pos 0) ↔ (factor form (volumes (differences p q o)) ≡ pos 0)
singular_is form p q o = (
  λ h. sym (neg_ℤ-neg_ℤ _) ∙ ap neg_ℤ (sym (determinant_is form p q o) ∙ h),
  λ h. determinant_is form p q o ∙ ap neg_ℤ h,
)
