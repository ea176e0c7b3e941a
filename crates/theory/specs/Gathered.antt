-- All weights that balance come from four numbers that combine the four differences to the origin.
use Prim.Native.Nat.{ℕ, zero, suc, ◌<◌}
use Rattle.std.specs.Prelude.{◌≡◌, List, [], ◌∷◌, ℤ, neg_ℤ, length}
use Rattle.whole.specs.Vector.{Vector, origin}
use Rattle.whole.specs.Cramer.{Four, weigh, all}
use Rattle.meaning.specs.Pieces.{Event}
use Rattle.theory.specs.Differences.{differences, Form, alone, around, formed}
use Rattle.theory.specs.Spread.{first_numbers, second_numbers, weights_of, times_of}

pub record Gathered (form : Form) (p q : Vector) (o : Four Event) (u v : ℕ → ℤ) : Type 0 where
  pub four : Four ℤ
  pub combines : weigh four (differences p q o) ≡ origin
  pub first : (i : ℕ) → i < length (formed form p q o).first → u i ≡ weights_of (first_numbers form o four) i
  pub second : (i : ℕ) → i < length (formed form p q o).second → v i ≡ weights_of (second_numbers form four) i

abbrev pub firsts : ℕ → (ℕ → ℤ) → List ℤ
firsts zero w = []
firsts (suc k) w = w 0 ∷ firsts k (λ i. w (suc i))

unfoldable pub four_of : Form → (ℕ → ℤ) → (ℕ → ℤ) → Four ℤ
four_of alone u v = record { v0 = v 0; v1 = v 1; v2 = v 2; v3 = v 3 }
four_of around u v = record { v0 = neg_ℤ (u 1); v1 = v 0; v2 = v 1; v3 = v 2 }

module _ (p q : Vector) (o : Four Event) (u v : ℕ → ℤ) where
  abbrev pub unknowns : List ℤ
  unknowns = u 0 ∷ u 1 ∷ u 2 ∷ v 0 ∷ v 1 ∷ v 2 ∷ v 3 ∷ all (times_of o)
