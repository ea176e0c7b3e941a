-- The verdict of a piece of each form, read off the signs of its common factor and of a few numbers made of its four volumes. For the
-- point against four others only the volumes need testing: what falls to the point follows.
use Rattle.std.specs.Prelude.{List, [], ◌∷◌, ℤ, pos, neg_ℤ, ◌-ℤ◌}
use Rattle.whole.specs.Vector.{Vector}
use Rattle.whole.specs.Cramer.{Four, each, all}
use Rattle.meaning.specs.Pieces.{Event}
use Rattle.theory.specs.Differences.{Form, alone, around, formed}
use Rattle.theory.specs.Solved.{AllAgree}
use Rattle.theory.specs.Spread.{start_share, end_share, first_numbers, second_numbers, weights_of, times_of}
use Rattle.theory.specs.Agreement.{NotNegative}

-- the four events stand between the start and the end
pub record Timely (o : Four Event) : Type 0 where
  pub from_start : NotNegative (times_of o)
  pub to_end : NotNegative (each (λ (e : Event). pos 1 -ℤ e.time) o)

-- the numbers that are to agree with the common factor
unfoldable pub tested : Form → Four Event → Four ℤ → List ℤ
tested alone o n = all n
tested around o n = neg_ℤ n.v0 ∷ n.v1 ∷ n.v2 ∷ n.v3 ∷ start_share o n ∷ end_share o n ∷ []

module _ (p q : Vector) (o : Four Event) (t : Timely o) (D : ℤ) (n : Four ℤ) where
  abbrev pub AllNumbers : Form → Type 0
  AllNumbers form =
      AllAgree D (weights_of (first_numbers form o n)) (formed form p q o).first
      × AllAgree D (weights_of (second_numbers form n)) (formed form p q o).second

  abbrev pub AllTested : Form → Type 0
  AllTested form = AllAgree D (weights_of (tested form o n)) (tested form o n)
