-- Four numbers that combine the four differences to the origin spread to weights of all six points, and these balance.
use Rattle.std.specs.Prelude.{ℕ, List, [], ◌∷◌, ◌++◌, ℤ, pos, neg_ℤ, ◌+ℤ◌, ◌-ℤ◌, ◌*ℤ◌, get_or}
use Rattle.whole.specs.Vector.{Vector}
use Rattle.whole.specs.Cramer.{Four, each, all, dot4}
use Rattle.meaning.specs.Pieces.{Event}
use Rattle.meaning.specs.Equations.{total}
use Rattle.theory.specs.Differences.{Form, alone, around, formed, at_start, at_end}

-- what falls to the base at the start, and at the end
abbrev pub start_share : Four Event → Four ℤ → ℤ
start_share o n = dot4 n (each (λ (e : Event). pos 1 -ℤ e.time) o)

abbrev pub end_share : Four Event → Four ℤ → ℤ
end_share o n = dot4 n (each (λ (e : Event). e.time) o)

unfoldable pub first_numbers : Form → Four Event → Four ℤ → List ℤ
first_numbers alone o n = start_share o n ∷ end_share o n ∷ []
first_numbers around o n = start_share o n ∷ neg_ℤ n.v0 ∷ end_share o n ∷ []

unfoldable pub second_numbers : Form → Four ℤ → List ℤ
second_numbers alone n = all n
second_numbers around n = n.v1 ∷ n.v2 ∷ n.v3 ∷ []

-- the common factor: the sum over the second simplex
unfoldable pub factor : Form → Four ℤ → ℤ
factor alone n = n.v0 +ℤ n.v1 +ℤ n.v2 +ℤ n.v3
factor around n = n.v1 +ℤ n.v2 +ℤ n.v3

abbrev pub weights_of : List ℤ → ℕ → ℤ
weights_of l i = get_or l i (pos 0)

-- f of an event less f of the base at its time
abbrev pub apart : (Event → ℤ) → Vector → Vector → Event → ℤ
apart f p q e = f e -ℤ ((pos 1 -ℤ e.time) *ℤ f (at_start p) +ℤ e.time *ℤ f (at_end q))

abbrev pub times_of : Four Event → Four ℤ
times_of o = each (λ (e : Event). e.time) o

-- what the spread weights of the two simplices sum to differs by what the four numbers make of the differences
module _ (f : Event → ℤ) (p q : Vector) (o : Four Event) (n : Four ℤ) where
  abbrev pub atoms : List ℤ
  atoms = f (at_start p) ∷ f (at_end q) ∷ all n ++ all (times_of o) ++ all (each f o)

  abbrev pub first_total : Form → ℤ
  first_total form = total f (weights_of (first_numbers form o n)) (formed form p q o).first

  abbrev pub second_total : Form → ℤ
  second_total form = total f (weights_of (second_numbers form n)) (formed form p q o).second

  abbrev pub between : ℤ
  between = dot4 n (each (apart f p q) o)
