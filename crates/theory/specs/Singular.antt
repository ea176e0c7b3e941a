-- Where the six equations have exactly one rational solution, their determinant is not 0: else the differences would depend on one another
-- in a second way, and that way, added to the solution, would give another one.
use Rattle.std.specs.Prelude.{◌≡◌, List, ℕ, ◌<◌, ℤ, pos, length}
use Rattle.whole.specs.Vector.{Vector, minus, scale}
use Rattle.whole.specs.Cramer.{Four}
use Rattle.meaning.specs.Pieces.{Event}
use Rattle.theory.specs.Differences.{differences, Form, alone, around, formed}
use Rattle.theory.specs.Spread.{weights_of}
use Rattle.theory.specs.OneSolution.{OneSolution}

-- ---- so the four differences, less the last one where it counts, are independent

unfoldable pub lead : Form → ℤ
lead alone = pos 1
lead around = pos 0

abbrev pub less : ℤ → Vector → Vector → Vector
less k v w = minus v (scale k w)

-- no weight of the points that are there
abbrev pub There : List Event → List ℤ → Type 0
There l w = (i : ℕ) → i < length l → weights_of w i ≡ pos 0

module _ (form : Form) (p q : Vector) (o : Four Event) (O : OneSolution (formed form p q o).first (formed form p q o).second) where
  abbrev pub d : Four Vector
  d = differences p q o
