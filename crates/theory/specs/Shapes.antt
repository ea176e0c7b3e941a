-- Each of the two forms is solved by the signed volumes of its four differences: by Cramer's rule all four numbers that combine the
-- differences to the origin are proportional to the volumes, and every weight is linear in the four.
use Rattle.std.specs.Prelude.{ℕ, ◌≡◌, List, ℤ}
use Rattle.whole.specs.Vector.{Vector}
use Rattle.whole.specs.Cramer.{Four, volumes, dot4}
use Rattle.meaning.specs.Pieces.{Event}
use Rattle.theory.specs.Differences.{differences, Form}
use Rattle.theory.specs.Spread.{weights_of}

-- ---- linear in four numbers

pub record Linear (g : Four ℤ → ℤ) : Type 0 where
  pub by : Four ℤ
  pub is : (n : Four ℤ) → g n ≡ dot4 n by

pub record LinearList (l : Four ℤ → List ℤ) : Type 0 where
  pub entry : (i : ℕ) → Linear (λ n. weights_of (l n) i)

-- ---- so each form is solved

module _ (form : Form) (p q : Vector) (o : Four Event) where
  abbrev pub E : Four ℤ
  E = volumes (differences p q o)
