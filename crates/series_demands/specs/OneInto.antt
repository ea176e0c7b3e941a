-- Two results that meet the promise of a series told in numbers are one: the number, the scene, the boxes, the list, the counts, the rows and the
-- eight numbers.
use Rattle.std.specs.Prelude.{ℕ, List, ◌≡◌, ℤ}
use Rattle.meaning.specs.Scene.{Scene}

pub record SameInto (r r' : ℕ) (left left' : Scene) (b b' : List ℤ) (l l' c c' rows rows' told told' : List ℕ) : Type 0 where
  pub number : r ≡ r'
  pub scene : left ≡ left'
  pub boxes : b ≡ b'
  pub list : l ≡ l'
  pub counts : c ≡ c'
  pub log : rows ≡ rows'
  pub numbers : told ≡ told'
