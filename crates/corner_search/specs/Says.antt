-- What a step of the search says of the points left: that there are weights; or that there are none with one of its own corners left out, and,
-- unless the other step has handed over the same points, none at all. So what it says of points that nobody handed over is whether there are weights.
use Rattle.std.specs.Prelude.{ℕ, ◌≤◌, ◌<◌, ◌≡◌, refl, Bool, true, false, List, ℤ, set}
use Rattle.corner_leaf.specs.declared.SixPoints.{SixPoints}
use Rattle.corner_leaf.specs.declared.Leaf.{Leaf}
use Rattle.corner_leaf.specs.declared.Leaf.TheVariants.{Yes, No, Open}
use Rattle.corner_leaf.specs.Points.{is_left, TouchLeft}

abbrev pub is_yes : Leaf → Bool
is_yes Yes = true
is_yes No = false
is_yes Open = false

-- no weights with one of the corners from lo to hi left out
pub record NoneWithout (ps : List ℤ) (six : SixPoints) (left : List Bool) (lo hi : ℕ) : Type 0 where
  pub at : (i : ℕ) → lo ≤ i → i < hi → is_left left i ≡ true → ¬ TouchLeft ps six (set left i false)

pub data Says (ps : List ℤ) (six : SixPoints) (left : List Bool) (lo hi : ℕ) (tried : Bool) : Bool → Type 0 where
  touching : TouchLeft ps six left → Says ps six left lo hi tried true
  none : (tried ≡ false → ¬ TouchLeft ps six left) → NoneWithout ps six left lo hi → Says ps six left lo hi tried false

module _ {ps : List ℤ} {six : SixPoints} {left : List Bool} {lo hi : ℕ} {tried : Bool} where
  pub says_yes : Says ps six left lo hi tried true → TouchLeft ps six left
  says_yes (touching t) = t

  pub says_no : Says ps six left lo hi tried false → (tried ≡ false → ¬ TouchLeft ps six left) × NoneWithout ps six left lo hi
  says_no (none n w) = (n, w)

-- there are weights for the points left, or there are none
unfoldable pub Tells : List ℤ → SixPoints → List Bool → Bool → Type 0
Tells ps six left true = TouchLeft ps six left
Tells ps six left false = ¬ TouchLeft ps six left

pub says_tells : {ps : List ℤ} {six : SixPoints} {left : List Bool} {lo hi : ℕ} (r : Bool) → Says ps six left lo hi false r → Tells ps six left r
unfolding Tells
says_tells true s = says_yes s
says_tells false s = (says_no s).0 refl
