-- What a match says of an answer that it does not take for open: the turns that follow do not change it.
use mathlib.Core.Path.{◌≡◌, refl}
use mathlib.Core.Logic.{◌⊎◌, inl, inr}
use Rattle.corner_leaf.specs.declared.Leaf.{Leaf}
use Rattle.corner_leaf.specs.declared.Leaf.TheVariants.{Yes, No, Open}
use Rattle.corner_leaf.specs.Answer.{otherwise}

pub not_open : (r : Leaf) → (r ≡ Open → ⊥) → (x : Leaf) → r ≡ otherwise r x
unfolding otherwise
not_open Yes h x = refl
not_open No h x = refl
not_open Open h x = absurd (h refl)

pub decided : (r : Leaf) → (r ≡ Open → ⊥) → (r ≡ Yes) ⊎ (r ≡ No)
decided Yes h = inl refl
decided No h = inr refl
decided Open h = absurd (h refl)
