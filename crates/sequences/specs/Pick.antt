-- A choice by a test. Definitions by tests are chains of it, and code that branches mirrors them.
use Rattle.std.specs.Prelude.{Bool, true, false, not, ◌&&◌, ◌||◌, ◌⊎◌, ◌≡◌, refl}
use Rattle.std.proofs.Common.{true≢false, inl, inr}
use Rattle.std.proofs.lemmas.Bool.{false≢true}

abbrev pub pick {ℓ} : {A : Type ℓ} → Bool → A → A → A
pick true a b = a
pick false a b = b

pub either : (t : Bool) → (t ≡ true) ⊎ (t ≡ false)
either true = inl refl
either false = inr refl

-- ---- tests that are joined

pub both : (s t : Bool) → s && t ≡ true → (s ≡ true) × (t ≡ true)
both true t e = (refl, e)
both false t e = absurd (false≢true e)

pub not_both : (s t : Bool) → s && t ≡ false → (s ≡ false) ⊎ ((s ≡ true) × (t ≡ false))
not_both true t e = inr (refl, e)
not_both false t e = inl refl

pub neither : (s t : Bool) → s || t ≡ false → (s ≡ false) × (t ≡ false)
neither true t e = absurd (true≢false e)
neither false t e = (refl, e)

pub one_of : (s t : Bool) → s || t ≡ true → (s ≡ true) ⊎ ((s ≡ false) × (t ≡ true))
one_of true t e = inl refl
one_of false t e = inr (refl, e)

pub or_true : (s t : Bool) → t ≡ true → s || t ≡ true
or_true true t e = refl
or_true false t e = e

-- ---- choice

module _ {ℓ} {A : Type ℓ} where
  pub pick_true : {t : Bool} (a b : A) → t ≡ true → pick t a b ≡ a
  pick_true a b e = rw e

  pub pick_false : {t : Bool} (a b : A) → t ≡ false → pick t a b ≡ b
  pick_false a b e = rw e

  pub pick_same : (t : Bool) (a : A) → pick t a a ≡ a
  pick_same true a = refl
  pick_same false a = refl

  pub pick_not : (t : Bool) (a b : A) → pick (not t) a b ≡ pick t b a
  pick_not true a b = refl
  pick_not false a b = refl

  pub pick_and : (s t : Bool) (a b : A) → pick (s && t) a b ≡ pick s (pick t a b) b
  pick_and true t a b = refl
  pick_and false t a b = refl

  pub pick_or : (s t : Bool) (a b : A) → pick (s || t) a b ≡ pick s a (pick t a b)
  pick_or true t a b = refl
  pick_or false t a b = refl

  -- a function of a choice is a choice of its values
  pub pick_into {κ} : {B : Type κ} (f : A → B) (t : Bool) (a b : A) → f (pick t a b) ≡ pick t (f a) (f b)
  pick_into f true a b = refl
  pick_into f false a b = refl

  -- what holds of the chosen one whichever way the test goes holds of the choice
  pub pick_has {κ} : (P : A → Type κ) (t : Bool) {a b : A} → (t ≡ true → P a) → (t ≡ false → P b) → P (pick t a b)
  pick_has P true f g = f refl
  pick_has P false f g = g refl

  -- and the other way: what holds of a choice holds of the one that its test chose
  pub pick_gave {κ} : (P : A → Type κ) (t : Bool) {a b : A} → P (pick t a b) → ((t ≡ true) × P a) ⊎ ((t ≡ false) × P b)
  pick_gave P true p = inl (refl, p)
  pick_gave P false p = inr (refl, p)
