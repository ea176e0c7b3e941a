-- A list told by what stands in it and in which order: exactly the elements with a property, every earlier one smaller. That fixes the list.
use Rattle.std.specs.Prelude.{Bool, true, ◌⊎◌, ◌↔◌, ◌≡◌, ℕ, ◌≤◌, ◌<◌, length, get_or}
use mathlib.Core.List.Memᴰ
use mathlib.Core.List.{List, ◌++◌, Memᴰ}
use Rattle.std.proofs.Common.{inl, inr, ⊎_elim}
use mathlib.Core.Logic.Iff
use Rattle.sequences.specs.Chosen.{row, table_members}
use Rattle.sequences.specs.Gather.{gather}
use Rattle.sequences.specs.Rising.{Rising, rising_append, rising_table, rising_unique, rising_once}

module _ {ℓ} {A : Type ℓ} where
  module _ {κ μ} (R : A → A → Type κ) (P : A → Type μ) where
    -- exactly the elements that have P stand in the list, and every earlier one is smaller
    pub record Lists (l : List A) : Type (ℓ ⊔ κ ⊔ μ) where
      pub stands : (a : A) → Memᴰ a l ↔ P a
      pub rising : Rising R l

    -- there is one such list at most, and each element stands in it once
    pub lists_unique : ((a : A) → R a a → ⊥) → ((a b c : A) → R a b → R b c → R a c) → (l k : List A) → Lists l → Lists k → l ≡ k
    lists_unique irreflexive trans l k v w =
        rising_unique R irreflexive trans l k v.rising w.rising (λ a. Iff.trans (v.stands a) (Iff.symm (w.stands a)))

    pub lists_once : ((a : A) → R a a → ⊥) → (l : List A) → Lists l
        → (i j : ℕ) (d : A) → i < length l → j < length l → get_or l i d ≡ get_or l j d → i ≡ j
    lists_once irreflexive l v = rising_once R irreflexive l v.rising

  -- the property, said in another way
  pub lists_as {κ μ ν} : {R : A → A → Type κ} {P : A → Type μ} {Q : A → Type ν} {l : List A} → ((a : A) → P a ↔ Q a) → Lists R P l → Lists R Q l
  lists_as same v = record { stands = λ a. Iff.trans (v.stands a) (same a); rising = v.rising }

  -- one list behind the other, where all of the first are below all of the second
  pub lists_append {κ μ ν} : {R : A → A → Type κ} {P : A → Type μ} {Q : A → Type ν} {l k : List A} → Lists R P l → Lists R Q k
      → ((a b : A) → P a → Q b → R a b) → Lists R (λ a. P a ⊎ Q a) (l ++ k)
  lists_append {R} {l} {k} v w below =
      record {
        stands = λ a. (
          λ m. ⊎_elim (λ p. inl ((v.stands a).0 p)) (λ q. inr ((w.stands a).0 q)) (Memᴰ.append_cases l m),
          ⊎_elim (λ p. Memᴰ.append_left k ((v.stands a).1 p)) (λ q. Memᴰ.append_right l ((w.stands a).1 q)),
        );
        rising = rising_append R l k v.rising w.rising (λ a b p q. below a b ((v.stands a).0 p) ((w.stands b).0 q));
      }

  -- a table is the list of its entries whose test holds
  pub table_lists {κ} : (R : A → A → Type κ) (m : ℕ → ℕ → Bool) (g : ℕ → ℕ → A) (from : ℕ → ℕ) (k n : ℕ)
      → ((i j j' : ℕ) → j < j' → R (g i j) (g i j')) → ((i i' j j' : ℕ) → i < i' → R (g i j) (g i' j'))
      → Lists R (λ a. (i : ℕ) × (j : ℕ) × (i < k) × (from i ≤ j) × (j < n) × (m i j ≡ true) × (a ≡ g i j)) (gather (row m g from n) 0 k)
  table_lists R m g from k n along down =
      record { stands = table_members m g from k n; rising = rising_table R m g from k n along down }
