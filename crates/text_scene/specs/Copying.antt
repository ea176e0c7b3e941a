-- The front of one list copied to the front of another, element by element.
use Rattle.std.specs.Prelude.{ℕ, ◌+◌, ◌≤◌, ◌<◌, List, ◌∷◌, ◌≡◌, length, take, drop, get_or, set}
use Rattle.std.proofs.Common.{ap, ◌∙◌, arith, drop_of_length-le, length-take-le, get_or-take}
use Rattle.sequences.specs.Parts.{drop_next}
use Rattle.sequences.specs.Writing.{Writing, writing_starts_front, writing_room, writing_step, writing_as, writing_ends_front}
use Rattle.sequences.specs.Wrote.{written}

-- the first k of so many are copied: the list held o₀ and holds o
pub record Copying {A : Type 0} (own o₀ : List A) (count : ℕ) (o : List A) (k : ℕ) : Type 0 where
  pub writing : Writing o₀ (take count own) o k (drop k (take count own))

module _ {A : Type 0} (d : A) (own : List A) (count : ℕ) (there : count ≤ length own) where
  pub copy_starts : (o : List A) → count ≤ length o → Copying own o count o 0
  copy_starts o room = record { writing = writing_starts_front o (take count own) (rw (length-take-le count own there) room) }

  left : (k : ℕ) → k < count → drop k (take count own) ≡ get_or own k d ∷ drop (k + 1) (take count own)
  left k h =
      drop_next (take count own) k d (rw (length-take-le count own there) h)
      ∙ ap (λ (a : A). a ∷ drop (k + 1) (take count own)) (get_or-take count own k d h)

  pub copy_room : {o₀ o : List A} {k : ℕ} → k < count → Copying own o₀ count o k → k < length o
  copy_room {o₀} {o} {k} h so = writing_room (writing_as (left k h) so.writing)

  pub copy_goes : {o₀ o : List A} {k : ℕ} → k < count → Copying own o₀ count o k → Copying own o₀ count (set o k (get_or own k d)) (k + 1)
  copy_goes {o₀} {o} {k} h so = record { writing = writing_step (writing_as (left k h) so.writing) }

  pub copy_ends : {o₀ o : List A} {k : ℕ} → count ≤ k → Copying own o₀ count o k → o ≡ written (take count own) o₀
  copy_ends {o₀} {o} {k} h so =
      writing_ends_front (writing_as (drop_of_length-le (take count own) {i = k} (rw (length-take-le count own there) h)) so.writing)
