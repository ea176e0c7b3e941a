-- The list walked into an array of one's own: where it has room for all of it, it stands in front.
use Rattle.std.specs.Prelude.{ℕ, ◌+◌, ◌≤◌, ◌<◌, List, ◌∷◌, ◌≡◌, length, take, drop, get_or, set}
use Rattle.std.proofs.Common.{ap, ◌∙◌, zero-add, arith, drop_of_length-le, length-take-le, get_or-take}
use Rattle.sequences.specs.Parts.{drop_next}
use Rattle.sequences.specs.Writing.{Writing, writing_starts_front, writing_room, writing_step, writing_as, writing_ends_front}
use Rattle.sequences.specs.Wrote.{written, wrote_front}
use Rattle.meaning.specs.Scene.{Scene}
use Rattle.meaning.specs.List.{pairs, entries}
use Rattle.list_entries.specs.UpTo.{Walked}
use Rattle.list_entries.proofs.UpTo.{walked_wrote, walked_length}

pub record OwnList (s : Scene) (own : List ℕ) (count : ℕ) : Type 0 where
  pub counts : count ≡ length (pairs s)
  pub front : count ≤ length own → take count own ≡ entries (pairs s)

module _ (s : Scene) {o o' : List ℕ} {most m : ℕ} (w : Walked most o 0 (pairs s) o' m) where
  walked_count : m ≡ length (pairs s)
  walked_count = rw (zero-add (length (pairs s))) at w.counts

  pub own_list : most ≡ length o → OwnList s o' m
  own_list all =
      record {
        counts = walked_count;
        front = λ h. (walked_wrote (omega (arith, walked_length w)) (omega arith) w).front;
      }

  -- walked into a lent list with room for all of it
  pub walked_whole : most ≡ length (pairs s) → most ≤ length o → o' ≡ written (entries (pairs s)) o
  walked_whole all room = wrote_front (walked_wrote (omega (arith, walked_count)) room w)

-- ---- copied entry by entry

-- the first k of so many are copied: the list held o₀ and holds o
pub record Copying (own o₀ : List ℕ) (count : ℕ) (o : List ℕ) (k : ℕ) : Type 0 where
  pub writing : Writing o₀ (take count own) o k (drop k (take count own))

module _ (own : List ℕ) (count : ℕ) (there : count ≤ length own) where
  pub copy_starts : (o : List ℕ) → count ≤ length o → Copying own o count o 0
  copy_starts o room = record { writing = writing_starts_front o (take count own) (rw (length-take-le count own there) room) }

  left : (k : ℕ) → k < count → drop k (take count own) ≡ get_or own k 0 ∷ drop (k + 1) (take count own)
  left k h =
      drop_next (take count own) k 0 (rw (length-take-le count own there) h)
      ∙ ap (λ (n : ℕ). n ∷ drop (k + 1) (take count own)) (get_or-take count own k 0 h)

  pub copy_room : {o₀ o : List ℕ} {k : ℕ} → k < count → Copying own o₀ count o k → k < length o
  copy_room {o₀} {o} {k} h so = writing_room (writing_as (left k h) so.writing)

  pub copy_goes : {o₀ o : List ℕ} {k : ℕ} → k < count → Copying own o₀ count o k → Copying own o₀ count (set o k (get_or own k 0)) (k + 1)
  copy_goes {o₀} {o} {k} h so = record { writing = writing_step (writing_as (left k h) so.writing) }

  pub copy_ends : {o₀ o : List ℕ} {k : ℕ} → count ≤ k → Copying own o₀ count o k → o ≡ written (take count own) o₀
  copy_ends {o₀} {o} {k} h so =
      writing_ends_front (writing_as (drop_of_length-le (take count own) {i = k} (rw (length-take-le count own there) h)) so.writing)
