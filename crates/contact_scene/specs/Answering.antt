-- From the list that was made and the contacts that were found to the answer of the whole call.
use Rattle.std.specs.Prelude.{ℕ, ◌≤◌, true, false, List, [], ◌∷◌, ◌≡◌, length, Err, Ok, Result}
use Rattle.std.proofs.Math.Path.{refl}
use Rattle.std.proofs.Common.{ap, ◌∙◌}
use Rattle.sequences.specs.Wrote.{written}
use Rattle.meaning.specs.Limits.{contact_limit}
use Rattle.meaning.specs.Scene.{Scene, reaches_beyond, Accepted}
use Rattle.meaning.specs.Refusals.{SceneChecked, refused, number_of, room_check, carrying, outcome_of}
use Rattle.meaning.specs.List.{Pair, pairs, room_of, leaves}
use Rattle.meaning.specs.WholeContacts.{range_check, contact_room, rows_left, rows_after, ContactsListed}
use Rattle.meaning.specs.declared.Refusal.{Refusal}
use Rattle.meaning.specs.declared.Refusal.TheVariants.{BeyondOldRange}
use Rattle.answers.specs.Answering.{refuses, lets_pass}
use Rattle.scene_checks.specs.Accepting.{after_accepted, after_refused}
use Rattle.list_pairs.specs.Answering.{IsCount, ListedIn}
use Rattle.list_words.specs.Listed.{pairs_in}
use Rattle.list_words.specs.Answering.{made_pairs}
use Rattle.contact_entries.specs.Listed.{contacts_of, contact_bytes, all_met}
use Rattle.meaning.specs.declared.Refused.{Refused}

-- the list of a scene within the old range was made and judged, if there is room for it
pub record MetNear (s : Scene) (room : ℕ) (o o' b b' c c' : List ℕ) (r : Result ℕ Refused) : Type 0 where
  pub list : ListedIn s room o o' r
  pub bytes : b' ≡ leaves (outcome_of r) (contact_bytes s (pairs s)) b
  pub rows : c' ≡ rows_after (outcome_of r) (contacts_of s (pairs s)) c

module _ (s : Scene) (o b c : List ℕ) where
  pub met_refused : {checked : Result (Unit {0}) Refusal} (x : Refusal) → SceneChecked s checked → checked ≡ Err x
      → ContactsListed s o o b b c c (Err (carrying x 0))
  unfolding outcome_of leaves rows_after
  met_refused x p e = record {
    answer = after_refused s (range_check s ∷ room_check (contact_room o b c) (length (pairs s)) ∷ []) (IsCount s) e p;
    list = refl;
    contacts = contacts_of s (pairs s);
    right = all_met s (pairs s);
    bytes = refl;
    rows = refl;
  }

  pub met_beyond : Accepted s → reaches_beyond contact_limit s ≡ true → ContactsListed s o o b b c c (Err (carrying BeyondOldRange 0))
  unfolding outcome_of leaves rows_after number_of
  met_beyond a far = record {
    answer = after_accepted s (range_check s ∷ room_check (contact_room o b c) (length (pairs s)) ∷ []) (IsCount s) (refused (range_check s).number 0) a (refuses (IsCount s) (range_check s) _ (refused (range_check s).number 0) far refl);
    list = refl;
    contacts = contacts_of s (pairs s);
    right = all_met s (pairs s);
    bytes = refl;
    rows = refl;
  }

  pub met_near : {o' b' c' : List ℕ} {r : Result ℕ Refused} → Accepted s → reaches_beyond contact_limit s ≡ false → MetNear s (contact_room o b c) o o' b b' c c' r
      → ContactsListed s o o' b b' c c' r
  met_near {r = r} a near j = record {
    answer = after_accepted s (range_check s ∷ room_check (contact_room o b c) (length (pairs s)) ∷ []) (IsCount s) (outcome_of r) a (lets_pass (IsCount s) (range_check s) _ (outcome_of r) near j.list.answer);
    list = j.list.buffer;
    contacts = contacts_of s (pairs s);
    right = all_met s (pairs s);
    bytes = j.bytes;
    rows = j.rows;
  }

module _ {s : Scene} {room : ℕ} {o o' : List ℕ} {r : Result ℕ Refused} (l : ListedIn s room o o' r) where
  met_made : {m : ℕ} {b b' c c' : List ℕ} → r ≡ Ok m → b' ≡ written (contact_bytes s (pairs s)) b → c' ≡ rows_left (contacts_of s (pairs s)) c
      → MetNear s room o o' b b' c c' (Ok m)
  unfolding outcome_of leaves rows_after
  met_made e h k = record { list = rw e at l; bytes = h; rows = k }

  pub met_without_room : {x : Refused} {b c : List ℕ} → r ≡ Err x → MetNear s room o o' b b c c (Err x)
  unfolding outcome_of leaves rows_after
  met_without_room e = record { list = rw e at l; bytes = refl; rows = refl }

-- the entries that were met are the list's
pub met_listed : {s : Scene} {room : ℕ} {o o' b b' c c' : List ℕ} {r : Result ℕ Refused} {m : ℕ} → Accepted s → room ≤ room_of o
    → (l : ListedIn s room o o' r) (e : r ≡ Ok m)
    → b' ≡ written (contact_bytes s (pairs_in m o')) b → c' ≡ rows_left (contacts_of s (pairs_in m o')) c
    → MetNear s room o o' b b' c c' (Ok m)
met_listed {s} {b = b} {c = c} a h l e w v =
    let same = made_pairs a h l e in
    met_made l e (w ∙ ap (λ (ps : List Pair). written (contact_bytes s ps) b) same) (v ∙ ap (λ (ps : List Pair). rows_left (contacts_of s ps) c) same)
