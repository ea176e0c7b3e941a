-- From the list that was made and the verdicts that were found to the answer of the whole call.
use Rattle.std.specs.Prelude.{ℕ, min, ◌≤◌, ◌≡◌, length, Err, Ok, Result}
use mathlib.Core.List.{List, []}
use Rattle.std.proofs.Math.Path.{refl}
use Rattle.std.proofs.Common.{ap, ◌∙◌, le_trans}
use Rattle.sequences.specs.Wrote.{written}
use Rattle.meaning.specs.Scene.{Scene, Accepted}
use Rattle.meaning.specs.Refusals.{SceneChecked, Answers, given, carrying, outcome_of}
use Rattle.meaning.specs.List.{Pair, pairs, entries, room_of, leaves}
use Rattle.meaning.specs.SceneWords.{SettledScene}
use Rattle.meaning.specs.declared.Refusal.{Refusal}
use Rattle.scene_checks.specs.Accepting.{after_accepted, after_refused}
use Rattle.list_pairs.specs.Answering.{room_checks, IsCount, ListedIn}
use Rattle.list_pairs.specs.Sizes.{pairs_narrow}
use Rattle.list_words.specs.Listed.{words_of, bytes_of, all_judged, ListStands, no_pair, pairs_in, AllThere, listed_all_there, listed_pairs_in}
use Rattle.list_entries.specs.Entries.{written_at, written_room}
use Rattle.answers.specs.Answering.{is_given}
use Rattle.scene_seams.specs.Alone.{tabled}
use Rattle.scene_checks.specs.Checking.{Stitched, from_table}
use borrow.Author.Tests.{ltb-false}
use Rattle.meaning.specs.declared.Refused.{Refused}

-- the list of an accepted scene was made and judged, if there is room for it
pub record SettledIn (s : Scene) (room : ℕ) (o o' b b' : List ℕ) (r : Result ℕ Refused) : Type 0 where
  pub list : ListedIn s room o o' r
  pub bytes : b' ≡ leaves (outcome_of r) (bytes_of s (pairs s)) b

pub judged_refused : (s : Scene) {checked : Result (Unit {0}) Refusal} (x : Refusal) (o b : List ℕ) → SceneChecked s checked
    → checked ≡ Err x → SettledScene s o o b b (Err (carrying x 0))
unfolding outcome_of leaves
judged_refused s x o b p e =
    record {
      answer = after_refused s (room_checks s (min (room_of o) (length b))) (IsCount s) e p;
      list = refl;
      words = words_of s (pairs s);
      right = all_judged s (pairs s);
      bytes = refl;
    }

pub judged_accepted : (s : Scene) {o o' b b' : List ℕ} {r : Result ℕ Refused} → Accepted s
    → SettledIn s (min (room_of o) (length b)) o o' b b' r → SettledScene s o o' b b' r
judged_accepted s {o} {o'} {b} {b'} {r} a j =
    record {
      answer = after_accepted s (room_checks s (min (room_of o) (length b))) (IsCount s) (outcome_of r) a j.list.answer;
      list = j.list.buffer;
      words = words_of s (pairs s);
      right = all_judged s (pairs s);
      bytes = j.bytes;
    }

-- what holds of the scene that the table tells holds of the scene
pub settled_in_table : {s : Scene} {t t' : List ℕ} → Stitched s t t' → Accepted s → {room : ℕ} {o o' b b' : List ℕ} {r : Result ℕ Refused}
    → SettledIn (tabled s.positions s.edges s.triangles t') room o o' b b' r → SettledIn s room o o' b b' r
settled_in_table h a {room} {o} {o'} {b} {b'} {r} p = from_table (λ (u : Scene). SettledIn u room o o' b b' r) h a p

-- ---- what a made list says

pub record MadeList (s : Scene) (room : ℕ) (o o' : List ℕ) (n : ℕ) : Type 0 where
  pub counts : n ≡ length (pairs s)
  pub fits : length (pairs s) ≤ room
  pub front : o' ≡ written (entries (pairs s)) o

module _ {s : Scene} {room : ℕ} {o o' : List ℕ} {r : Result ℕ Refused} (l : ListedIn s room o o' r) where
  pub made_list : {m : ℕ} → r ≡ Ok m → MadeList s room o o' m
  unfolding outcome_of leaves Answers
  made_list {m} e =
      let a : Answers (room_checks s room) (IsCount s) (given m) = rw e at l.answer in
      let (small, counted) = is_given (IsCount s) _ [] m a in
      record { counts = counted; fits = ltb-false room (length (pairs s)) small; front = rw e at l.buffer }

  pub judged_made : {m : ℕ} {b b' : List ℕ} → r ≡ Ok m → b' ≡ written (bytes_of s (pairs s)) b
      → SettledIn s room o o' b b' (Ok m)
  unfolding outcome_of leaves
  judged_made e h = record { list = rw e at l; bytes = h }

  pub judged_without_room : {x : Refused} {b : List ℕ} → r ≡ Err x → SettledIn s room o o' b b (Err x)
  unfolding outcome_of leaves
  judged_without_room e = record { list = rw e at l; bytes = refl }

pub made_stands : {s : Scene} {room : ℕ} {o o' : List ℕ} {n : ℕ} → Accepted s → room ≤ room_of o → MadeList s room o o' n → ListStands s o'
made_stands {s} {o} a h m =
    rw m.front
    (record {
      room = written_room (pairs s) o (le_trans m.fits h);
      at = λ k below. written_at (pairs s) o (pairs_narrow s a) k no_pair below;
    })

-- the entries that were judged are the list's, and they are there
module _ {s : Scene} {room : ℕ} {o o' : List ℕ} {r : Result ℕ Refused} {m : ℕ} (a : Accepted s) (h : room ≤ room_of o)
    (l : ListedIn s room o o' r) (e : r ≡ Ok m) where
  made : MadeList s room o o' m
  made = made_list l e

  pub made_within : m ≤ length o'
  made_within = rw made.counts (made_stands a h made).room

  pub made_there : AllThere s m o'
  made_there = rw made.counts (listed_all_there (made_stands a h made))

  pub made_pairs : pairs_in m o' ≡ pairs s
  made_pairs = ap (λ (n : ℕ). pairs_in n o') made.counts ∙ listed_pairs_in (made_stands a h made)

  pub judged_listed : {b b' : List ℕ} → b' ≡ written (bytes_of s (pairs_in m o')) b
      → SettledIn s room o o' b b' (Ok m)
  judged_listed {b} w =
      judged_made l e
      (w ∙ ap (λ (ps : List Pair). written (bytes_of s ps) b) made_pairs)
