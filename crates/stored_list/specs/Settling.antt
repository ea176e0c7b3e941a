-- From the look over the stored boxes, and from the list and its words, to the answer of the whole call.
use Rattle.std.specs.Prelude.{ℕ, min, List, ◌≡◌, refl, ℤ, length, Err, Ok, Result}
use Rattle.meaning.specs.Scene.{Scene}
use Rattle.meaning.specs.List.{pairs, room_of, leaves}
use Rattle.meaning.specs.StoredBoxes.{SettledStored}
use Rattle.meaning.specs.declared.Refusal.{Refusal}
use Rattle.list_pairs.specs.Answering.{IsCount, room_checks}
use Rattle.stored_checks.specs.Looked.{LookedAt, refused_too, accepted_too}
use Rattle.list_words.specs.Answering.{SettledIn}
use Rattle.list_words.specs.Listed.{words_of, all_judged}
use Rattle.meaning.specs.declared.Refused.{Refused}
use Rattle.meaning.specs.Refusals.{carrying, outcome_of}

module _ {s : Scene} {b : List ℤ} {t t' : List ℕ} {r : Result (Unit {0}) Refusal} (p : LookedAt s b t t' r) where
  pub settled_refused : (o w : List ℕ) (x : Refusal) → r ≡ Err x
      → SettledStored s b o o w w (Err (carrying x 0))
  unfolding outcome_of leaves
  settled_refused o w x e =
      record {
        answer = refused_too p (room_checks s (min (room_of o) (length w))) (IsCount s) x e;
        list = refl;
        words = words_of s (pairs s);
        right = all_judged s (pairs s);
        bytes = refl;
      }

  pub settled_right : {o o' w w' : List ℕ} {a : Result ℕ Refused} → r ≡ Ok tt
      → SettledIn s (min (room_of o) (length w)) o o' w w' a → SettledStored s b o o' w w' a
  settled_right {o} {o'} {w} {w'} {a} e j =
      record {
        answer = accepted_too p (room_checks s (min (room_of o) (length w))) (IsCount s) (outcome_of a) e j.list.answer;
        list = j.list.buffer;
        words = words_of s (pairs s);
        right = all_judged s (pairs s);
        bytes = j.bytes;
      }
