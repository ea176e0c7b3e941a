-- From the look over the stored boxes to the answers of the calls that count and list from them. 7 comes after the look.
use Rattle.std.specs.Prelude.{ℕ, ◌≡◌, ℤ, Err, Ok, Result}
use mathlib.Core.List.{List, []}
use Rattle.std.proofs.Math.Path.{refl}
use Rattle.meaning.specs.Scene.{Scene}
use Rattle.meaning.specs.Refusals.{given, carrying, outcome_of}
use Rattle.meaning.specs.List.{room_of, leaves}
use Rattle.meaning.specs.StoredBoxes.{CountedStored, ListedStored}
use Rattle.meaning.specs.declared.Refusal.{Refusal}
use Rattle.answers.specs.Answering.{gives}
use Rattle.list_pairs.specs.Answering.{IsCount, room_checks, ListedIn}
use Rattle.stored_checks.specs.Looked.{LookedAt, refused_too, accepted_too}
use Rattle.meaning.specs.declared.Refused.{Refused}

module _ {s : Scene} {b : List ℤ} {t t' : List ℕ} {r : Result (Unit {0}) Refusal} (p : LookedAt s b t t' r) where
  pub counted_refused : (x : Refusal) → r ≡ Err x → CountedStored s b (Err (carrying x 0))
  unfolding outcome_of
  counted_refused x e = refused_too p [] (IsCount s) x e

  pub counted_right : {n : ℕ} → r ≡ Ok tt → IsCount s n → CountedStored s b (Ok n)
  unfolding outcome_of
  counted_right {n} e h = accepted_too p [] (IsCount s) (given n) e (gives (IsCount s) n h)

  pub listed_refused : (o : List ℕ) (x : Refusal) → r ≡ Err x → ListedStored s b o o (Err (carrying x 0))
  unfolding outcome_of leaves
  listed_refused o x e = record { answer = refused_too p (room_checks s (room_of o)) (IsCount s) x e; buffer = refl }

  pub listed_right : {o o' : List ℕ} {a : Result ℕ Refused} {room : ℕ} → r ≡ Ok tt → room ≡ room_of o → ListedIn s room o o' a
      → ListedStored s b o o' a
  listed_right {o} {o'} {a} e q l =
      record { answer = accepted_too p (room_checks s (room_of o)) (IsCount s) (outcome_of a) e (rw q at l.answer); buffer = l.buffer }
