-- What the list's functions answer: of a scene that is accepted, and of any scene.
use Rattle.std.specs.Prelude.{ℕ, ◌≤◌, ◌<◌, ◌≡◌, ltb, length, Err, Ok, Result}
use mathlib.Core.List.{List, [], ◌∷◌}
use Rattle.std.proofs.Math.Path.{refl, ap}
use Rattle.std.proofs.Common.{◌∙◌, lt-ltb, le-ltb}
use Rattle.sequences.specs.Wrote.{written}
use Rattle.meaning.specs.Scene.{Scene, Accepted}
use Rattle.meaning.specs.Refusals.{Check, given, refused, number_of, Answers, SceneChecked, carrying, outcome_of}
use Rattle.meaning.specs.List.{pairs, entries, room_of, leaves, Counted, Listing}
use Rattle.meaning.specs.Runs.{box_tests, tests_left, Tested}
use Rattle.meaning.specs.declared.Refusal.{Refusal}
use Rattle.meaning.specs.declared.Refusal.TheVariants.{NoRoom}
use Rattle.answers.specs.Answering.{refuses, lets_pass, gives}
use Rattle.scene_checks.specs.Accepting.{checked_accepted, after_accepted, after_refused}
use Rattle.meaning.specs.declared.Refused.{Refused}

-- an answer gives the count of the listed pairs
abbrev pub IsCount : Scene → ℕ → Type 0
IsCount s n = n ≡ length (pairs s)

-- 7: more listed pairs than room
abbrev pub room_checks : Scene → ℕ → List Check
room_checks s room = record { number = 7; holds = ltb room (length (pairs s)); carries = length (pairs s) } ∷ []

-- the list of an accepted scene is made in a buffer that held o and holds o', if there is room for it
pub record ListedIn (s : Scene) (room : ℕ) (o o' : List ℕ) (r : Result ℕ Refused) : Type 0 where
  pub answer : Answers (room_checks s room) (IsCount s) (outcome_of r)
  pub buffer : o' ≡ leaves (outcome_of r) (entries (pairs s)) o

module _ (s : Scene) (room : ℕ) {n : ℕ} (counted : IsCount s n) (o : List ℕ) where
  pub too_many : room < n → ListedIn s room o o (Err (carrying NoRoom n))
  unfolding outcome_of number_of leaves
  too_many h =
      record {
        answer = refuses (IsCount s) _ [] (refused 7 n) (lt-ltb room (length (pairs s)) (rw counted at h)) (ap (refused 7) counted);
        buffer = refl;
      }

  pub listed : {o' : List ℕ} → n ≤ room → o' ≡ written (entries (pairs s)) o
      → ListedIn s room o o' (Ok n)
  unfolding outcome_of leaves
  listed h e =
      record {
        answer = lets_pass (IsCount s) _ [] (given n) (le-ltb room (length (pairs s)) (rw counted at h)) (gives (IsCount s) n counted);
        buffer = e;
      }

-- ---- with the box tests in a lent number

module _ (s : Scene) {Right : Result ℕ Refused → Type 0} {t : List ℕ} where
  pub tested_refused : {x : Refusal} {n : ℕ} → Right (Err (carrying x n)) → Tested s Right t t (Err (carrying x n))
  unfolding outcome_of tests_left
  tested_refused p = record { list = p; tests = refl }

  pub tested_listed : {m : ℕ} {t' : List ℕ} {n : ℕ} → Right (Ok m) → t' ≡ n ∷ [] → n ≡ box_tests s
      → Tested s Right t t' (Ok m)
  unfolding outcome_of tests_left
  tested_listed p e h = record { list = p; tests = e ∙ ap (λ (k : ℕ). k ∷ []) h }

  pub tested_as : {Wanted : Result ℕ Refused → Type 0} {t' : List ℕ} {r : Result ℕ Refused} → (Right r → Wanted r) → Tested s Right t t' r → Tested s Wanted t t' r
  tested_as f p = record { list = f p.list; tests = p.tests }

-- ---- any scene, from what its check answered

module _ (s : Scene) {checked : Result (Unit {0}) Refusal} (p : SceneChecked s checked) where
  pub accepted_from : checked ≡ Ok tt → Accepted s
  accepted_from e = checked_accepted s (rw e at p)

  module _ (o : List ℕ) where
    pub listing_refused : (x : Refusal) → checked ≡ Err x → Listing s o o (Err (carrying x 0))
    unfolding outcome_of leaves
    listing_refused x e =
        record { answer = after_refused s (room_checks s (room_of o)) (IsCount s) e p; buffer = refl }

    pub listing_accepted : {o' : List ℕ} {r : Result ℕ Refused} {room : ℕ} → checked ≡ Ok tt → room ≡ room_of o
        → ListedIn s room o o' r → Listing s o o' r
    listing_accepted {o'} {r} e q l =
        record {
          answer = after_accepted s (room_checks s (room_of o)) (IsCount s) (outcome_of r) (accepted_from e) (rw q at l.answer);
          buffer = l.buffer;
        }

  pub counted_refused : (x : Refusal) → checked ≡ Err x → Counted s (Err (carrying x 0))
  unfolding outcome_of
  counted_refused x e = after_refused s [] (IsCount s) e p

  pub counted_accepted : {n : ℕ} → checked ≡ Ok tt → IsCount s n
      → Counted s (Ok n)
  unfolding outcome_of
  counted_accepted {n} e h = after_accepted s [] (IsCount s) (given n) (accepted_from e) (gives (IsCount s) n h)
