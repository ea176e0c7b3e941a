-- How an answer is shown right: of the length asked for alone, and of the writer.
use Rattle.std.specs.Prelude.{ℕ, ◌≤◌, ◌<◌, ◌≡◌, refl, ltb, length, Err, Ok, Result}
use mathlib.Core.List.{List, [], ◌∷◌}
use Rattle.std.proofs.Common.{ap, lt-ltb, le-ltb}
use Rattle.std.proofs.Math.Path.{subst}
use Rattle.sequences.specs.Wrote.{written}
use Rattle.meaning.specs.Limits.{text_limit}
use Rattle.meaning.specs.Scene.{Scene, Accepted}
use Rattle.meaning.specs.Refusals.{Check, given, refused, number_of, Answers, SceneChecked, room_check, carrying, outcome_of}
use Rattle.meaning.specs.List.{leaves}
use Rattle.meaning.specs.declared.Refusal.{Refusal}
use Rattle.meaning.specs.declared.Refusal.TheVariants.{NoRoom, LongText}
use Rattle.answers.specs.Answering.{refuses, lets_pass, gives, is_given, refused_before, given_before}
use Rattle.scene_checks.specs.Accepting.{checked_accepted, after_accepted, past_accepted, after_refused}
use Rattle.meaning.specs.Saved.{saved_text, saved_checks, Measured, Saved}
use Rattle.meaning.specs.declared.Refused.{Refused}

abbrev pub IsLength : Scene → ℕ → Type 0
IsLength s n = n ≡ length (saved_text s)

abbrev long_check : Scene → Check
long_check s = record { number = 8; holds = ltb text_limit (length (saved_text s)); carries = 0 }

-- ---- the length alone

module _ (s : Scene) {checked : Result (Unit {0}) Refusal} (p : SceneChecked s checked) where
  pub measured_refused : (x : Refusal) → checked ≡ Err x → Measured s (Err (carrying x 0))
  unfolding outcome_of
  measured_refused x e = after_refused s (long_check s ∷ []) (IsLength s) e p

  module _ (e : checked ≡ Ok tt) {n : ℕ} (is : IsLength s n) where
    accepted : Accepted s
    accepted = checked_accepted s (subst (SceneChecked s) e p)

    pub measured_long : text_limit < n → Measured s (Err (carrying LongText 0))
    unfolding outcome_of number_of
    measured_long h =
        after_accepted s (long_check s ∷ []) (IsLength s) (refused 8 0) accepted
        (refuses (IsLength s) (long_check s) [] (refused 8 0) (lt-ltb text_limit (length (saved_text s)) (rw is at h)) refl)

    pub measured_given : n ≤ text_limit → Measured s (Ok n)
    unfolding outcome_of
    measured_given h =
        after_accepted s (long_check s ∷ []) (IsLength s) (given n) accepted
        (lets_pass (IsLength s) (long_check s) [] (given n) (le-ltb text_limit (length (saved_text s)) (rw is at h)) (gives (IsLength s) n is))

-- ---- what a length that was given says

module _ (s : Scene) {r : Result ℕ Refused} (m : Measured s r) {n : ℕ} (e : r ≡ Ok n) where
  told : Answers (saved_checks s) (IsLength s) (given n)
  unfolding outcome_of
  told = subst (Measured s) e m

  pub measured_accepted : Accepted s
  measured_accepted =
      let (h1, a1) = is_given (IsLength s) _ _ n told in
      let (h2, a2) = is_given (IsLength s) _ _ n a1 in
      let (h3, a3) = is_given (IsLength s) _ _ n a2 in
      let (h4, a4) = is_given (IsLength s) _ _ n a3 in
      let (h5, a5) = is_given (IsLength s) _ _ n a4 in
      record { shapely = h1; in_range = h2; known = h3; sewn_well = h4; distinct = h5 }

  last : Answers [] (IsLength s) (given n)
  last =
      (is_given (IsLength s) (long_check s) [] n (past_accepted s (long_check s ∷ []) (IsLength s) (given n) measured_accepted told)).1

  pub measured_is : IsLength s n
  unfolding Answers
  measured_is = last

  -- ---- the writer, from what the length was answered

  module _ (o : List ℕ) where
    pub saved_no_room : length o < n → Saved s o o (Err (carrying NoRoom n))
    unfolding outcome_of number_of leaves
    saved_no_room h =
        record {
          answer = given_before (IsLength s) (IsLength s) (saved_checks s) (room_check (length o) (length (saved_text s)) ∷ []) n (refused 7 n) told
              (refuses (IsLength s) (room_check (length o) (length (saved_text s))) [] (refused 7 n) (lt-ltb (length o) (length (saved_text s)) (rw measured_is at h)) (ap (refused 7) measured_is));
          buffer = refl;
        }

    pub saved_given : {o' : List ℕ} → n ≤ length o → o' ≡ written (saved_text s) o → Saved s o o' (Ok n)
    unfolding outcome_of leaves
    saved_given h w =
        record {
          answer = given_before (IsLength s) (IsLength s) (saved_checks s) (room_check (length o) (length (saved_text s)) ∷ []) n (given n) told
              (lets_pass (IsLength s) (room_check (length o) (length (saved_text s))) [] (given n) (le-ltb (length o) (length (saved_text s)) (rw measured_is at h)) (gives (IsLength s) n measured_is));
          buffer = w;
        }

pub saved_refused : (s : Scene) {r : Result ℕ Refused} → Measured s r → (x : Refused) → r ≡ Err x → (o : List ℕ) → Saved s o o (Err x)
unfolding outcome_of leaves
saved_refused s m x e o =
    record {
      answer = refused_before (IsLength s) (IsLength s) (saved_checks s) (room_check (length o) (length (saved_text s)) ∷ []) (number_of x.why) x.carries (subst (Measured s) e m);
      buffer = refl;
    }
