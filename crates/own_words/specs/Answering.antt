-- From the faults of the entries and the words that were found to the answer of the whole call.
use Rattle.std.specs.Prelude.{ℕ, ◌≤◌, ◌<◌, ◌≡◌, refl, length, Err, Ok, Result}
use mathlib.Core.List.{List, [], ◌∷◌, ◌++◌, map}
use Rattle.std.proofs.Common.{◌∙◌, subst, lt-ltb, le-ltb}
use Rattle.std.proofs.Math.Path.{ap}
use Rattle.std.proofs.Math.ListN.{take}
use Rattle.std.proofs.Math.Seq.{take-length}
use Rattle.sequences.specs.Wrote.{written}
use Rattle.meaning.specs.Scene.{Scene, Accepted}
use Rattle.meaning.specs.Refusals.{SceneChecked, Outcome, given, Answers, number_of, carrying, outcome_of}
use Rattle.meaning.specs.List.{Pair, leaves}
use Rattle.meaning.specs.declared.Refusal.{Refusal}
use Rattle.meaning.specs.declared.Refusal.TheVariants.{Shape, NoRoom}
use Rattle.answers.specs.Answering.{refuses, lets_pass, gives, refused_before, given_before}
use Rattle.scene_checks.specs.Accepting.{after_accepted, after_refused}
use Rattle.scene_seams.specs.Alone.{tabled}
use Rattle.scene_checks.specs.Checking.{Stitched, from_table}
use Rattle.list_words.specs.Listed.{words_of, bytes_of, all_judged, pairs_in}
use Rattle.meaning.specs.OwnList.{asked_for, entry_faults, word_room, own_limit, OwnSettled}
use Rattle.own_words.specs.Faults.{FaultFound}
use Rattle.meaning.specs.declared.Refused.{Refused}

abbrev IsLength : List ℕ → ℕ → Type 0
IsLength es n = n ≡ length es

-- the entries of an accepted scene were looked at and judged, if there is room
pub record OwnJudged (s : Scene) (es b b' : List ℕ) (r : Result ℕ Refused) : Type 0 where
  pub answer : Answers (entry_faults s es ++ (word_room es (length b) ∷ [])) (IsLength es) (outcome_of r)
  pub bytes : b' ≡ leaves (outcome_of r) (bytes_of s (map asked_for es)) b

-- a list that is too long
pub own_long : (s : Scene) (es b : List ℕ) → own_limit < length es → OwnSettled s es b b (Err (carrying Shape 0))
unfolding outcome_of leaves number_of
own_long s es b h = record {
  answer = refuses _ _ _ _ (lt-ltb _ _ h) refl;
  words = words_of s (map asked_for es);
  right = all_judged s (map asked_for es);
  bytes = refl;
}

module _ (s : Scene) (es b : List ℕ) where
  pub own_refused : length es ≤ own_limit → {checked : Result (Unit {0}) Refusal} (x : Refusal) → SceneChecked s checked → checked ≡ Err x
      → OwnSettled s es b b (Err (carrying x 0))
  unfolding outcome_of leaves
  own_refused few x p e = record {
    answer = lets_pass _ _ _ _ (le-ltb _ _ few) (after_refused s (entry_faults s es ++ (word_room es (length b) ∷ [])) (IsLength es) e p);
    words = words_of s (map asked_for es);
    right = all_judged s (map asked_for es);
    bytes = refl;
  }

  pub own_accepted : length es ≤ own_limit → {b' : List ℕ} {r : Result ℕ Refused} → Accepted s → OwnJudged s es b b' r → OwnSettled s es b b' r
  own_accepted few {r = r} a j = record {
    answer = lets_pass _ _ _ _ (le-ltb _ _ few) (after_accepted s (entry_faults s es ++ (word_room es (length b) ∷ [])) (IsLength es) (outcome_of r) a j.answer);
    words = words_of s (map asked_for es);
    right = all_judged s (map asked_for es);
    bytes = j.bytes;
  }

  module _ {found : Result ℕ Refused} (f : FaultFound s es found) where
    -- an entry is at fault
    pub own_faulty : {x : Refused} → found ≡ Err x → OwnJudged s es b b (Err x)
    unfolding outcome_of leaves
    own_faulty {x} e = record {
      answer = refused_before (IsLength es) (IsLength es) (entry_faults s es) (word_room es (length b) ∷ []) (number_of x.why) x.carries (subst (FaultFound s es) e f).says;
      bytes = refl;
    }

    module _ {m : ℕ} (e : found ≡ Ok m) where
      sound : Answers (entry_faults s es) (IsLength es) (given m)
      unfolding outcome_of
      sound = (subst (FaultFound s es) e f).says

      after_entries : (o : Outcome ℕ) → Answers (word_room es (length b) ∷ []) (IsLength es) o
          → Answers (entry_faults s es ++ (word_room es (length b) ∷ [])) (IsLength es) o
      after_entries o a = given_before (IsLength es) (IsLength es) (entry_faults s es) (word_room es (length b) ∷ []) m o sound a

      pub own_no_room : length b < length es → m ≡ length es → OwnJudged s es b b (Err (carrying NoRoom m))
      unfolding outcome_of leaves number_of
      own_no_room h n = record {
        answer = rw n (after_entries _ (refuses _ _ _ _ (lt-ltb _ _ h) refl));
        bytes = refl;
      }

      pub own_judged : {b' : List ℕ} → length es ≤ length b → m ≡ length es → b' ≡ written (bytes_of s (pairs_in m es)) b
          → OwnJudged s es b b' (Ok m)
      unfolding outcome_of leaves
      own_judged h n w = record {
        answer = after_entries _ (lets_pass _ _ _ _ (le-ltb _ _ h) (gives _ _ n));
        bytes = w ∙ ap (λ (ps : List Pair). written (bytes_of s ps) b) (ap (λ (l : List ℕ). map asked_for l) (ap (λ (k : ℕ). take k es) n ∙ take-length es));
      }

-- what holds of the scene that the table tells holds of the scene
pub own_in_table : {s : Scene} {t t' : List ℕ} → Stitched s t t' → Accepted s → {es b b' : List ℕ} {r : Result ℕ Refused}
    → OwnJudged (tabled s.positions s.edges s.triangles t') es b b' r → OwnJudged s es b b' r
own_in_table h a {es} {b} {b'} {r} p = from_table (λ (u : Scene). OwnJudged u es b b' r) h a p
