-- From the faults of the entries and the contacts that were found to the answer of the whole call.
use Rattle.std.specs.Prelude.{ℕ, ◌/◌, ◌≤◌, ◌<◌, min, true, false, ◌≡◌, length, take, Err, Ok, Result}
use mathlib.Core.List.{List, [], ◌∷◌, ◌++◌, map}
use Rattle.std.proofs.Math.Path.{refl, ap}
use Rattle.std.proofs.Common.{◌∙◌, subst, lt-ltb, le-ltb}
use Rattle.std.proofs.Math.Seq.{take-length}
use Rattle.sequences.specs.Wrote.{written}
use Rattle.meaning.specs.Limits.{contact_limit}
use Rattle.meaning.specs.Scene.{Scene, reaches_beyond, Accepted}
use Rattle.meaning.specs.Refusals.{SceneChecked, Check, Answers, number_of, carrying, outcome_of}
use Rattle.meaning.specs.List.{Pair, leaves}
use Rattle.meaning.specs.WholeContacts.{range_check, row_length, rows_left, rows_after}
use Rattle.meaning.specs.declared.Refusal.{Refusal}
use Rattle.meaning.specs.declared.Refusal.TheVariants.{Shape, NoRoom, BeyondOldRange}
use Rattle.answers.specs.Answering.{refuses, lets_pass, gives, refused_before, given_before}
use Rattle.scene_checks.specs.Accepting.{after_accepted, after_refused}
use Rattle.scene_seams.specs.Alone.{tabled}
use Rattle.scene_checks.specs.Checking.{Stitched, from_table}
use Rattle.list_words.specs.Listed.{pairs_in}
use Rattle.contact_entries.specs.Listed.{contacts_of, contact_bytes, all_met}
use Rattle.meaning.specs.OwnList.{asked_for, entry_faults, word_room, own_limit, OwnContacts}
use Rattle.own_words.specs.Faults.{FaultFound}
use Rattle.meaning.specs.declared.Refused.{Refused}

abbrev IsLength : List ℕ → ℕ → Type 0
IsLength es n = n ≡ length es

-- 16, then 7
abbrev last_checks : Scene → List ℕ → List ℕ → List ℕ → List Check
last_checks s es b c = range_check s ∷ word_room es (min (length b) (length c / row_length)) ∷ []

-- entries that are not at fault were met, in the old range and where there is room
pub record SoundMet (s : Scene) (es b b' c c' : List ℕ) (r : Result ℕ Refused) : Type 0 where
  pub answer : Answers (last_checks s es b c) (IsLength es) (outcome_of r)
  pub bytes : b' ≡ leaves (outcome_of r) (contact_bytes s (map asked_for es)) b
  pub rows : c' ≡ rows_after (outcome_of r) (contacts_of s (map asked_for es)) c

-- the entries of an accepted scene were looked at and met
pub record AskedMet (s : Scene) (es b b' c c' : List ℕ) (r : Result ℕ Refused) : Type 0 where
  pub answer : Answers (entry_faults s es ++ last_checks s es b c) (IsLength es) (outcome_of r)
  pub bytes : b' ≡ leaves (outcome_of r) (contact_bytes s (map asked_for es)) b
  pub rows : c' ≡ rows_after (outcome_of r) (contacts_of s (map asked_for es)) c

-- a list that is too long
pub own_met_long : (s : Scene) (es b c : List ℕ) → own_limit < length es → OwnContacts s es b b c c (Err (carrying Shape 0))
unfolding outcome_of leaves rows_after number_of
own_met_long s es b c h = record {
  answer = refuses _ _ _ _ (lt-ltb _ _ h) refl;
  contacts = contacts_of s (map asked_for es);
  right = all_met s (map asked_for es);
  bytes = refl;
  rows = refl;
}

module _ (s : Scene) (es b c : List ℕ) where
  -- ---- the scene

  pub own_met_refused : length es ≤ own_limit → {checked : Result (Unit {0}) Refusal} (x : Refusal) → SceneChecked s checked → checked ≡ Err x
      → OwnContacts s es b b c c (Err (carrying x 0))
  unfolding outcome_of leaves rows_after
  own_met_refused few x p e = record {
    answer = lets_pass _ _ _ _ (le-ltb _ _ few) (after_refused s (entry_faults s es ++ last_checks s es b c) (IsLength es) e p);
    contacts = contacts_of s (map asked_for es);
    right = all_met s (map asked_for es);
    bytes = refl;
    rows = refl;
  }

  pub own_met_accepted : length es ≤ own_limit → {b' c' : List ℕ} {r : Result ℕ Refused} → Accepted s → AskedMet s es b b' c c' r → OwnContacts s es b b' c c' r
  own_met_accepted few {r = r} a j = record {
    answer = lets_pass _ _ _ _ (le-ltb _ _ few) (after_accepted s (entry_faults s es ++ last_checks s es b c) (IsLength es) (outcome_of r) a j.answer);
    contacts = contacts_of s (map asked_for es);
    right = all_met s (map asked_for es);
    bytes = j.bytes;
    rows = j.rows;
  }

  -- ---- the entries

  module _ {found : Result ℕ Refused} (f : FaultFound s es found) where
    pub asked_faulty : (x : Refused) → found ≡ Err x → AskedMet s es b b c c (Err x)
    unfolding outcome_of leaves rows_after
    asked_faulty x e = record {
      answer = refused_before (IsLength es) (IsLength es) (entry_faults s es) (last_checks s es b c) (number_of x.why) x.carries (subst (FaultFound s es) e f).says;
      bytes = refl;
      rows = refl;
    }

    pub asked_sound : {m : ℕ} {b' c' : List ℕ} {r : Result ℕ Refused} → found ≡ Ok m → SoundMet s es b b' c c' r
        → AskedMet s es b b' c c' r
    unfolding outcome_of
    asked_sound {m} {r = r} e j = record {
      answer = given_before (IsLength es) (IsLength es) (entry_faults s es) (last_checks s es b c) m (outcome_of r) (subst (FaultFound s es) e f).says j.answer;
      bytes = j.bytes;
      rows = j.rows;
    }

  -- ---- 16, 7, and the contacts

  pub sound_beyond : reaches_beyond contact_limit s ≡ true → SoundMet s es b b c c (Err (carrying BeyondOldRange 0))
  unfolding outcome_of leaves rows_after number_of
  sound_beyond far = record { answer = refuses _ _ _ _ far refl; bytes = refl; rows = refl }

  module _ (near : reaches_beyond contact_limit s ≡ false) where
    pub sound_no_room : min (length b) (length c / row_length) < length es → SoundMet s es b b c c (Err (carrying NoRoom (length es)))
    unfolding outcome_of leaves rows_after number_of
    sound_no_room h = record { answer = lets_pass _ _ _ _ near (refuses _ _ _ _ (lt-ltb _ _ h) refl); bytes = refl; rows = refl }

    all_of : map asked_for (take (length es) es) ≡ map asked_for es
    all_of = ap (λ (l : List ℕ). map asked_for l) (take-length es)

    pub sound_met : {b' c' : List ℕ} → length es ≤ min (length b) (length c / row_length)
        → b' ≡ written (contact_bytes s (pairs_in (length es) es)) b → c' ≡ rows_left (contacts_of s (pairs_in (length es) es)) c
        → SoundMet s es b b' c c' (Ok (length es))
    unfolding outcome_of leaves rows_after
    sound_met h w v = record {
      answer = lets_pass _ _ _ _ near (lets_pass _ _ _ _ (le-ltb _ _ h) (gives _ _ refl));
      bytes = w ∙ ap (λ (ps : List Pair). written (contact_bytes s ps) b) all_of;
      rows = v ∙ ap (λ (ps : List Pair). rows_left (contacts_of s ps) c) all_of;
    }

-- what holds of the scene that the table tells holds of the scene
pub met_in_table : {s : Scene} {t t' : List ℕ} → Stitched s t t' → Accepted s → {es b b' c c' : List ℕ} {r : Result ℕ Refused}
    → AskedMet (tabled s.positions s.edges s.triangles t') es b b' c c' r → AskedMet s es b b' c c' r
met_in_table h a {es} {b} {b'} {c} {c'} {r} p = from_table (λ (u : Scene). AskedMet u es b b' c c' r) h a p
