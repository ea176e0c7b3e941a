-- What is printed of a scene that was read: of its list, in a buffer of the program's own.
use Rattle.std.specs.Prelude.{ℕ, ◌≤◌, ◌<◌, true, false, ◌⊎◌, List, [], ◌++◌, ◌≡◌, refl, ltb, ℤ, length, replicate, Err, Result}
use Rattle.std.proofs.Common.{true≢false, inl, inr, sym, ◌∙◌, ap, subst, arith, ltb-true}
use Rattle.sequences.specs.Pick.{either}
use Rattle.sequences.specs.Wrote.{Wrote, wrote_unique}
use Rattle.meaning.specs.Limits.{contact_limit, report_room}
use Rattle.meaning.specs.Scene.{Scene, scene_of, reaches_beyond}
use Rattle.meaning.specs.Refusals.{Outcome, refused, number_of, Answers, outcome_of}
use Rattle.meaning.specs.List.{pairs, room_of}
use Rattle.meaning.specs.Report.{refused_line}
use Rattle.meaning.specs.WholeContacts.{range_check, AllContacts}
use Rattle.meaning.specs.ContactLines.{contact_lines, contact_total}
use Rattle.meaning.specs.declared.WholeContact.{WholeContact}
use Rattle.answers.specs.Answering.{is_refused, is_past}
use Rattle.list_pairs.specs.Answering.{room_checks, IsCount, ListedIn}
use Rattle.contact_entries.specs.Listed.{contacts_of, all_met, all_met_one}
use Rattle.report_words.specs.Lines.{wrote_as}
use Rattle.meaning.specs.declared.Refused.{Refused}

-- what is printed for a scene that was read: 16, or 7 with the count needed, or the contacts and the totals
pub data SceneContacts (s : Scene) : List ℕ → Type 0 where
  beyond_old_range : reaches_beyond contact_limit s ≡ true → SceneContacts s (refused_line (range_check s).number 0)
  no_room : reaches_beyond contact_limit s ≡ false → report_room < length (pairs s) → SceneContacts s (refused_line 7 (length (pairs s)))
  told : (ms : List WholeContact) → reaches_beyond contact_limit s ≡ false → length (pairs s) ≤ report_room → AllContacts s (pairs s) ms
      → SceneContacts s (contact_lines (pairs s) ms ++ contact_total ms)

pub record SceneTold (s : Scene) (o o' : List ℕ) (n : ℕ) : Type 0 where
  pub report : List ℕ
  pub right : SceneContacts s report
  pub wrote : Wrote o 0 report o' n

module _ (s : Scene) {o o' : List ℕ} {r : ℕ} where
  pub beyond_refused : reaches_beyond contact_limit s ≡ true → Wrote o 0 (refused_line (range_check s).number 0) o' r → SceneTold s o o' r
  beyond_refused far w = record { report = refused_line (range_check s).number 0; right = beyond_old_range far; wrote = w }

  pub room_refused : {n : ℕ} → reaches_beyond contact_limit s ≡ false → n ≡ length (pairs s) → report_room < length (pairs s)
      → Wrote o 0 (refused_line 7 n) o' r → SceneTold s o o' r
  room_refused near e h w =
      record { report = refused_line 7 (length (pairs s)); right = no_room near h; wrote = wrote_as (ap (refused_line 7) e) w }

  pub contacts_stand : reaches_beyond contact_limit s ≡ false → length (pairs s) ≤ report_room
      → Wrote o 0 (contact_lines (pairs s) (contacts_of s (pairs s)) ++ contact_total (contacts_of s (pairs s))) o' r → SceneTold s o o' r
  contacts_stand near few w = record {
    report = contact_lines (pairs s) (contacts_of s (pairs s)) ++ contact_total (contacts_of s (pairs s));
    right = told (contacts_of s (pairs s)) near few (all_met s (pairs s));
    wrote = w;
  }

-- of a scene with seams that are said in another way
pub told_as : {p : List ℤ} {e t w w' : List ℕ} {o o' : List ℕ} {n : ℕ} → w ≡ w' → SceneTold (scene_of p e t w) o o' n → SceneTold (scene_of p e t w') o o' n
told_as {p} {e} {t} {o} {o'} {n} same r = subst (λ (l : List ℕ). SceneTold (scene_of p e t l) o o' n) same r

-- the program's own list has room for the pairs of a report
pub own_room : room_of (replicate report_room 0) ≡ report_room
own_room = refl

-- a list that had no room
pub no_room_lem : {s : Scene} {room : ℕ} {o o' : List ℕ} {r : Result ℕ Refused} {x : Refused} → ListedIn s room o o' r
    → r ≡ Err x → (x.carries ≡ length (pairs s)) × (room < length (pairs s))
unfolding outcome_of Answers
no_room_lem {s} {room} {x} j e = by_test (either (ltb room (length (pairs s))))
  where
    a : Answers (room_checks s room) (IsCount s) (refused (number_of x.why) x.carries)
    a = rw e at j.answer

    by_test : (ltb room (length (pairs s)) ≡ true) ⊎ (ltb room (length (pairs s)) ≡ false) → (x.carries ≡ length (pairs s)) × (room < length (pairs s))
    by_test (inl h) =
        let same : ◌≡◌ {A = Outcome ℕ} (refused (number_of x.why) x.carries) (refused 7 (length (pairs s))) = is_refused (IsCount s) _ [] (refused (number_of x.why) x.carries) h a in
        (cc, ltb-true room (length (pairs s)) h)
    by_test (inr h) = absurd (is_past (IsCount s) _ [] (refused (number_of x.why) x.carries) h a)

-- ---- two results are one

pub one_scene_contacts : {s : Scene} {l l' : List ℕ} → SceneContacts s l → SceneContacts s l' → l ≡ l'
one_scene_contacts (beyond_old_range far) (beyond_old_range too) = refl
one_scene_contacts (beyond_old_range far) (no_room near m) = absurd (true≢false (sym far ∙ near))
one_scene_contacts (beyond_old_range far) (told ns near m w) = absurd (true≢false (sym far ∙ near))
one_scene_contacts (no_room near n) (beyond_old_range far) = absurd (true≢false (sym far ∙ near))
one_scene_contacts (no_room near n) (no_room also m) = refl
one_scene_contacts (no_room near n) (told ns also m w) = absurd (omega arith)
one_scene_contacts (told ms near n v) (beyond_old_range far) = absurd (true≢false (sym far ∙ near))
one_scene_contacts (told ms near n v) (no_room also m) = absurd (omega arith)
one_scene_contacts {s} (told ms near n v) (told ns also m w) =
    ap (λ (xs : List WholeContact). contact_lines (pairs s) xs ++ contact_total xs) (all_met_one s (pairs s) ms v ∙ sym (all_met_one s (pairs s) ns w))

pub one_scene_told : {s : Scene} {o o' o'' : List ℕ} {n n' : ℕ} → SceneTold s o o' n → SceneTold s o o'' n' → (o' ≡ o'') × (n ≡ n')
one_scene_told p q = wrote_unique p.wrote (rw (one_scene_contacts q.right p.right) at q.wrote)
