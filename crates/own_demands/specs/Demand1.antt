-- Demand 1 for a list of one's own: each number exactly when its condition holds and no check before it does, what it carries, when the words and
-- contacts are given, and that a refusal changes no lent number. The first entry at fault is told by the checks of the entries, computed.
use Rattle.std.specs.Prelude.{ℕ, ◌+◌, ◌/◌, min, Bool, ◌||◌, ◌↔◌, ◌≡◌, refl, eqb, ltb, length, Result}
use Rattle.std.proofs.Math.Bool.{true, false, cond}
use mathlib.Core.List.{List, [], ◌∷◌, ◌++◌, map, Memᴰ}
use Rattle.std.proofs.Common.{sym, ◌∙◌}
use Rattle.meaning.specs.Limits.{contact_limit}
use Rattle.meaning.specs.Scene.{Scene, wrong_shape, out_of_range, unknown_vertex, broken_seam, repeated_vertex, reaches_beyond}
use Rattle.meaning.specs.Refusals.{Outcome, given, refused, Check, Answers, scene_checks, outcome_of}
use Rattle.meaning.specs.WholeContacts.{range_check, row_length}
use Rattle.meaning.specs.OwnList.{entry_missing, entry_shared, faulty_from, entry_faults, own_limit, size_check, word_room, OwnSettled, OwnContacts}
use Rattle.meaning.specs.shown.FirstFault.{first_held}
use Rattle.answers.specs.Deciding.{Refuses, carried_by, NoneHolds, absent, distinct, refused_exactly, carries_only, number_known, gives_exactly}
use Rattle.own_words.specs.OneResult.{own_unchanged}
use Rattle.own_contacts.specs.OneResult.{own_met_unchanged}
use Rattle.meaning.specs.declared.Refused.{Refused}

-- the first entry at fault: its number, counted from 1, and whether that is refused so
abbrev pub first_entry : Scene → List ℕ → Outcome (Unit {0})
first_entry s es = first_held (entry_faults s es)

unfoldable pub fault_is : ℕ → Outcome (Unit {0}) → Bool
fault_is n (given t) = false
fault_is n (refused m c) = eqb m n

unfoldable pub fault_at : Outcome (Unit {0}) → ℕ
fault_at (given t) = 0
fault_at (refused m c) = c

abbrev fault_check : ℕ → Outcome (Unit {0}) → Check
fault_check n f = record { number = n; holds = fault_is n f; carries = fault_at f }

-- 1 of the list or of the scene, 2, 3, 15, 4, 5 and 6 of the first entry at fault, then the last
abbrev own_checks : Scene → List ℕ → List Check → List Check
own_checks s es last =
    record { number = 1; holds = ltb own_limit (length es) || wrong_shape s; carries = 0 }
    ∷ record { number = 2; holds = out_of_range s; carries = 0 }
    ∷ record { number = 3; holds = unknown_vertex s; carries = 0 }
    ∷ record { number = 15; holds = broken_seam s; carries = 0 }
    ∷ record { number = 4; holds = repeated_vertex s; carries = 0 }
    ∷ fault_check 5 (first_entry s es)
    ∷ fault_check 6 (first_entry s es)
    ∷ last

-- ---- the checks of the promise are these

module _ {A : Type 0} (Right : A → Type 0) (s : Scene) (last : List Check) (o : Outcome A) where
  abbrev Faults : Outcome (Unit {0}) → Type 0
  Faults f = Answers (fault_check 5 f ∷ fault_check 6 f ∷ last) Right o

  by_entry : (m : ℕ) (f : Outcome (Unit {0})) (X : Type 0) (a b : Bool) → cond a (o ≡ refused 5 m) (cond b (o ≡ refused 6 m) X) → (X → Faults f)
      → Faults (cond a (refused 5 m) (cond b (refused 6 m) f))
  unfolding Answers fault_is fault_at
  by_entry m f X true b p rest = p
  by_entry m f X false true p rest = p
  by_entry m f X false false p rest = rest p

  entries_told : (m : ℕ) (es : List ℕ) → Answers (faulty_from s m es ++ last) Right o → Faults (first_held (faulty_from s m es))
  unfolding Answers faulty_from first_held fault_is fault_at
  entries_told m [] p = p
  entries_told m (e ∷ es) p =
      by_entry m (first_held (faulty_from s (m + 1) es)) (Answers (faulty_from s (m + 1) es ++ last) Right o) (entry_missing s e) (entry_shared s e) p
      (entries_told (m + 1) es)

  -- what stands behind the same checks
  behind : (ks ls l : List Check) → (Answers ls Right o → Answers l Right o) → Answers (ks ++ ls) Right o → Answers (ks ++ l) Right o
  unfolding Answers
  behind [] ls l f p = f p
  behind (k ∷ ks) ls l f p = go k.holds (behind ks ls l f) p
    where
      go : (b : Bool) → (Answers (ks ++ ls) Right o → Answers (ks ++ l) Right o)
          → cond b (o ≡ refused k.number k.carries) (Answers (ks ++ ls) Right o)
          → cond b (o ≡ refused k.number k.carries) (Answers (ks ++ l) Right o)
      go true rest q = q
      go false rest q = rest q

  one_of_both : (a b : Bool) (X : Type 0) → cond a (o ≡ refused 1 0) (cond b (o ≡ refused 1 0) X) → cond (a || b) (o ≡ refused 1 0) X
  one_of_both true b X p = p
  one_of_both false b X p = p

  own_told : (es : List ℕ) → Answers (size_check es ∷ (scene_checks s ++ (entry_faults s es ++ last))) Right o → Answers (own_checks s es last) Right o
  unfolding Answers
  own_told es p =
      one_of_both (ltb own_limit (length es)) (wrong_shape s) _
      (behind (size_check es ∷ scene_checks s) (entry_faults s es ++ last) (fault_check 5 (first_entry s es) ∷ fault_check 6 (first_entry s es) ∷ last) (entries_told 1 es) p)

-- ---- the rows

-- neither the list too long nor one of the scene's, and then
abbrev pub ThenOwn : Scene → List ℕ → Type 0 → Type 0
ThenOwn s es R =
    (ltb own_limit (length es) || wrong_shape s ≡ false)
    × ((out_of_range s ≡ false) × ((unknown_vertex s ≡ false) × ((broken_seam s ≡ false) × ((repeated_vertex s ≡ false) × R))))

-- and no entry at fault
abbrev pub ThenSound : Scene → List ℕ → Type 0 → Type 0
ThenSound s es R = ThenOwn s es ((fault_is 5 (first_entry s es) ≡ false) × ((fault_is 6 (first_entry s es) ≡ false) × R))

sound_so : (s : Scene) (es : List ℕ) {R S : Type 0} → (R → S) → ThenSound s es R → ThenSound s es S
sound_so s es f h =
    let r = h.1.1.1.1.1 in
    (h.0, (h.1.0, (h.1.1.0, (h.1.1.1.0, (h.1.1.1.1.0, (r.0, (r.1.0, f r.1.1)))))))

pub record OwnRows (s : Scene) (es : List ℕ) (o : Outcome ℕ) : Type 0 where
  pub no1 : (o ≡ refused 1 0) ↔ (ltb own_limit (length es) || wrong_shape s ≡ true)
  pub no2 : (o ≡ refused 2 0) ↔ ((ltb own_limit (length es) || wrong_shape s ≡ false) × (out_of_range s ≡ true))
  pub no3 : (o ≡ refused 3 0) ↔ ((ltb own_limit (length es) || wrong_shape s ≡ false) × ((out_of_range s ≡ false) × (unknown_vertex s ≡ true)))
  pub no15 : (o ≡ refused 15 0) ↔ ((ltb own_limit (length es) || wrong_shape s ≡ false) × ((out_of_range s ≡ false) × ((unknown_vertex s ≡ false) × (broken_seam s ≡ true))))
  pub no4 : (o ≡ refused 4 0) ↔ ((ltb own_limit (length es) || wrong_shape s ≡ false) × ((out_of_range s ≡ false) × ((unknown_vertex s ≡ false) × ((broken_seam s ≡ false) × (repeated_vertex s ≡ true)))))
  pub no5 : (o ≡ refused 5 (fault_at (first_entry s es))) ↔ ThenOwn s es (fault_is 5 (first_entry s es) ≡ true)
  pub no6 : (o ≡ refused 6 (fault_at (first_entry s es))) ↔ ThenOwn s es ((fault_is 5 (first_entry s es) ≡ false) × (fault_is 6 (first_entry s es) ≡ true))
  pub entry5 : (c : ℕ) → o ≡ refused 5 c → c ≡ fault_at (first_entry s es)
  pub entry6 : (c : ℕ) → o ≡ refused 6 c → c ≡ fault_at (first_entry s es)

pub record OwnWordTable (s : Scene) (es b b' : List ℕ) (o : Outcome ℕ) : Type 0 where
  pub rows : OwnRows s es o
  pub no7 : (o ≡ refused 7 (length es)) ↔ ThenSound s es (ltb (length b) (length es) ≡ true)
  pub needed : (c : ℕ) → o ≡ refused 7 c → c ≡ length es
  pub only : (n c : ℕ) → o ≡ refused n c → Memᴰ n (1 ∷ 2 ∷ 3 ∷ 15 ∷ 4 ∷ 5 ∷ 6 ∷ 7 ∷ [])
  pub settled : (n : ℕ) → (o ≡ given n) ↔ (ThenSound s es (ltb (length b) (length es) ≡ false) × (n ≡ length es))
  pub unchanged : (n c : ℕ) → o ≡ refused n c → b' ≡ b

pub record OwnContactTable (s : Scene) (es b b' c c' : List ℕ) (o : Outcome ℕ) : Type 0 where
  pub rows : OwnRows s es o
  pub no16 : (o ≡ refused 16 0) ↔ ThenSound s es (reaches_beyond contact_limit s ≡ true)
  pub no7 : (o ≡ refused 7 (length es)) ↔ ThenSound s es ((reaches_beyond contact_limit s ≡ false) × (ltb (min (length b) (length c / row_length)) (length es) ≡ true))
  pub needed : (n : ℕ) → o ≡ refused 7 n → n ≡ length es
  pub only : (n m : ℕ) → o ≡ refused n m → Memᴰ n (1 ∷ 2 ∷ 3 ∷ 15 ∷ 4 ∷ 5 ∷ 6 ∷ 16 ∷ 7 ∷ [])
  pub met : (n : ℕ) → (o ≡ given n)
      ↔ (ThenSound s es ((reaches_beyond contact_limit s ≡ false) × (ltb (min (length b) (length c / row_length)) (length es) ≡ false)) × (n ≡ length es))
  pub unchanged : (n m : ℕ) → o ≡ refused n m → (b' ≡ b) × (c' ≡ c)

abbrev Count : List ℕ → ℕ → Type 0
Count es n = n ≡ length es

own_rows : (s : Scene) (es : List ℕ) (last : List Check) (o : Outcome ℕ) → distinct (own_checks s es last) ≡ true → Answers (own_checks s es last) (Count es) o
    → OwnRows s es o
unfolding Refuses carried_by
own_rows s es last o d p =
    let row = refused_exactly (Count es) (own_checks s es last) o d p in
    let carries = carries_only (Count es) (own_checks s es last) o d p in
    record {
      no1 = row 1;
      no2 = row 2;
      no3 = row 3;
      no15 = row 15;
      no4 = row 4;
      no5 = row 5;
      no6 = row 6;
      entry5 = carries 5;
      entry6 = carries 6;
    }

pub demand1_own_words : (s : Scene) (es b b' : List ℕ) (r : Result ℕ Refused) → OwnSettled s es b b' r → OwnWordTable s es b b' (outcome_of r)
unfolding Refuses carried_by NoneHolds absent distinct
demand1_own_words s es b b' r p =
    let last : List Check = word_room es (length b) ∷ [] in
    let told = own_told (Count es) s last (outcome_of r) es p.answer in
    let row = refused_exactly (Count es) (own_checks s es last) (outcome_of r) refl told in
    record {
      rows = own_rows s es last (outcome_of r) refl told;
      no7 = row 7;
      needed = λ n e. carries_only (Count es) (own_checks s es last) (outcome_of r) refl told 7 n e;
      only = number_known (Count es) (own_checks s es last) (outcome_of r) told;
      settled = λ n.
          let gives = gives_exactly (Count es) (λ x y h k. h ∙ sym k) (own_checks s es last) (outcome_of r) told n in (
            λ e. let (h, is) = gives.0 e in (sound_so s es (λ q. q.0) h, is),
            λ h. gives.1 (sound_so s es (λ q. (q, tt)) h.0, h.1),
          );
      unchanged = own_unchanged s es b b' r p;
    }

pub demand1_own_contacts : (s : Scene) (es b b' c c' : List ℕ) (r : Result ℕ Refused) → OwnContacts s es b b' c c' r → OwnContactTable s es b b' c c' (outcome_of r)
unfolding Refuses carried_by NoneHolds absent distinct
demand1_own_contacts s es b b' c c' r p =
    let last : List Check = range_check s ∷ word_room es (min (length b) (length c / row_length)) ∷ [] in
    let told = own_told (Count es) s last (outcome_of r) es p.answer in
    let row = refused_exactly (Count es) (own_checks s es last) (outcome_of r) refl told in
    record {
      rows = own_rows s es last (outcome_of r) refl told;
      no16 = row 16;
      no7 = row 7;
      needed = λ n e. carries_only (Count es) (own_checks s es last) (outcome_of r) refl told 7 n e;
      only = number_known (Count es) (own_checks s es last) (outcome_of r) told;
      met = λ n.
          let gives = gives_exactly (Count es) (λ x y h k. h ∙ sym k) (own_checks s es last) (outcome_of r) told n in (
            λ e. let (h, is) = gives.0 e in (sound_so s es (λ q. (q.0, q.1.0)) h, is),
            λ h. gives.1 (sound_so s es (λ q. (q.0, (q.1, tt))) h.0, h.1),
          );
      unchanged = own_met_unchanged s es b b' c c' r p;
    }
