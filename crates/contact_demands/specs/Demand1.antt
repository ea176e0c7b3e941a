-- Demand 1 for contacts: the rows of the table, 16 after 6 for a pair asked for, and between 4 and 7 for a whole scene; and when what is given.
use Rattle.std.specs.Prelude.{ℕ, ◌≤◌, ◌<◌, Bool, true, false, ◌↔◌, ◌≡◌, refl, ltb, length, Result}
use mathlib.Core.List.{List, [], ◌∷◌, ◌++◌, map, Memᴰ}
use Rattle.std.proofs.Common.{sym, ◌∙◌}
use Rattle.meaning.specs.Limits.{contact_limit}
use Rattle.meaning.specs.Scene.{Scene, reaches_beyond, wrong_shape, out_of_range, unknown_vertex, broken_seam, repeated_vertex}
use Rattle.meaning.specs.Refusals.{Outcome, given, refused, Check, Answers, scene_checks, not_there, shares, outcome_alone, outcome_of}
use Rattle.meaning.specs.List.{pairs}
use Rattle.meaning.specs.WholeContacts.{WholeContactIs, ContactIs, range_check, WholeContactFound, ContactGiven, contact_room, contact_list_checks, ContactsListed}
use Rattle.meaning.specs.declared.Kind.{Kind}
use Rattle.answers.specs.Deciding.{Refuses, carried_by, NoneHolds, absent, distinct, refused_exactly, carries_only, number_known, gives_exactly}
use Rattle.contact_entries.specs.OneContact.{one_whole_contact, one_contact}
use Rattle.meaning.specs.declared.WholeContact.{WholeContact}
use Rattle.meaning.specs.declared.Refusal.{Refusal}
use Rattle.meaning.specs.declared.Refused.{Refused}
use Rattle.meaning.specs.declared.Contact.{Contact}

-- none of the scene's five, and then
abbrev pub ThenIs : Scene → Type 0 → Type 0
ThenIs s R = (wrong_shape s ≡ false) × ((out_of_range s ≡ false) × ((unknown_vertex s ≡ false) × ((broken_seam s ≡ false) × ((repeated_vertex s ≡ false) × R))))

-- what follows the five, taken to what it gives
then_so : (s : Scene) {R S : Type 0} → (R → S) → ThenIs s R → ThenIs s S
then_so s f h = (h.0, (h.1.0, (h.1.1.0, (h.1.1.1.0, (h.1.1.1.1.0, f h.1.1.1.1.1)))))

-- each number exactly when its condition holds and no check before it does; and a contact exactly when none holds and it is the pair's
pub record ContactTable {W : Type 0} (s : Scene) (missing shared : Bool) (Is : W → Type 0) (o : Outcome W) : Type 0 where
  pub no1 : (o ≡ refused 1 0) ↔ (wrong_shape s ≡ true)
  pub no2 : (o ≡ refused 2 0) ↔ ((wrong_shape s ≡ false) × (out_of_range s ≡ true))
  pub no3 : (o ≡ refused 3 0) ↔ ((wrong_shape s ≡ false) × ((out_of_range s ≡ false) × (unknown_vertex s ≡ true)))
  pub no15 : (o ≡ refused 15 0) ↔ ((wrong_shape s ≡ false) × ((out_of_range s ≡ false) × ((unknown_vertex s ≡ false) × (broken_seam s ≡ true))))
  pub no4 : (o ≡ refused 4 0) ↔ ((wrong_shape s ≡ false) × ((out_of_range s ≡ false) × ((unknown_vertex s ≡ false) × ((broken_seam s ≡ false) × (repeated_vertex s ≡ true)))))
  pub no5 : (o ≡ refused 5 0) ↔ ThenIs s (missing ≡ true)
  pub no6 : (o ≡ refused 6 0) ↔ ThenIs s ((missing ≡ false) × (shared ≡ true))
  pub no16 : (o ≡ refused 16 0) ↔ ThenIs s ((missing ≡ false) × ((shared ≡ false) × (reaches_beyond contact_limit s ≡ true)))
  pub only : (n c : ℕ) → o ≡ refused n c → Memᴰ n (1 ∷ 2 ∷ 3 ∷ 15 ∷ 4 ∷ 5 ∷ 6 ∷ 16 ∷ [])
  pub found : (w : W) → (o ≡ given w) ↔ (ThenIs s ((missing ≡ false) × ((shared ≡ false) × (reaches_beyond contact_limit s ≡ false))) × Is w)

-- the checks of a contact asked for
abbrev asked_in_range : Scene → Bool → Bool → List Check
asked_in_range s missing shared =
    scene_checks s
    ++ (record { number = 5; holds = missing; carries = 0 }
    ∷ record { number = 6; holds = shared; carries = 0 }
    ∷ range_check s
    ∷ [])

contact_table : {W : Type 0} (s : Scene) (missing shared : Bool) (Is : W → Type 0) (o : Outcome W) → ((v w : W) → Is v → Is w → v ≡ w)
    → Answers (asked_in_range s missing shared) Is o → ContactTable s missing shared Is o
unfolding Refuses carried_by NoneHolds absent distinct
contact_table s missing shared Is o one p =
    let row = refused_exactly Is (asked_in_range s missing shared) o refl p in
    record {
      no1 = row 1;
      no2 = row 2;
      no3 = row 3;
      no15 = row 15;
      no4 = row 4;
      no5 = row 5;
      no6 = row 6;
      no16 = row 16;
      only = number_known Is (asked_in_range s missing shared) o p;
      found = λ w.
          let gives = gives_exactly Is one (asked_in_range s missing shared) o p w in (
            λ e. let (h, is) = gives.0 e in (then_so s (λ r. (r.0, (r.1.0, r.1.1.0))) h, is),
            λ h. gives.1 (then_so s (λ r. (r.0, (r.1.0, (r.1.1, tt)))) h.0, h.1),
          );
    }

-- in whole numbers
pub demand1_contact : (s : Scene) (kind : Kind) (i j : ℕ) (r : Result WholeContact Refusal) → WholeContactFound s kind i j r
    → ContactTable s (not_there s kind i j) (shares s kind i j) (WholeContactIs s kind i j) (outcome_alone r)
demand1_contact s kind i j r p =
    contact_table s (not_there s kind i j) (shares s kind i j) (WholeContactIs s kind i j) (outcome_alone r) (one_whole_contact s kind i j) p

-- and with f64s
pub demand1_contact_in_f64 : (s : Scene) (kind : Kind) (i j : ℕ) (r : Result Contact Refusal) → ContactGiven s kind i j r
    → ContactTable s (not_there s kind i j) (shares s kind i j) (ContactIs s kind i j) (outcome_alone r)
demand1_contact_in_f64 s kind i j r p =
    contact_table s (not_there s kind i j) (shares s kind i j) (ContactIs s kind i j) (outcome_alone r) (one_contact s kind i j) p

pub record SceneContactTable (s : Scene) (room : ℕ) (o : Outcome ℕ) : Type 0 where
  pub no1 : (o ≡ refused 1 0) ↔ (wrong_shape s ≡ true)
  pub no2 : (o ≡ refused 2 0) ↔ ((wrong_shape s ≡ false) × (out_of_range s ≡ true))
  pub no3 : (o ≡ refused 3 0) ↔ ((wrong_shape s ≡ false) × ((out_of_range s ≡ false) × (unknown_vertex s ≡ true)))
  pub no15 : (o ≡ refused 15 0) ↔ ((wrong_shape s ≡ false) × ((out_of_range s ≡ false) × ((unknown_vertex s ≡ false) × (broken_seam s ≡ true))))
  pub no4 : (o ≡ refused 4 0) ↔ ((wrong_shape s ≡ false) × ((out_of_range s ≡ false) × ((unknown_vertex s ≡ false) × ((broken_seam s ≡ false) × (repeated_vertex s ≡ true)))))
  pub no16 : (o ≡ refused 16 0) ↔ ThenIs s (reaches_beyond contact_limit s ≡ true)
  pub no7 : (o ≡ refused 7 (length (pairs s))) ↔ ThenIs s ((reaches_beyond contact_limit s ≡ false) × (ltb room (length (pairs s)) ≡ true))
  pub needed : (c : ℕ) → o ≡ refused 7 c → c ≡ length (pairs s)
  pub only : (n c : ℕ) → o ≡ refused n c → Memᴰ n (1 ∷ 2 ∷ 3 ∷ 15 ∷ 4 ∷ 16 ∷ 7 ∷ [])
  pub listed : (n : ℕ) → (o ≡ given n) ↔ (ThenIs s ((reaches_beyond contact_limit s ≡ false) × (ltb room (length (pairs s)) ≡ false)) × (n ≡ length (pairs s)))

pub demand1_met_scene : (s : Scene) (o o' b b' c c' : List ℕ) (r : Result ℕ Refused) → ContactsListed s o o' b b' c c' r → SceneContactTable s (contact_room o b c) (outcome_of r)
unfolding Refuses carried_by NoneHolds absent distinct
demand1_met_scene s o o' b b' c c' r p =
    let Right : ℕ → Type 0 = λ n. n ≡ length (pairs s) in
    let checks : List Check = contact_list_checks s (contact_room o b c) in
    let row = refused_exactly Right checks (outcome_of r) refl p.answer in
    record {
      no1 = row 1;
      no2 = row 2;
      no3 = row 3;
      no15 = row 15;
      no4 = row 4;
      no16 = row 16;
      no7 = row 7;
      needed = λ n e. carries_only Right checks (outcome_of r) refl p.answer 7 n e;
      only = number_known Right checks (outcome_of r) p.answer;
      listed = λ n.
          let gives = gives_exactly Right (λ x y h k. h ∙ sym k) checks (outcome_of r) p.answer n in (
            λ e. let (h, is) = gives.0 e in (then_so s (λ q. (q.0, q.1.0)) h, is),
            λ h. gives.1 (then_so s (λ q. (q.0, (q.1, tt))) h.0, h.1),
          );
    }
