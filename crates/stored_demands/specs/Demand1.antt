-- Demand 1 of the calls with stored boxes: '12 for a box buffer under 12,288 numbers, before 1; for the move 5, then 2 for the new
-- coordinates, then 15 where a seam would come apart; for the list 17 where a stored box isn't the one worked out, before 7'. The rows of the
-- table, one by one.
use Rattle.std.specs.Prelude.{ℕ, min, ◌≤◌, ◌<◌, Bool, true, false, ◌↔◌, ◌⊎◌, ◌≡◌, refl, leb, ltb, ℤ, length, Result}
use mathlib.Core.List.{List, [], ◌∷◌, ◌++◌, map, Memᴰ}
use mathlib.Core.Logic.Iff
use Rattle.std.proofs.Common.{inl, inr, ⊎_elim, sym, ◌∙◌, ltb-true, ltb-false, lt-ltb, le-ltb}
use Rattle.meaning.specs.Scene.{Scene, Accepted, vertex_count, wrong_shape, out_of_range, unknown_vertex, broken_seam, repeated_vertex}
use Rattle.meaning.specs.Refusals.{Outcome, given, refused, Check, Answers, scene_checks, outcome_alone, outcome_of}
use Rattle.meaning.specs.List.{pairs, room_of}
use Rattle.meaning.specs.StoredBoxes.{short_boxes, stale_box, box_checks, stale_checks, stored_checks, BoxesFilled, CountedStored, ListedStored, SettledStored, BoxedRead}
use Rattle.meaning.specs.Text.{short_buffer}
use Rattle.meaning.specs.declared.SceneCounts.{SceneCounts}
use Rattle.meaning.specs.Dragging.{new_outside, tears_seam, move_checks, VertexMoved}
use Rattle.answers.specs.Answering.{is_refused, is_past}
use Rattle.list_pairs.specs.Answering.{IsCount}
use Rattle.answers.specs.Deciding.{Refuses, carried_by, NoneHolds, absent, distinct, holds_or_not, never_given, refused_exactly, carries_only, number_known, gives_exactly}
use Rattle.demands.specs.Demand1.{SceneRows, SceneTable, then_accepted, scene_rows, numbers_only}
use Rattle.demands.specs.TextTable.{TextRows, demand1_text}
use Rattle.stored_reading.specs.Using.{boxes_short, as_read}
use Rattle.stored_demands.specs.InTwo.{two_rows}
use Rattle.meaning.specs.declared.Refusal.{Refusal}
use Rattle.meaning.specs.declared.Refused.{Refused}

abbrev Fine : Unit {0} → Type 0
Fine t = Unit {0}

-- ---- 12 first, in each of them

-- exactly where the box buffer is short; where it is not, the rows behind it
pub record BoxRows {A : Type 0} (b : List ℤ) (o : Outcome A) (Rest : Type 0) : Type 0 where
  pub no12 : (o ≡ refused 12 0) ↔ (short_boxes b ≡ true)
  pub rest : short_boxes b ≡ false → Rest

box_rows : {A : Type 0} (Right : A → Type 0) (s : Scene) (b : List ℤ) (more : List Check) (o : Outcome A) {Rest : Type 0}
    → absent 12 (scene_checks s ++ more) ≡ true → (Answers (scene_checks s ++ more) Right o → Rest)
    → Answers (box_checks s b ++ more) Right o → BoxRows b o Rest
box_rows Right s b more o none then p =
    let ks : List Check = scene_checks s ++ more in
    record {
      no12 = (
        λ e. holds_or_not (short_boxes b) (λ h. h) (λ h. absurd (never_given Right ks o 12 0 none (is_past Right _ ks o h p) e)),
        λ h. is_refused Right _ ks o h p,
      );
      rest = λ h. then (is_past Right _ ks o h p);
    }

-- ---- boxes filled in: 12, then the scene's

pub demand1_filled : (s : Scene) (b b' : List ℤ) (r : Result (Unit {0}) Refusal) → BoxesFilled s b b' r → BoxRows b (outcome_alone r) (SceneTable s (outcome_alone r))
unfolding absent distinct NoneHolds
demand1_filled s b b' r p =
    box_rows Fine s b [] (outcome_alone r) refl
    (λ q.
    let gives = gives_exactly Fine (λ x y h k. refl) (scene_checks s) (outcome_alone r) q tt in
    record {
      rows = scene_rows Fine s [] (outcome_alone r) refl q;
      only = numbers_only Fine s [] (outcome_alone r) refl q;
      accepted = (λ e. (then_accepted.0 (gives.0 e).0).0, λ a. gives.1 (then_accepted.1 (a, tt), tt));
    })
    p.answer

-- ---- counted: 17 last

pub record StaleTable (s : Scene) (b : List ℤ) (o : Outcome ℕ) : Type 0 where
  pub rows : SceneRows s o
  pub only : (n c : ℕ) → o ≡ refused n c → Memᴰ n (1 ∷ 2 ∷ 3 ∷ 15 ∷ 4 ∷ 17 ∷ [])
  pub no17 : (o ≡ refused 17 0) ↔ (Accepted s × (stale_box s b ≡ true))
  pub counted : (n : ℕ) → (o ≡ given n) ↔ (Accepted s × ((stale_box s b ≡ false) × (n ≡ length (pairs s))))

stale_table : (s : Scene) (b : List ℤ) (o : Outcome ℕ) → Answers (scene_checks s ++ stale_checks s b) (IsCount s) o → StaleTable s b o
unfolding Refuses carried_by NoneHolds absent distinct
stale_table s b o p =
    let ks : List Check = scene_checks s ++ stale_checks s b in
    let row = refused_exactly (IsCount s) ks o refl p in
    record {
      rows = scene_rows (IsCount s) s (stale_checks s b) o refl p;
      only = numbers_only (IsCount s) s (stale_checks s b) o refl p;
      no17 = Iff.trans (row 17) then_accepted;
      counted = λ n.
          let gives = gives_exactly (IsCount s) (λ x y h k. h ∙ sym k) ks o p n in (
            λ e. let (h, is) = gives.0 e in let (a, r) = then_accepted.0 h in (a, (r.0, is)),
            λ h. gives.1 (then_accepted.1 (h.0, (h.1.0, tt)), h.1.1),
          );
    }

pub demand1_stored_count : (s : Scene) (b : List ℤ) (r : Result ℕ Refused) → CountedStored s b r → BoxRows b (outcome_of r) (StaleTable s b (outcome_of r))
unfolding absent
demand1_stored_count s b r p = box_rows (IsCount s) s b (stale_checks s b) (outcome_of r) refl (stale_table s b (outcome_of r)) p

-- ---- listed and judged: 17 before 7

pub record StoredTable (s : Scene) (b : List ℤ) (room : ℕ) (o : Outcome ℕ) : Type 0 where
  pub rows : SceneRows s o
  pub only : (n c : ℕ) → o ≡ refused n c → Memᴰ n (1 ∷ 2 ∷ 3 ∷ 15 ∷ 4 ∷ 17 ∷ 7 ∷ [])
  pub no17 : (o ≡ refused 17 0) ↔ (Accepted s × (stale_box s b ≡ true))
  pub no7 : (o ≡ refused 7 (length (pairs s))) ↔ (Accepted s × ((stale_box s b ≡ false) × (room < length (pairs s))))
  pub needed : (c : ℕ) → o ≡ refused 7 c → c ≡ length (pairs s)
  pub listed : (n : ℕ) → (o ≡ given n) ↔ (Accepted s × ((stale_box s b ≡ false) × ((length (pairs s) ≤ room) × (n ≡ length (pairs s)))))

stored_table : (s : Scene) (b : List ℤ) (room : ℕ) (o : Outcome ℕ) → Answers (scene_checks s ++ stored_checks s b room) (IsCount s) o
    → StoredTable s b room o
unfolding Refuses carried_by NoneHolds absent distinct
stored_table s b room o p =
    let count : ℕ = length (pairs s) in
    let ks : List Check = scene_checks s ++ stored_checks s b room in
    let row = refused_exactly (IsCount s) ks o refl p in
    record {
      rows = scene_rows (IsCount s) s (stored_checks s b room) o refl p;
      only = numbers_only (IsCount s) s (stored_checks s b room) o refl p;
      no17 = Iff.trans (row 17) then_accepted;
      no7 = (
        λ e. let (a, h) = then_accepted.0 ((row 7).0 e) in (a, (h.0, ltb-true room count h.1)),
        λ h. (row 7).1 (then_accepted.1 (h.0, (h.1.0, lt-ltb room count h.1.1))),
      );
      needed = λ c e. carries_only (IsCount s) ks o refl p 7 c e;
      listed = λ n.
          let gives = gives_exactly (IsCount s) (λ x y h k. h ∙ sym k) ks o p n in (
            λ e. let (h, is) = gives.0 e in let (a, r) = then_accepted.0 h in (a, (r.0, (ltb-false room count r.1.0, is))),
            λ h. gives.1 (then_accepted.1 (h.0, (h.1.0, (le-ltb room count h.1.1.0, tt))), h.1.1.1),
          );
    }

pub demand1_stored_list : (s : Scene) (b : List ℤ) (o o' : List ℕ) (r : Result ℕ Refused) → ListedStored s b o o' r
    → BoxRows b (outcome_of r) (StoredTable s b (room_of o) (outcome_of r))
unfolding absent
demand1_stored_list s b o o' r p =
    box_rows (IsCount s) s b (stored_checks s b (room_of o)) (outcome_of r) refl (stored_table s b (room_of o) (outcome_of r)) p.answer

pub demand1_stored_words : (s : Scene) (b : List ℤ) (o o' w w' : List ℕ) (r : Result ℕ Refused) → SettledStored s b o o' w w' r
    → BoxRows b (outcome_of r) (StoredTable s b (min (room_of o) (length w)) (outcome_of r))
unfolding absent
demand1_stored_words s b o o' w w' r p =
    let room : ℕ = min (room_of o) (length w) in
    box_rows (IsCount s) s b (stored_checks s b room) (outcome_of r) refl (stored_table s b room (outcome_of r)) p.answer

-- ---- a vertex moved: 5, 2, 15 behind the scene's, which have 2 and 15 too

pub record MoveTable (s : Scene) (v : ℕ) (c : List ℤ) (o : Outcome (Unit {0})) : Type 0 where
  pub only : (n m : ℕ) → o ≡ refused n m → Memᴰ n (1 ∷ 2 ∷ 3 ∷ 15 ∷ 4 ∷ 5 ∷ 2 ∷ 15 ∷ [])
  pub no1 : (o ≡ refused 1 0) ↔ (wrong_shape s ≡ true)
  pub no3 : (o ≡ refused 3 0) ↔ ((wrong_shape s ≡ false) × ((out_of_range s ≡ false) × (unknown_vertex s ≡ true)))
  pub no4 : (o ≡ refused 4 0)
      ↔ ((wrong_shape s ≡ false) × ((out_of_range s ≡ false) × ((unknown_vertex s ≡ false) × ((broken_seam s ≡ false) × (repeated_vertex s ≡ true)))))
  pub no5 : (o ≡ refused 5 0) ↔ (Accepted s × (leb (vertex_count s) v ≡ true))
  pub no2 : (o ≡ refused 2 0)
      ↔ (((wrong_shape s ≡ false) × (out_of_range s ≡ true)) ⊎ (Accepted s × ((leb (vertex_count s) v ≡ false) × (new_outside c ≡ true))))
  pub no15 : (o ≡ refused 15 0)
      ↔ (((wrong_shape s ≡ false) × ((out_of_range s ≡ false) × ((unknown_vertex s ≡ false) × (broken_seam s ≡ true))))
      ⊎ (Accepted s × ((leb (vertex_count s) v ≡ false) × ((new_outside c ≡ false) × (tears_seam s v c ≡ true)))))
  pub moved : (o ≡ given tt) ↔ (Accepted s × ((leb (vertex_count s) v ≡ false) × ((new_outside c ≡ false) × (tears_seam s v c ≡ false))))

-- a number that one of the two lists alone has
from_first : {O P N Q : Type 0} → (Q → ⊥) → O ↔ (P ⊎ (N × Q)) → O ↔ P
from_first none row = (λ o. ⊎_elim (λ p. p) (λ q. absurd (none q.1)) (row.0 o), λ p. row.1 (inl p))

from_second : {O P N Q : Type 0} → (P → ⊥) → O ↔ (P ⊎ (N × Q)) → O ↔ (N × Q)
from_second none row = (λ o. ⊎_elim (λ p. absurd (none p)) (λ q. q) (row.0 o), λ q. row.1 (inr q))

-- none of the five is an accepted scene
now_accepted : {s : Scene} {Q : Type 0} → (NoneHolds (scene_checks s) × Q) ↔ (Accepted s × Q)
unfolding NoneHolds
now_accepted = (λ h. ((then_accepted.0 h.0).0, h.1), λ h. (then_accepted.1 (h.0, tt), h.1))

or_accepted : {s : Scene} {O P Q : Type 0} → O ↔ (P ⊎ (NoneHolds (scene_checks s) × Q)) → O ↔ (P ⊎ (Accepted s × Q))
or_accepted {s} {O} {P} {Q} row = (
  λ o. ⊎_elim (λ p. inl p) (λ q. inr (now_accepted.0 q)) (row.0 o),
  λ h. row.1 (⊎_elim (λ p. inl p) (λ q. inr (now_accepted.1 q)) h),
)

move_table : (s : Scene) (v : ℕ) (c : List ℤ) (o : Outcome (Unit {0})) → Answers (scene_checks s ++ move_checks s v c) Fine o → MoveTable s v c o
unfolding Refuses carried_by NoneHolds absent distinct
move_table s v c o p =
    let row = two_rows Fine (scene_checks s) (move_checks s v c) o refl refl p in
    let gives = gives_exactly Fine (λ x y h k. refl) (scene_checks s ++ move_checks s v c) o p tt in
    record {
      only = number_known Fine (scene_checks s ++ move_checks s v c) o p;
      no1 = from_first (λ h. h.1.1.1) (row 1 refl refl);
      no3 = from_first (λ h. h.1.1.1) (row 3 refl refl);
      no4 = from_first (λ h. h.1.1.1) (row 4 refl refl);
      no5 = Iff.trans (from_second (λ h. h.1.1.1.1.1) (row 5 refl refl)) now_accepted;
      no2 = or_accepted {s = s} (row 2 refl refl);
      no15 = or_accepted {s = s} (row 15 refl refl);
      moved = (
        λ e. let (a, r) = then_accepted.0 (gives.0 e).0 in (a, (r.0, (r.1.0, r.1.1.0))),
        λ h. gives.1 (then_accepted.1 (h.0, (h.1.0, (h.1.1.0, (h.1.1.1, tt)))), tt),
      );
    }

pub demand1_move : (s : Scene) (v : ℕ) (c p' b b' : List ℤ) (r : Result (Unit {0}) Refusal) → VertexMoved s v c p' b b' r
    → BoxRows b (outcome_alone r) (MoveTable s v c (outcome_alone r))
unfolding absent
demand1_move s v c p' b b' r p = box_rows Fine s b (move_checks s v c) (outcome_alone r) refl (move_table s v c (outcome_alone r)) p.answer

-- ---- a text read with its boxes: 12 for any of the five buffers, then as without boxes

pub record BoxedTextRows (text : List ℕ) (lent : Scene) (b : List ℤ) (o : Outcome SceneCounts) : Type 0 where
  pub no12 : (o ≡ refused 12 0) ↔ ((short_boxes b ≡ true) ⊎ (short_buffer lent ≡ true))
  pub rest : short_boxes b ≡ false → TextRows text lent o

pub demand1_boxed_text : (text : List ℕ) (lent left : Scene) (b b' : List ℤ) (r : Result SceneCounts Refused) → BoxedRead text lent left b b' r
    → BoxedTextRows text lent b (outcome_of r)
demand1_boxed_text text lent left b b' r p = record {
  no12 = (
    λ e. holds_or_not (short_boxes b) (λ h. inl h) (λ h. inr ((rows h).no12.0 e)),
    λ h.
        ⊎_elim (boxes_short p)
        (λ k. holds_or_not (short_boxes b) (boxes_short p) (λ long. (rows long).no12.1 k))
        h,
  );
  rest = rows;
}
  where
    rows : short_boxes b ≡ false → TextRows text lent (outcome_of r)
    rows h = demand1_text text lent left r (as_read p h)
