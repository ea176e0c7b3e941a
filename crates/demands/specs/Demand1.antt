-- Demand 1: 'A bad scene, pair or text is refused with the number in our table, only when the table says so.' The rows of the table, one
-- by one, for what is promised of a scene, of a pair or a piece asked for, and of the list.
use Rattle.std.specs.Prelude.{ℕ, min, ◌≤◌, ◌<◌, Bool, true, false, ◌||◌, ◌↔◌, ◌≡◌, refl, leb, ltb, length, Result}
use mathlib.Core.List.{List, [], ◌∷◌, ◌++◌, map, Memᴰ}
use mathlib.Core.Logic.Iff
use Rattle.std.proofs.Common.{sym, ◌∙◌, ltb-true, ltb-false, lt-ltb, le-ltb}
use Rattle.meaning.specs.Scene.{Scene, Accepted, wrong_shape, out_of_range, unknown_vertex, broken_seam, repeated_vertex}
use Rattle.meaning.specs.Pieces.{piece_of, piece_count}
use Rattle.meaning.specs.Verdicts.{PieceIs, PairIs}
use Rattle.meaning.specs.Refusals.{Outcome, given, refused, Check, Answers, scene_checks, not_there, shares, SceneChecked, PairJudged, PieceJudged, outcome_alone, outcome_of}
use Rattle.meaning.specs.Resting.{PieceSettled, PairSettled, PairDecided, PieceDecided}
use Rattle.meaning.specs.List.{pairs, room_of, list_checks, Counted, Listing}
use Rattle.meaning.specs.SceneWords.{SettledScene}
use Rattle.meaning.specs.declared.Kind.{Kind}
use Rattle.theory.specs.OneVerdict.{one_piece_verdict, one_pair_verdict}
use Rattle.corner_search.specs.Decided.{one_piece_word, one_pair_word}
use Rattle.answers.specs.Deciding.{Refuses, carried_by, NoneHolds, absent, distinct, refused_exactly, carries_only, number_known, gives_exactly}
use Rattle.meaning.specs.declared.Refusal.{Refusal}
use Rattle.meaning.specs.declared.Refused.{Refused}
use Rattle.meaning.specs.declared.Settled.{Settled}
use Rattle.meaning.specs.declared.Verdict.{Verdict}

-- ---- 1, 2, 3, 15, 4, each over the whole scene before the next

pub record SceneRows {A : Type 0} (s : Scene) (o : Outcome A) : Type 0 where
  pub no1 : (o ≡ refused 1 0) ↔ (wrong_shape s ≡ true)
  pub no2 : (o ≡ refused 2 0) ↔ ((wrong_shape s ≡ false) × (out_of_range s ≡ true))
  pub no3 : (o ≡ refused 3 0) ↔ ((wrong_shape s ≡ false) × ((out_of_range s ≡ false) × (unknown_vertex s ≡ true)))
  pub no15 : (o ≡ refused 15 0) ↔ ((wrong_shape s ≡ false) × ((out_of_range s ≡ false) × ((unknown_vertex s ≡ false) × (broken_seam s ≡ true))))
  pub no4 : (o ≡ refused 4 0) ↔ ((wrong_shape s ≡ false) × ((out_of_range s ≡ false) × ((unknown_vertex s ≡ false) × ((broken_seam s ≡ false) × (repeated_vertex s ≡ true)))))

-- none of the five, and then
abbrev pub ThenIs : Scene → Type 0 → Type 0
ThenIs s R = (wrong_shape s ≡ false) × ((out_of_range s ≡ false) × ((unknown_vertex s ≡ false) × ((broken_seam s ≡ false) × ((repeated_vertex s ≡ false) × R))))

pub then_accepted : {s : Scene} {R : Type 0} → ThenIs s R ↔ (Accepted s × R)
then_accepted = (
  λ h. (record { shapely = h.0; in_range = h.1.0; known = h.1.1.0; sewn_well = h.1.1.1.0; distinct = h.1.1.1.1.0 }, h.1.1.1.1.1),
  λ h. (h.0.shapely, (h.0.in_range, (h.0.known, (h.0.sewn_well, (h.0.distinct, h.1))))),
)

module _ {A : Type 0} (Right : A → Type 0) (s : Scene) (more : List Check) (o : Outcome A)
    (d : distinct (scene_checks s ++ more) ≡ true) (p : Answers (scene_checks s ++ more) Right o) where
  pub scene_rows : SceneRows s o
  unfolding Refuses carried_by
  scene_rows =
      let row = refused_exactly Right (scene_checks s ++ more) o d p in
      record { no1 = row 1; no2 = row 2; no3 = row 3; no15 = row 15; no4 = row 4 }

  pub numbers_only : (n c : ℕ) → o ≡ refused n c → Memᴰ n (map (λ k. k.number) (scene_checks s ++ more))
  numbers_only = number_known Right (scene_checks s ++ more) o p

-- ---- a scene

pub record SceneTable (s : Scene) (o : Outcome (Unit {0})) : Type 0 where
  pub rows : SceneRows s o
  pub only : (n c : ℕ) → o ≡ refused n c → Memᴰ n (1 ∷ 2 ∷ 3 ∷ 15 ∷ 4 ∷ [])
  pub accepted : (o ≡ given tt) ↔ Accepted s

pub demand1_scene : (s : Scene) (r : Result (Unit {0}) Refusal) → SceneChecked s r → SceneTable s (outcome_alone r)
unfolding NoneHolds absent distinct
demand1_scene s r p =
    let Right : Unit {0} → Type 0 = λ t. Unit {0} in
    let gives = gives_exactly Right (λ a b h k. refl) (scene_checks s) (outcome_alone r) p tt in
    record {
      rows = scene_rows Right s [] (outcome_alone r) refl p;
      only = numbers_only Right s [] (outcome_alone r) refl p;
      accepted = (λ e. (then_accepted.0 (gives.0 e).0).0, λ a. gives.1 (then_accepted.1 (a, tt), tt));
    }

-- ---- a pair or a piece asked for, in three words or in four: 5, 6

pub record AskedTable {W : Type 0} (s : Scene) (missing shared : Bool) (Is : W → Type 0) (o : Outcome W) : Type 0 where
  pub rows : SceneRows s o
  pub only : (n c : ℕ) → o ≡ refused n c → Memᴰ n (1 ∷ 2 ∷ 3 ∷ 15 ∷ 4 ∷ 5 ∷ 6 ∷ [])
  pub no5 : (o ≡ refused 5 0) ↔ (Accepted s × (missing ≡ true))
  pub no6 : (o ≡ refused 6 0) ↔ (Accepted s × ((missing ≡ false) × (shared ≡ true)))
  pub judged : (v : W) → (o ≡ given v) ↔ (Accepted s × ((missing ≡ false) × (shared ≡ false) × Is v))

asked_checks : Bool → Bool → List Check
asked_checks missing shared =
    record { number = 5; holds = missing; carries = 0 } ∷ record { number = 6; holds = shared; carries = 0 } ∷ []

asked_table : {W : Type 0} (s : Scene) (missing shared : Bool) (Is : W → Type 0) (o : Outcome W) → ((v w : W) → Is v → Is w → v ≡ w)
    → Answers (scene_checks s ++ asked_checks missing shared) Is o → AskedTable s missing shared Is o
unfolding asked_checks Refuses carried_by NoneHolds absent distinct
asked_table s missing shared Is o one p =
    let checks : List Check = scene_checks s ++ asked_checks missing shared in
    let row = refused_exactly Is checks o refl p in
    record {
      rows = scene_rows Is s (asked_checks missing shared) o refl p;
      only = numbers_only Is s (asked_checks missing shared) o refl p;
      no5 = Iff.trans (row 5) then_accepted;
      no6 = Iff.trans (row 6) then_accepted;
      judged = λ v.
          let gives = gives_exactly Is one checks o p v in (
            λ e. let (h, is) = gives.0 e in let (a, r) = then_accepted.0 h in (a, (r.0, r.1.0, is)),
            λ h. gives.1 (then_accepted.1 (h.0, (h.1.0, (h.1.1, tt))), h.1.2),
          );
    }

pub demand1_pair : (s : Scene) (kind : Kind) (i j : ℕ) (r : Result Verdict Refusal) → PairJudged s kind i j r
    → AskedTable s (not_there s kind i j) (shares s kind i j) (PairIs s kind i j) (outcome_alone r)
unfolding asked_checks
demand1_pair s kind i j r p =
    asked_table s (not_there s kind i j) (shares s kind i j) (PairIs s kind i j) (outcome_alone r) (one_pair_verdict s kind i j) p

pub demand1_piece : (s : Scene) (kind : Kind) (i j k : ℕ) (r : Result Verdict Refusal) → PieceJudged s kind i j k r
    → AskedTable s (not_there s kind i j || leb (piece_count kind) k) (shares s kind i j) (PieceIs (piece_of s kind i j k)) (outcome_alone r)
unfolding asked_checks
demand1_piece s kind i j k r p =
    let piece = piece_of s kind i j k in
    asked_table s (not_there s kind i j || leb (piece_count kind) k) (shares s kind i j) (PieceIs piece) (outcome_alone r) (one_piece_verdict piece) p

pub demand1_settled_pair : (s : Scene) (kind : Kind) (i j : ℕ) (r : Result Settled Refusal) → PairDecided s kind i j r
    → AskedTable s (not_there s kind i j) (shares s kind i j) (PairSettled s kind i j) (outcome_alone r)
unfolding asked_checks
demand1_settled_pair s kind i j r p =
    asked_table s (not_there s kind i j) (shares s kind i j) (PairSettled s kind i j) (outcome_alone r) (one_pair_word s kind i j) p

pub demand1_settled_piece : (s : Scene) (kind : Kind) (i j k : ℕ) (r : Result Settled Refusal) → PieceDecided s kind i j k r
    → AskedTable s (not_there s kind i j || leb (piece_count kind) k) (shares s kind i j) (PieceSettled (piece_of s kind i j k)) (outcome_alone r)
unfolding asked_checks
demand1_settled_piece s kind i j k r p =
    let piece = piece_of s kind i j k in
    asked_table s (not_there s kind i j || leb (piece_count kind) k) (shares s kind i j) (PieceSettled piece) (outcome_alone r) (one_piece_word piece) p

-- ---- the list: 7 last, with the count needed

pub record ListTable (s : Scene) (room : ℕ) (o : Outcome ℕ) : Type 0 where
  pub rows : SceneRows s o
  pub only : (n c : ℕ) → o ≡ refused n c → Memᴰ n (1 ∷ 2 ∷ 3 ∷ 15 ∷ 4 ∷ 7 ∷ [])
  pub no7 : (o ≡ refused 7 (length (pairs s))) ↔ (Accepted s × (room < length (pairs s)))
  pub needed : (c : ℕ) → o ≡ refused 7 c → c ≡ length (pairs s)
  pub listed : (n : ℕ) → (o ≡ given n) ↔ (Accepted s × ((length (pairs s) ≤ room) × (n ≡ length (pairs s))))

pub demand1_list : (s : Scene) (room : ℕ) (o : Outcome ℕ) → Answers (list_checks s room) (λ n. n ≡ length (pairs s)) o → ListTable s room o
unfolding Refuses carried_by NoneHolds absent distinct
demand1_list s room o p =
    let count : ℕ = length (pairs s) in
    let Right : ℕ → Type 0 = λ n. n ≡ count in
    let last : List Check = record { number = 7; holds = ltb room count; carries = count } ∷ [] in
    let row = refused_exactly Right (list_checks s room) o refl p in
    record {
      rows = scene_rows Right s last o refl p;
      only = numbers_only Right s last o refl p;
      no7 = (
        λ e. let (a, h) = then_accepted.0 ((row 7).0 e) in (a, ltb-true room count h),
        λ h. (row 7).1 (then_accepted.1 (h.0, lt-ltb room count h.1)),
      );
      needed = λ c e. carries_only Right (list_checks s room) o refl p 7 c e;
      listed = λ n.
          let gives = gives_exactly Right (λ a b h k. h ∙ sym k) (list_checks s room) o p n in (
            λ e. let (h, is) = gives.0 e in let (a, r) = then_accepted.0 h in (a, (ltb-false room count r.0, is)),
            λ h. gives.1 (then_accepted.1 (h.0, (le-ltb room count h.1.0, tt)), h.1.1),
          );
    }

pub demand1_listing : (s : Scene) (o o' : List ℕ) (r : Result ℕ Refused) → Listing s o o' r → ListTable s (room_of o) (outcome_of r)
demand1_listing s o o' r p = demand1_list s (room_of o) (outcome_of r) p.answer

pub demand1_judging : (s : Scene) (o o' b b' : List ℕ) (r : Result ℕ Refused) → SettledScene s o o' b b' r → ListTable s (min (room_of o) (length b)) (outcome_of r)
demand1_judging s o o' b b' r p = demand1_list s (min (room_of o) (length b)) (outcome_of r) p.answer

-- counting lends no room, and is refused by the scene's refusals alone
pub record CountTable (s : Scene) (o : Outcome ℕ) : Type 0 where
  pub rows : SceneRows s o
  pub only : (n c : ℕ) → o ≡ refused n c → Memᴰ n (1 ∷ 2 ∷ 3 ∷ 15 ∷ 4 ∷ [])
  pub counted : (n : ℕ) → (o ≡ given n) ↔ (Accepted s × (n ≡ length (pairs s)))

pub demand1_counted : (s : Scene) (r : Result ℕ Refused) → Counted s r → CountTable s (outcome_of r)
unfolding NoneHolds absent distinct
demand1_counted s r p =
    let Right : ℕ → Type 0 = λ n. n ≡ length (pairs s) in
    record {
      rows = scene_rows Right s [] (outcome_of r) refl p;
      only = numbers_only Right s [] (outcome_of r) refl p;
      counted = λ n.
          let gives = gives_exactly Right (λ a b h k. h ∙ sym k) (scene_checks s) (outcome_of r) p n in (
            λ e. let (h, is) = gives.0 e in ((then_accepted.0 h).0, is),
            λ h. gives.1 (then_accepted.1 (h.0, tt), h.1),
          );
    }
