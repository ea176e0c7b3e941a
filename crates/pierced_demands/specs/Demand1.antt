-- Demand 1 for an edge and a triangle asked for: the rows of the table, 5 and then 6 after those of the scene; and when which word is given.
use Rattle.std.specs.Prelude.{ℕ, Bool, true, false, ◌↔◌, ◌≡◌, Result}
use mathlib.Core.List.{[], ◌∷◌, Memᴰ}
use Rattle.std.proofs.Math.Path.{refl}
use Rattle.meaning.specs.Scene.{Scene, Accepted, wrong_shape, out_of_range, unknown_vertex, broken_seam, repeated_vertex}
use Rattle.meaning.specs.Refusals.{Outcome, given, refused, Answers, outcome_alone}
use Rattle.meaning.specs.Pierced.{no_edge_or_triangle, end_is_corner, pierced_checks, Pierced, PiercedIs, PiercedDecided}
use Rattle.meaning.specs.declared.Frame.{Frame}
use Rattle.answers.specs.Deciding.{Refuses, carried_by, NoneHolds, absent, distinct, refused_exactly, number_known, gives_exactly}
use Rattle.pierced_pair.specs.OneResult.{one_word_lem}
use Rattle.meaning.specs.declared.Refusal.{Refusal}

-- none of the scene's five, and then
abbrev Then : Scene → Type 0 → Type 0
Then s R = (wrong_shape s ≡ false) × ((out_of_range s ≡ false) × ((unknown_vertex s ≡ false) × ((broken_seam s ≡ false) × ((repeated_vertex s ≡ false) × R))))

then_accepted : {s : Scene} {R : Type 0} → Then s R → Accepted s × R
then_accepted h = (record { shapely = h.0; in_range = h.1.0; known = h.1.1.0; sewn_well = h.1.1.1.0; distinct = h.1.1.1.1.0 }, h.1.1.1.1.1)

accepted_then : {s : Scene} {R : Type 0} → Accepted s × R → Then s R
accepted_then h = (h.0.shapely, (h.0.in_range, (h.0.known, (h.0.sewn_well, (h.0.distinct, h.1)))))

-- each number exactly when its condition holds and no check before it does; and a word exactly when none holds and it is right
pub record PiercedTable (s : Scene) (f : Frame) (i j : ℕ) (o : Outcome Bool) : Type 0 where
  pub no1 : (o ≡ refused 1 0) ↔ (wrong_shape s ≡ true)
  pub no2 : (o ≡ refused 2 0) ↔ ((wrong_shape s ≡ false) × (out_of_range s ≡ true))
  pub no3 : (o ≡ refused 3 0) ↔ ((wrong_shape s ≡ false) × ((out_of_range s ≡ false) × (unknown_vertex s ≡ true)))
  pub no15 : (o ≡ refused 15 0) ↔ ((wrong_shape s ≡ false) × ((out_of_range s ≡ false) × ((unknown_vertex s ≡ false) × (broken_seam s ≡ true))))
  pub no4 : (o ≡ refused 4 0) ↔ ((wrong_shape s ≡ false) × ((out_of_range s ≡ false) × ((unknown_vertex s ≡ false) × ((broken_seam s ≡ false) × (repeated_vertex s ≡ true)))))
  pub no5 : (o ≡ refused 5 0) ↔ (Accepted s × (no_edge_or_triangle s i j ≡ true))
  pub no6 : (o ≡ refused 6 0) ↔ (Accepted s × ((no_edge_or_triangle s i j ≡ false) × (end_is_corner s i j ≡ true)))
  pub only : (n c : ℕ) → o ≡ refused n c → Memᴰ n (1 ∷ 2 ∷ 3 ∷ 15 ∷ 4 ∷ 5 ∷ 6 ∷ [])
  pub pierced : (o ≡ given true) ↔ (Accepted s × ((no_edge_or_triangle s i j ≡ false) × (end_is_corner s i j ≡ false) × Pierced s f i j))
  pub clear : (o ≡ given false) ↔ (Accepted s × ((no_edge_or_triangle s i j ≡ false) × (end_is_corner s i j ≡ false) × ¬ Pierced s f i j))

module _ (s : Scene) (f : Frame) (i j : ℕ) (o : Outcome Bool) (p : Answers (pierced_checks s i j) (PiercedIs s f i j) o) where
  word_given : (b : Bool) → (o ≡ given b) ↔ (Accepted s × ((no_edge_or_triangle s i j ≡ false) × (end_is_corner s i j ≡ false) × PiercedIs s f i j b))
  unfolding NoneHolds
  word_given b =
      let gives = gives_exactly (PiercedIs s f i j) (one_word_lem s f i j) (pierced_checks s i j) o p b in (
        λ e. let (h, is) = gives.0 e in let (a, r) = then_accepted h in (a, (r.0, r.1.0, is)),
        λ h. gives.1 (accepted_then (h.0, (h.1.0, (h.1.1, tt))), h.1.2),
      )

  table : PiercedTable s f i j o
  unfolding Refuses carried_by absent distinct PiercedIs
  table =
      let row = refused_exactly (PiercedIs s f i j) (pierced_checks s i j) o refl p in
      record {
        no1 = row 1;
        no2 = row 2;
        no3 = row 3;
        no15 = row 15;
        no4 = row 4;
        no5 = (λ e. then_accepted ((row 5).0 e), λ h. (row 5).1 (accepted_then h));
        no6 = (λ e. then_accepted ((row 6).0 e), λ h. (row 6).1 (accepted_then h));
        only = number_known (PiercedIs s f i j) (pierced_checks s i j) o p;
        pierced = word_given true;
        clear = word_given false;
      }

pub demand1_pierced : (s : Scene) (f : Frame) (i j : ℕ) (r : Result Bool Refusal) → PiercedDecided s f i j r → PiercedTable s f i j (outcome_alone r)
demand1_pierced s f i j r p = table s f i j (outcome_alone r) p
