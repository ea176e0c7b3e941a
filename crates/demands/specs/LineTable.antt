-- Demand 1 in a line of a text: 9, 10, 11, 2, 3, 15, 4, each exactly when the table says so of the scene above the line and of the same scene
-- with the line's record.
use Rattle.std.specs.Prelude.{ℕ, Bool, true, false, ◌||◌, ◌≢◌, ◌↔◌, ◌≡◌, eqb}
use mathlib.Core.List.{List, [], ◌∷◌, ◌++◌, Memᴰ}
use Rattle.std.proofs.Math.Path.{refl}
use Rattle.std.proofs.Common.{sym, subst}
use Rattle.meaning.specs.Limits.{digit_limit}
use Rattle.meaning.specs.Scene.{Scene, over_size, out_of_range, unknown_vertex, broken_seam, repeated_vertex}
use Rattle.meaning.specs.Refusals.{refused}
use Rattle.meaning.specs.Text.{Entry, line_of, numbers_of, Short, late, scene_with, entry_checks, EntryJudged, SceneFault}
use Rattle.meaning.specs.Lines.{unformed, misplaced}
use Rattle.theory.specs.Bounds.{Every}
use Rattle.text_line.specs.Rendered.{line_cancel}
use Rattle.answers.specs.Deciding.{Refuses, carried_by, absent, distinct, refused_exactly, refuses_answers, number_known}

-- ---- in a line that is a record's: 10, 11, 2, 3, 15, 4

pub record EntryRows (s : Scene) (r : Entry) (rest : List ℕ) : Type 0 where
  pub no10 : SceneFault s (line_of r ++ rest) 10 ↔ (late s r ≡ true)
  pub no11 : SceneFault s (line_of r ++ rest) 11 ↔ ((late s r ≡ false) × (over_size (scene_with s r) ≡ true))
  pub no2 : SceneFault s (line_of r ++ rest) 2 ↔ ((late s r ≡ false) × ((over_size (scene_with s r) ≡ false) × (out_of_range (scene_with s r) ≡ true)))
  pub no3 : SceneFault s (line_of r ++ rest) 3
      ↔ ((late s r ≡ false) × ((over_size (scene_with s r) ≡ false) × ((out_of_range (scene_with s r) ≡ false) × (unknown_vertex (scene_with s r) ≡ true))))
  pub no15 : SceneFault s (line_of r ++ rest) 15
      ↔ ((late s r ≡ false) × ((over_size (scene_with s r) ≡ false) × ((out_of_range (scene_with s r) ≡ false) × ((unknown_vertex (scene_with s r) ≡ false)
      × (broken_seam (scene_with s r) ≡ true)))))
  pub no4 : SceneFault s (line_of r ++ rest) 4
      ↔ ((late s r ≡ false) × ((over_size (scene_with s r) ≡ false) × ((out_of_range (scene_with s r) ≡ false) × ((unknown_vertex (scene_with s r) ≡ false)
      × ((broken_seam (scene_with s r) ≡ false) × (repeated_vertex (scene_with s r) ≡ true))))))

module _ (s : Scene) (r : Entry) (rest : List ℕ) (short : Short digit_limit (numbers_of r)) where
  judged_so : (n : ℕ) → SceneFault s (line_of r ++ rest) n → EntryJudged s r (refused n 0)
  judged_so n (unformed e some never) = absurd (never r rest short refl)
  judged_so n (misplaced q more shorter e j) =
      let (same, below) = line_cancel r q rest more e in
      subst (λ (x : Entry). EntryJudged s x (refused n 0)) (sym same) j

  -- n's refusal carries nothing here
  row : (n : ℕ) → carried_by (entry_checks s r) n ≡ 0 → SceneFault s (line_of r ++ rest) n ↔ Refuses (entry_checks s r) n
  unfolding absent distinct
  row n plain = (
    λ f. (refused_exactly (λ t. Unit {0}) (entry_checks s r) (refused n 0) refl (judged_so n f) n).0 (rw plain refl),
    λ h.
        misplaced r rest short refl
        (subst (λ m. EntryJudged s r (refused n m)) plain (refuses_answers (λ t. Unit {0}) (entry_checks s r) n h)),
  )

  pub entry_rows : EntryRows s r rest
  unfolding Refuses carried_by
  entry_rows = record { no10 = row 10 refl; no11 = row 11 refl; no2 = row 2 refl; no3 = row 3 refl; no15 = row 15 refl; no4 = row 4 refl }

-- ---- a line that is no record's, or has no LF: 9

abbrev pub NoLine : List ℕ → Type 0
NoLine text = (r : Entry) (rest : List ℕ) → Short digit_limit (numbers_of r) → text ≡ line_of r ++ rest → ⊥

pub no9 : (s : Scene) (text : List ℕ) → SceneFault s text 9 ↔ ((text ≢ []) × NoLine text)
unfolding Refuses carried_by absent distinct
no9 s text = (to, λ h. unformed refl h.0 h.1)
  where
    to : SceneFault s text 9 → (text ≢ []) × NoLine text
    to (unformed e some never) = (some, never)
    to (misplaced r rest short e j) =
        absurd ((refused_exactly (λ t. Unit {0}) (entry_checks s r) (refused 9 0) refl j 9).0 refl).1.1.1.1.1.1

-- ---- no other number

-- the numbers of a line
abbrev pub in_line : ℕ → Bool
in_line n = eqb n 9 || eqb n 10 || eqb n 11 || eqb n 2 || eqb n 3 || eqb n 15 || eqb n 4

every_member : {A : Type 0} (P : A → Type 0) (l : List A) (a : A) → Every P l → Memᴰ a l → P a
every_member {A = A} P [] a h x'' = elim x'' [ ]
every_member P (x ∷ l) a h (Memᴰ.head e) = subst P (sym e) h.0
every_member P (x ∷ l) a h (Memᴰ.tail m) = every_member P l a h.1 m

-- the number of a fault in a line is one of them
pub fault_known : {s : Scene} {text : List ℕ} {n : ℕ} → SceneFault s text n → Memᴰ n (9 ∷ 10 ∷ 11 ∷ 2 ∷ 3 ∷ 15 ∷ 4 ∷ [])
fault_known (unformed e some never) = Memᴰ.head e
fault_known {s} {n = n} (misplaced r rest short e j) =
    Memᴰ.tail (number_known (λ t. Unit {0}) (entry_checks s r) (refused n 0) j n 0 refl)

pub fault_in_line : {s : Scene} {text : List ℕ} {n : ℕ} → SceneFault s text n → in_line n ≡ true
fault_in_line {n = n} f =
    every_member (λ m. in_line m ≡ true) (9 ∷ 10 ∷ 11 ∷ 2 ∷ 3 ∷ 15 ∷ 4 ∷ []) n (refl, (refl, (refl, (refl, (refl, (refl, (refl, tt))))))) (fault_known f)
