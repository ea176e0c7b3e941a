-- A frame is clean where its rows list no pierced edge: of edges and triangles without a shared vertex the rows list exactly the pierced ones. Rows may
-- be asked in stretches.
use Rattle.std.specs.Prelude.{ℕ, ◌≤◌, ◌<◌, ◌≡◌, refl, Bool, true, false, List, [], ◌∷◌, length, leb, Result}
use Rattle.std.proofs.Common.{arith, sym, leb-false}
use mathlib.Core.List.Memᴰ
use Rattle.meaning.specs.Scene.{Scene, edge_count, triangle_count}
use Rattle.meaning.specs.MeshRows.{Lent}
use Rattle.meaning.specs.Pierced.{Pierced, end_is_corner}
use Rattle.meaning.specs.PiercedRows.{through_rows, AllPierced, yes_of, PiercedListed}
use Rattle.meaning.specs.Refusals.{given, outcome_of}
use Rattle.meaning.specs.declared.Frame.{Frame}
use Rattle.answers.specs.Below.{or_left, or_rest}
use Rattle.answers.specs.Deciding.{given_right}
use Rattle.through_laws.specs.Members.{listed_exactly}
use Rattle.clean_demands.specs.Mesh.{CleanAt}
use Rattle.meaning.specs.declared.Refused.{Refused}

-- edge i pierces no triangle at that time
pub record RowClean (f : Frame) (s : Scene) (i : ℕ) : Type 0 where
  pub none : (j : ℕ) → j < triangle_count s → end_is_corner s i j ≡ false → ¬ Pierced s f i j

pub rows_clean : (f : Frame) (s : Scene) → ((i : ℕ) → i < edge_count s → RowClean f s i) → CleanAt s f
rows_clean f s rows = record {
  none = λ i j there apart.
      (rows i (leb-false (edge_count s) i (or_left (leb (edge_count s) i) (leb (triangle_count s) j) there))).none j
      (leb-false (triangle_count s) j (or_rest (leb (edge_count s) i) (leb (triangle_count s) j) there)) apart;
}

-- of answers of which none is yes nothing is listed
none_yes : {A : Type 0} (bs : List Bool) (l : List A) → length (yes_of bs bs) ≡ 0 → yes_of bs l ≡ []
unfolding yes_of
none_yes [] l e = refl
none_yes (true ∷ bs) [] e = refl
none_yes (true ∷ bs) (x ∷ l) e = absurd (omega (arith, e))
none_yes (false ∷ bs) [] e = refl
none_yes (false ∷ bs) (x ∷ l) e = none_yes bs l e

pub stretch_clean : (f : Frame) (s : Scene) (a b : ℕ) (bs : List Bool) → AllPierced f s (through_rows f s a b) bs → length (yes_of bs bs) ≡ 0
    → (i : ℕ) → a ≤ i → i < b → RowClean f s i
stretch_clean f s a b bs all zero-yes i above below = record {
  none = λ j there apart p. Memᴰ.not-nil (rw (none_yes bs (through_rows f s a b) zero-yes) at ((listed_exactly f s a b bs all i j above below there apart).1 p));
}

-- as the call for a stretch tells it: none is listed
pub none_listed_clean : (f : Frame) (s : Scene) (l : Lent) (a b : ℕ) (o o' : List ℕ) (r : Result ℕ Refused) → PiercedListed f s l a b o o' r → outcome_of r ≡ given 0
    → (i : ℕ) → a ≤ i → i < b → RowClean f s i
none_listed_clean f s l a b o o' r told says =
    stretch_clean f s a b told.answers told.right (sym (given_right _ _ 0 (rw says at told.answer)))
