-- A row goes over the places that were found for its run, one by one; and rows go one behind the other.
use Rattle.std.specs.Prelude.{ℕ, ◌+◌, ◌*◌, ◌-◌, ◌≤◌, ◌<◌, Bool, false, ◌&&◌, ◌≡◌, ℤ, get_or, take}
use mathlib.Core.List.{List, []}
use Rattle.std.proofs.Math.Path.{ap}
use Rattle.std.proofs.Common.{arith}
use Rattle.std.proofs.Math.ListN.{length, drop}
use Rattle.std.proofs.lemmas.List.{drop_all}
use Rattle.sequences.specs.Chosen.{one}
use Rattle.sequences.specs.Gather.{gather, gather_short}
use Rattle.sequences.specs.Parts.{drop_next}
use Rattle.meaning.specs.Limits.{part_limit}
use Rattle.meaning.specs.Scene.{Scene}
use Rattle.meaning.specs.MeshRows.{mesh_number}
use Rattle.meaning.specs.declared.Kind.{Kind}
use Rattle.meaning.specs.declared.RowPairs.{RowPairs}
use Rattle.list_candidates.specs.Rows.{first_count}
use Rattle.mesh_entries.specs.Entering.{Entered, Entering, entered_none, entering_starts, entering_as, entering_step, entering_ends}
use Rattle.mesh_rows.specs.Asking.{passes, Askable}
use Rattle.mesh_rows.specs.Sifting.{sifted}
use Rattle.mesh_rows.specs.Rows.{entry_of, row_few}
use Rattle.mesh_runs.specs.Runs.{KindTree, kind_entries, goes_with, Sought, AllSought}
use Rattle.mesh_runs.specs.Taken.{front_read}

-- what is left of a row, of the places from the c-th on
abbrev pub sought_left : RowPairs → Scene → Kind → ℕ → List ℤ → (base row from : ℕ) → List ℕ → (count c : ℕ) → List ℕ
sought_left w s kind i l base row from ps count c =
    sifted (λ j. goes_with l base row from j && passes w s kind i j) (entry_of kind i) (drop c (take count ps))

module _ (w : RowPairs) {s : Scene} {kind : Kind} {i : ℕ} {l : List ℤ} {base row from : ℕ} {ps : List ℕ} {count : ℕ}
    (so : Sought w s kind i l base row from ps count) where
  pub sought_starts : (most at : ℕ) (o : List ℕ) → Entering most o at (kind_entries w s kind i) o at (sought_left w s kind i l base row from ps count 0)
  sought_starts most at o = entering_as so.whole (entering_starts most o at (kind_entries w s kind i))

  pub sought_asked : (c j : ℕ) → c < length (take count ps) → j ≡ get_or (take count ps) c 0 → Askable s kind i j
  sought_asked c j h read =
      let there = front_read ps count c j so.room h read in
      rw there.1 (so.asked c there.0)

  pub sought_reached : (c j : ℕ) → c < length (take count ps) → j ≡ get_or (take count ps) c 0 → 6 * (base + j) + 5 < length l
  sought_reached c j h read =
      let there = front_read ps count c j so.room h read in
      omega (arith, there.1, so.reach c there.0)

  -- the c-th place is entered, if it is listed
  pub sought_goes : (c j : ℕ) {found : Bool} {most at k k' : ℕ} {o₀ want o o' : List ℕ} → c < length (take count ps)
      → j ≡ get_or (take count ps) c 0
      → found ≡ goes_with l base row from j
      → Entering most o₀ at want o k (sought_left w s kind i l base row from ps count c)
      → Entered most o k (one (found && passes w s kind i j) (entry_of kind i j)) o' k'
      → Entering most o₀ at want o' k' (sought_left w s kind i l base row from ps count (c + 1))
  unfolding sifted
  sought_goes c j h read made so_far e =
      entering_step
      (entering_as (ap (sifted (λ j. goes_with l base row from j && passes w s kind i j) (entry_of kind i)) (drop_next (take count ps) c 0 h)) so_far)
      (rw (made, read) at e)

  -- a place that does not go with the row leaves everything as it is
  pub sought_skips : (c j : ℕ) {most at k : ℕ} {o₀ want o : List ℕ} → c < length (take count ps)
      → j ≡ get_or (take count ps) c 0 → false ≡ goes_with l base row from j
      → Entering most o₀ at want o k (sought_left w s kind i l base row from ps count c)
      → Entering most o₀ at want o k (sought_left w s kind i l base row from ps count (c + 1))
  sought_skips c j {most} {at} {k} {o₀} {want} {o} h read stops so_far = sought_goes c j h read stops so_far (entered_none most o k)

  pub sought_ends : (c : ℕ) {most at k : ℕ} {o₀ want o : List ℕ} → length (take count ps) ≤ c
      → Entering most o₀ at want o k (sought_left w s kind i l base row from ps count c) → Entered most o₀ at want o k
  unfolding sifted
  sought_ends c past so_far =
      let none : drop c (take count ps) ≡ [] = drop_all c (take count ps) past in
      entering_ends
      (entering_as (ap (sifted (λ j. goes_with l base row from j && passes w s kind i j) (entry_of kind i)) none) so_far)

-- ---- how many pairs some rows have

pub sought_few : (w : RowPairs) {s : Scene} {kind : Kind} {l : List ℤ} {base : ℕ} (offset first end : ℕ) {ps : List ℕ} {count : ℕ}
    → AllSought w s kind l base offset first end ps count → (i : ℕ) → i ≤ end
    → length (gather (kind_entries w s kind) first i) ≤ (i - first) * part_limit
sought_few w {s} {kind} offset first end so i h =
    gather_short (kind_entries w s kind) part_limit first i (λ j p q. (so j p (omega arith)).few)

pub kind_few : (w : RowPairs) {s : Scene} {kind : Kind} {l : List ℤ} {t : List ℕ} {parts top offset : ℕ} → KindTree s kind l t parts top offset
    → (first i : ℕ) → i ≤ first_count s kind → length (gather (kind_entries w s kind) first i) ≤ (i - first) * part_limit
kind_few w {s} {kind} so first i h =
    gather_short (kind_entries w s kind) part_limit first i (λ j p q. omega (arith, row_few (so.row j (omega arith)) mesh_number w, so.few))
