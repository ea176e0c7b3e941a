-- A stretch of rows is one of vertices and one of edges, each run by run.
use Rattle.std.specs.Prelude.{ℕ, ◌+◌, ◌-◌, ◌≤◌, ◌<◌, min, List, ◌++◌, ◌≡◌, refl, ℤ, length}
use Rattle.std.proofs.Common.{⊎_elim, sym, ap, ◌∙◌, zero-add, arith}
use Rattle.std.proofs.Math.Path.{subst}
use Rattle.sequences.specs.Gather.{gather, gather_none, gather_cut, gather_same}
use Rattle.sequences.specs.Range.{le_or_lt}
use Rattle.meaning.specs.Scene.{Scene, vertex_count, edge_count, triangle_count}
use Rattle.meaning.specs.MeshRows.{mesh_entries, row_count, rows_in}
use Rattle.meaning.specs.declared.Kind.TheVariants.{PointTriangle, EdgeEdge}
use Rattle.meaning.specs.declared.RowPairs.{RowPairs}
use Rattle.list_candidates.specs.Rows.{first_count, second_from}
use Rattle.mesh_laws.specs.Rows.{gather_moved}
use Rattle.mesh_trees.specs.Forest.{Forest}
use Rattle.mesh_entries.specs.Entering.{Entered, EnteringUpTo, entered_then, up_to_starts}
use Rattle.mesh_rows.specs.Rows.{RowTree, vertex_tree, edge_tree, vertex_row_of, edge_row_of, row_entries, rows_gathered}
use Rattle.mesh_runs.specs.Runs.{KindTree, kind_entries}

-- the row with which the edges' begin, or the end of a stretch where it has none
pub record Parted (n first end middle : ℕ) : Type 0 where
  pub past : first ≤ middle
  pub before : middle ≤ end
  pub vertices : middle ≤ first + (n - first)
  pub edges : end ≤ middle + (end - n)

-- ---- the rows of a kind in a forest, where no order is lent for the second parts

module _ {s : Scene} {p q : List ℕ} {l : List ℤ} {e t : List ℕ} {edge_top triangle_top : ℕ} (so : Forest s p q l e t edge_top triangle_top) where
  pub vertex_kind : length q ≡ 0 → (n : ℕ) → n ≡ triangle_count s → KindTree s PointTriangle l t n triangle_top 0
  unfolding first_count second_from
  vertex_kind none n k =
      record {
        row = λ i h.
            subst (λ (row : ℕ). RowTree s PointTriangle i l t n triangle_top row 0) (sym (zero-add i)) (vertex_tree so none i n 0 h k refl);
        tree = rw k so.over_triangles;
        inside = omega (arith, so.boxed.room);
        few = omega (arith, so.few_triangles);
        few_rows = so.few_vertices;
        low = omega arith;
      }

  pub edge_kind : length p ≡ 0 → (n offset : ℕ) → n ≡ edge_count s → offset ≡ vertex_count s → KindTree s EdgeEdge l e n edge_top offset
  unfolding first_count second_from
  edge_kind none n offset k o =
      record {
        row = λ i h. edge_tree so none i (offset + i) n (i + 1) h (omega arith) k refl;
        tree = rw k so.over_edges;
        inside = omega (arith, so.boxed.room);
        few = omega (arith, so.few_edges);
        few_rows = so.few_edges;
        low = omega (arith, so.few_vertices);
      }

-- ---- run by run

pub run_entered : (f : ℕ → List ℕ) {most from first k i m next : ℕ} {o₀ o o' : List ℕ} → i ≤ next → EnteringUpTo f most o₀ from first o k i
    → Entered most o k (gather f i next) o' m → EnteringUpTo f most o₀ from first o' m next
run_entered f {first = first} {i = i} {next = next} h so w =
    record { past = omega (arith, so.past); done = rw (gather_cut f first i next so.past h) (entered_then so.done w) }

-- runs of so many rows, the last of which ends with the stretch: those before a row are entered
module _ (f : ℕ → List ℕ) {most first end : ℕ} {o₀ : List ℕ} where
  pub runs_start : {k : ℕ} → first ≤ end → EnteringUpTo f most o₀ k first o₀ k (min first end)
  runs_start {k} h =
      let whole : min first end ≡ first = omega arith in
      rw whole (up_to_starts f o₀ k first)

  pub run_passed : {from k i : ℕ} {o : List ℕ} → i < end → EnteringUpTo f most o₀ from first o k (min i end) → EnteringUpTo f most o₀ from first o k i
  run_passed {i} below so =
      let here : min i end ≡ i = omega arith in
      rw here at so

  pub runs_next : (rows : ℕ) {from k i m next : ℕ} {o o' : List ℕ} → i < end → next ≡ min (i + rows) end
      → EnteringUpTo f most o₀ from first o k (min i end)
      → Entered most o k (gather f i next) o' m → EnteringUpTo f most o₀ from first o' m (min (i + rows) end)
  runs_next rows below made so w = rw (← made) (run_entered f (omega arith) (run_passed below so) w)

  pub runs_last : {from k i m next : ℕ} {o o' : List ℕ} → i < end → next ≡ end → EnteringUpTo f most o₀ from first o k (min i end)
      → Entered most o k (gather f i next) o' m → Entered most o₀ from (gather f first end) o' m
  runs_last below last so w = (run_entered f (omega arith) (run_passed below so) (rw last at w)).done

  pub runs_end : {from k i : ℕ} {o : List ℕ} → end ≤ i → EnteringUpTo f most o₀ from first o k (min i end) → Entered most o₀ from (gather f first end) o k
  runs_end {i} past so =
      let all : min i end ≡ end = omega arith in
      rw all at so.done

-- ---- both kinds

module _ (w : RowPairs) (s : Scene) (first end middle : ℕ) (so : Parted (vertex_count s) first end middle) where
  abbrev n : ℕ
  n = vertex_count s

  vertex_part : gather (row_entries w s) first middle ≡ gather (kind_entries w s PointTriangle) first middle
  vertex_part =
      gather_same (row_entries w s) (kind_entries w s PointTriangle) first middle
      (λ v low high. ap mesh_entries (sym (vertex_row_of w s v (omega (arith, so.vertices)))))

  edge_part : gather (row_entries w s) middle end ≡ gather (kind_entries w s EdgeEdge) (middle - n) (end - n)
  edge_part =
      ⊎_elim
      (λ past.
      let low : middle ≡ n + (middle - n) = omega arith in
      let high : end ≡ n + (end - n) = omega (arith, so.before) in
      (λ t. gather (row_entries w s) (low t) (high t))
      ∙ gather_moved (row_entries w s) n (end - n) (middle - n)
      ∙ gather_same (λ i. row_entries w s (n + i)) (kind_entries w s EdgeEdge) (middle - n) (end - n)
      (λ i p q. ap mesh_entries (sym (edge_row_of w s i (n + i) refl))))
      (λ below.
      gather_none (row_entries w s) middle end (omega (arith, so.edges))
      ∙ sym (gather_none (kind_entries w s EdgeEdge) (middle - n) (end - n) (omega (arith, so.edges))))
      (le_or_lt n middle)

  -- the vertices' rows and then the edges' are the stretch
  pub both_entered : {most k m : ℕ} {o o₁ o₂ : List ℕ}
      → Entered most o 0 (gather (kind_entries w s PointTriangle) first middle) o₁ k
      → Entered most o₁ k (gather (kind_entries w s EdgeEdge) (middle - n) (end - n)) o₂ m
      → Entered most o 0 (mesh_entries (rows_in w s first end)) o₂ m
  both_entered {most} {k} {m} {o} {o₁} {o₂} one two =
      let front = vertex_part in
      let back = edge_part in
      let all : gather (kind_entries w s PointTriangle) first middle ++ gather (kind_entries w s EdgeEdge) (middle - n) (end - n)
      ≡ mesh_entries (rows_in w s first end) =
      sym (gather_cut (row_entries w s) first middle end so.past so.before ∙ λ t. front t ++ back t) ∙ rows_gathered w s first end in
      subst (λ (ns : List ℕ). Entered most o 0 ns o₂ m) all (entered_then one two)

-- ---- by counts that were taken

module _ (s : Scene) {n first end middle : ℕ} (counted : n ≡ vertex_count s) (so : Parted n first end middle) where
  pub vertices_fit : (first ≤ middle) × (middle ≤ first + (first_count s PointTriangle - first))
  unfolding first_count
  vertices_fit = (so.past, omega (arith, so.vertices))

  pub edges_fit : {a b : ℕ} → a ≡ middle - n → b ≡ end - n → end ≤ row_count s
      → (a ≤ b) × (b ≤ a + (first_count s EdgeEdge - a))
  unfolding first_count
  edges_fit p q h = (omega (arith, so.before), omega (arith, so.before))

  pub stretch_entered : (w : RowPairs) {a b most k m : ℕ} {o o₁ o₂ : List ℕ} → a ≡ middle - n → b ≡ end - n
      → Entered most o 0 (gather (kind_entries w s PointTriangle) first middle) o₁ k
      → Entered most o₁ k (gather (kind_entries w s EdgeEdge) a b) o₂ m
      → Entered most o 0 (mesh_entries (rows_in w s first end)) o₂ m
  stretch_entered w p q one two = both_entered w s first end middle (rw counted at so) one (rw (p, q, counted) at two)
