-- The list of a mesh row by row: first the vertices' rows, then the edges'. All rows of listed pairs in turn are the list, and neighbouring stretches
-- of rows joined are the stretch.
use Rattle.std.specs.Prelude.{ℕ, ◌+◌, ◌-◌, ◌≤◌, ◌<◌, true, false, List, ◌++◌, ◌≡◌, refl, ltb}
use Rattle.std.proofs.Common.{sym, ap, ◌∙◌, arith, lt-ltb, le-ltb}
use Rattle.sequences.specs.Gather.{gather, gather_none, gather_first, gather_cut, gather_same}
use Rattle.sequences.specs.Pick.{pick, pick_true, pick_false}
use Rattle.sequences.specs.Range.{towards}
use Rattle.meaning.specs.Scene.{Scene, vertex_count, edge_count}
use Rattle.meaning.specs.List.{Pair, pairs}
use Rattle.meaning.specs.MeshRows.{row_test, row_count, vertex_row, edge_row, mesh_row, rows_in}
use Rattle.meaning.specs.declared.RowPairs.{RowPairs}
use Rattle.meaning.specs.declared.RowPairs.TheVariants.{Listed}

module _ {ℓ} {A : Type ℓ} where
  -- what is gathered from a later index on
  pub gather_moved : (f : ℕ → List A) (n k i : ℕ) → gather f (n + i) (n + k) ≡ gather (λ j. f (n + j)) i k
  gather_moved f n k =
      towards k (λ i. gather f (n + i) (n + k) ≡ gather (λ j. f (n + j)) i k)
      (λ i past. gather_none f (n + i) (n + k) (omega arith) ∙ sym (gather_none (λ j. f (n + j)) i k past))
      (λ i lt next.
      let place : n + i + 1 ≡ n + (i + 1) = omega arith in
      gather_first f (n + i) (n + k) (omega arith)
      ∙ ap (λ (j : ℕ). f (n + i) ++ gather f j (n + k)) place
      ∙ ap (λ (l : List A). f (n + i) ++ l) next
      ∙ sym (gather_first (λ j. f (n + j)) i k lt))

module _ (w : RowPairs) (s : Scene) where
  pub vertex_row_lem : (v : ℕ) → v < vertex_count s → mesh_row w s v ≡ vertex_row w s v
  vertex_row_lem v h = pick_true (vertex_row w s v) (edge_row w s (v - vertex_count s)) (lt-ltb v (vertex_count s) h)

  pub edge_row_lem : (i : ℕ) → mesh_row w s (vertex_count s + i) ≡ edge_row w s i
  edge_row_lem i =
      let n = vertex_count s in
      let place : n + i - n ≡ i = omega arith in
      pick_false (vertex_row w s (n + i)) (edge_row w s (n + i - n)) (le-ltb (n + i) n (omega arith)) ∙ ap (edge_row w s) place

  vertex_rows : rows_in w s 0 (vertex_count s) ≡ gather (vertex_row w s) 0 (vertex_count s)
  vertex_rows = gather_same (mesh_row w s) (vertex_row w s) 0 (vertex_count s) (λ v low high. vertex_row_lem v high)

  edge_rows : rows_in w s (vertex_count s) (row_count s) ≡ gather (edge_row w s) 0 (edge_count s)
  edge_rows =
      let n = vertex_count s in
      let first : n ≡ n + 0 = omega arith in
      ap (λ (i : ℕ). gather (mesh_row w s) i (n + edge_count s)) first
      ∙ gather_moved (mesh_row w s) n (edge_count s) 0
      ∙ gather_same (λ j. mesh_row w s (n + j)) (edge_row w s) 0 (edge_count s) (λ i low high. edge_row_lem i)

  -- all rows are the vertices' and then the edges'
  pub rows_in_turn : rows_in w s 0 (row_count s) ≡ gather (vertex_row w s) 0 (vertex_count s) ++ gather (edge_row w s) 0 (edge_count s)
  rows_in_turn =
      let front = vertex_rows in
      let back = edge_rows in
      gather_cut (mesh_row w s) 0 (vertex_count s) (row_count s) (omega arith) (omega arith)
      ∙ λ t. front t ++ back t

  -- lists of neighbouring stretches joined are the list of the stretch
  pub stretches_joined : (a b c : ℕ) → a ≤ b → b ≤ c → rows_in w s a b ++ rows_in w s b c ≡ rows_in w s a c
  stretches_joined a b c h k = sym (gather_cut (mesh_row w s) a b c h k)

-- all rows of listed pairs in turn are the list
pub all_rows : (s : Scene) → rows_in Listed s 0 (row_count s) ≡ pairs s
unfolding pairs row_test
all_rows s = rows_in_turn Listed s
