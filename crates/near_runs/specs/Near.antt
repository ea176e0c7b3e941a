-- A part that is far from the boxes of a run is far from each of its rows: so the places that are not serve each row of the run.
use Rattle.std.specs.Prelude.{ℕ, ◌+◌, ◌-◌, ◌≤◌, ◌<◌, Bool, true, ◌&&◌, List, ◌≡◌, refl, ℤ, length, get_or}
use Rattle.std.proofs.Math.Bool.{false, not, and-false}
use Rattle.std.proofs.Common.{true≢false, ◌∙◌, arith}
use Rattle.std.proofs.Math.Path.{ap}
use Rattle.sequences.specs.Gather.{gather, gather_short}
use Rattle.meaning.specs.Limits.{part_limit}
use Rattle.meaning.specs.MeshRows.{mesh_number}
use Rattle.meaning.specs.Scene.{Scene, vertex_count, edge_count, triangle_count}
use Rattle.meaning.specs.Refusals.{shares}
use Rattle.meaning.specs.Near.{far}
use Rattle.meaning.specs.declared.Frame.TheVariants.{Start, End}
use Rattle.meaning.specs.declared.Kind.{Kind}
use Rattle.meaning.specs.declared.Kind.TheVariants.{PointTriangle, EdgeEdge}
use Rattle.meaning.specs.declared.RowPairs.TheVariants.{Near}
use Rattle.list_candidates.specs.Rows.{first_count, second_from}
use Rattle.mesh_entries.specs.Entering.{Entered, entered_wrote, entered_length}
use Rattle.mesh_walk.specs.Places.{places_from}
use Rattle.mesh_walk.specs.Steps.{row_meets}
use Rattle.mesh_rows.specs.Asking.{left_out, passes}
use Rattle.mesh_trees.specs.Forest.{Forest}
use Rattle.mesh_rows.specs.Rows.{row_few}
use Rattle.mesh_runs.specs.Runs.{KindTree, kind_entries, AllSought, row_sought, from_rises}
use Rattle.mesh_runs.specs.Stretch.{vertex_kind, edge_kind}
use Rattle.near_boxes.specs.Far.{second_box_at, inside_itself, far_inside}
use Rattle.near_walk.specs.Nodes.{Nodes, part_near}
use Rattle.near_runs.specs.Held.{Known, Held}

not_near : (b : Bool) → not b ≡ false → b ≡ true
not_near true e = refl
not_near false e = absurd (true≢false e)

module _ {s : Scene} {kind : Kind} {first end : ℕ} {o : List ℤ} (held : Held s kind first end o) (i : ℕ) (low : first ≤ i) (high : i < end) (j : ℕ) where
  row_far : part_near o s kind j ≡ false → far s kind i j ≡ true
  row_far e =
      far_inside (held.at_start i low high) (held.at_end i low high) (inside_itself (second_box_at Start s kind j))
      (inside_itself (second_box_at End s kind j))
      (not_near _ e)

  row_left : (met : Bool) → part_near o s kind j ≡ false → met && passes Near s kind i j ≡ false
  unfolding left_out
  row_left met e =
      let out = row_far e in
      let fails : passes Near s kind i j ≡ false =
      ap (λ (b : Bool). not (shares s kind i j) && not b) out ∙ and-false (not (shares s kind i j)) in
      ap (λ (b : Bool). met && b) fails ∙ and-false met

pub near_sought : {s : Scene} {kind : Kind} {l : List ℤ} {t : List ℕ} {parts top offset : ℕ} → KindTree s kind l t parts top offset
    → (first end : ℕ) → end ≤ first_count s kind → {own : List ℤ} → Held s kind first end own
    → {o o' : List ℕ} {from n : ℕ} → from ≡ second_from kind first → n ≤ length o
    → Entered (length o) o 0 (places_from (part_near own s kind) parts from) o' n
    → AllSought Near s kind l (get_or t 0 0) offset first end o' n
near_sought {s} {kind} {l} {t} {parts} {top} {offset} so first end most {own} held {o} {o'} {from} {n} begins fits found i low high =
    let wrote = entered_wrote fits (omega arith) found in
    row_sought (so.row i (omega arith)) Near (part_near own s kind)
    (λ j h e. row_left held i low high j (row_meets l t (offset + i) j) e)
    from (omega (arith, begins, from_rises kind first i low)) o' n
    (omega (arith, entered_length found))
    wrote.front

-- ---- what the rows of a kind go by, and what all rows do

pub record NearKind (s : Scene) (kind : Kind) (l : List ℤ) (t : List ℕ) (shift parts top offset : ℕ) : Type 0 where
  pub rows : KindTree s kind l t parts top offset
  pub nodes : Nodes s kind l t shift parts top
  pub known : Known s

pub record NearForest (s : Scene) (l : List ℤ) (e t : List ℕ) (edge_top triangle_top shift : ℕ) : Type 0 where
  pub edge_order : List ℕ
  pub triangle_order : List ℕ
  pub no_edges : length edge_order ≡ 0
  pub no_triangles : length triangle_order ≡ 0
  pub forest : Forest s edge_order triangle_order l e t edge_top triangle_top
  pub edges : Nodes s EdgeEdge l e shift (edge_count s) edge_top
  pub triangles : Nodes s PointTriangle l t shift (triangle_count s) triangle_top

module _ {s : Scene} {l : List ℤ} {e t : List ℕ} {edge_top triangle_top shift : ℕ} (so : NearForest s l e t edge_top triangle_top shift) where
  known_here : Known s
  known_here = record { few = so.forest.few_vertices; ends = so.forest.ends }

  pub vertex_near : (n : ℕ) → n ≡ triangle_count s → NearKind s PointTriangle l t shift n triangle_top 0
  vertex_near n k = record { rows = vertex_kind so.forest so.no_triangles n k; nodes = rw k so.triangles; known = known_here }

  pub edge_near : (n offset : ℕ) → n ≡ edge_count s → offset ≡ vertex_count s → NearKind s EdgeEdge l e shift n edge_top offset
  edge_near n offset k o = record { rows = edge_kind so.forest so.no_edges n offset k o; nodes = rw k so.edges; known = known_here }

-- the rows of a kind have at most 2^60 pairs
pub near_most : {s : Scene} {kind : Kind} {l : List ℤ} {t : List ℕ} {shift parts top offset : ℕ} → NearKind s kind l t shift parts top offset
    → (first end : ℕ) → first ≤ end → end ≤ first + (first_count s kind - first)
    → length (gather (kind_entries Near s kind) first end) ≤ 1152921504606846976
near_most {s} {kind} so first end h last =
    let rows = so.rows.few_rows in
    let short = gather_short (kind_entries Near s kind) part_limit first end
    (λ j p q. omega (arith, row_few (so.rows.row j (omega arith)) mesh_number Near, so.rows.few)) in
    omega arith
