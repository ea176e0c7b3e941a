-- The rows of a stretch, judged one after the other: what is kept of those passed.
use Rattle.std.specs.Prelude.{ℕ, ◌+◌, ◌-◌, ◌≤◌, ◌<◌, List, ◌≡◌, ℤ, length, take}
use Rattle.std.proofs.Common.{⊎_elim, sym, ap, ◌∙◌, arith, length-append}
use Rattle.sequences.specs.Gather.{gather_short}
use Rattle.sequences.specs.Range.{le_or_lt}
use Rattle.meaning.specs.Scene.{Scene, vertex_count}
use Rattle.meaning.specs.MeshRows.{row_count, mesh_row, rows_in, mesh_entries}
use Rattle.meaning.specs.declared.Kind.{Kind}
use Rattle.meaning.specs.declared.Kind.TheVariants.{PointTriangle, EdgeEdge}
use Rattle.meaning.specs.declared.RowPairs.{RowPairs}
use Rattle.meaning.specs.declared.Wanted.{Wanted}
use Rattle.mesh_laws.specs.Entries.{MeshSized}
use Rattle.mesh_laws.specs.Rows.{stretches_joined}
use Rattle.mesh_entries.specs.Entering.{Entered, entered_wrote}
use Rattle.mesh_words.specs.Asked.{mesh_pairs_in, entered_pairs, entered_there}
use Rattle.mesh_words.specs.OfRows.{rows_entered, there_within}
use Rattle.mesh_trees.specs.Forest.{Forest}
use Rattle.mesh_rows.specs.Rows.{part_row, SecondsPut, vertex_row_of, edge_row_of}
use Rattle.mesh_led_runs.specs.Put.{put_fits}
use Rattle.mesh_keep.specs.Keeping.{KeptBy, kept_none, kept_then, kept_as, kept_bound}
use Rattle.mesh_keep.specs.Entries.{EntriesOf}
use Rattle.mesh_keep.specs.OfRows.{RowOf, pairs_of, row_of, row_pairs, row_short, rows_next, rows_none}
use Rattle.mesh_keep.specs.declared.Going.{Going}

pub forest_sized : {s : Scene} {p q : List ℕ} {l : List ℤ} {e t : List ℕ} {edge_top triangle_top : ℕ} → Forest s p q l e t edge_top triangle_top → MeshSized s
forest_sized f = record { few_vertices = f.few_vertices; few_edges = f.few_edges; few_triangles = f.few_triangles }

-- a stretch of rows has fewer than 2^62 pairs
module _ (w : RowPairs) (s : Scene) (few : MeshSized s) where
  row_few : (row : ℕ) → length (mesh_row w s row) ≤ 1073741824
  row_few row =
      ⊎_elim
      (λ past.
      let i = row - vertex_count s in
      let place : row ≡ vertex_count s + i = omega arith in
      row_short w s few EdgeEdge i row (edge_row_of w s i row place))
      (λ low. row_short w s few PointTriangle row row (vertex_row_of w s row low))
      (le_or_lt (vertex_count s) row)

  pub rows_few : (a b : ℕ) → b ≤ row_count s → length (rows_in w s a b) < 4611686018427387904
  rows_few a b h =
      let short = gather_short (mesh_row w s) 1073741824 a b (λ j p q. row_few j) in
      omega (arith, few.few_vertices, few.few_edges)

-- the pairs of neighbouring stretches are those of the stretch
rows_sum : (w : RowPairs) (s : Scene) (a b c : ℕ) → a ≤ b → b ≤ c → length (rows_in w s a b) + length (rows_in w s b c) ≡ length (rows_in w s a c)
rows_sum w s a b c h k = sym (length-append (rows_in w s a b) (rows_in w s b c)) ∙ ap length (stretches_joined w s a b c h k)

-- rows up to one are judged
pub record StretchGoing (w : RowPairs) (s : Scene) (m : Wanted) (most first end : ℕ) (o v : List ℕ) (g : Going) (o' v' : List ℕ) (g' : Going) (row : ℕ) : Type 0 where
  pub past : first ≤ row
  pub within : row ≤ end
  pub done : KeptBy s m most (rows_in w s first row) o v g o' v' g'

pub stretch_starts : (w : RowPairs) (s : Scene) (m : Wanted) (most first end : ℕ) (o v : List ℕ) (g : Going) → first ≤ end
    → StretchGoing w s m most first end o v g o v g first
stretch_starts w s m most first end o v g h =
    record { past = omega arith; within = h; done = kept_as (rows_none w s first) (kept_none s m most o v g) }

module _ {w : RowPairs} {s : Scene} {m : Wanted} {most first end : ℕ} {o v : List ℕ} {g : Going} {o₁ v₁ : List ℕ} {g₁ : Going} {row : ℕ}
    (so : StretchGoing w s m most first end o v g o₁ v₁ g₁ row) where
  pub stretch_goes : {o₂ v₂ : List ℕ} {g₂ : Going} → row < end → KeptBy s m most (mesh_row w s row) o₁ v₁ g₁ o₂ v₂ g₂
      → StretchGoing w s m most first end o v g o₂ v₂ g₂ (row + 1)
  stretch_goes h b =
      record { past = omega (arith, so.past); within = omega arith; done = kept_as (rows_next w s first row so.past) (kept_then so.done b) }

  -- what is kept so far, and the next rows: few
  pub stretch_few : (next : ℕ) → row ≤ next → {p q : List ℕ} {l : List ℤ} {e t : List ℕ} {edge_top triangle_top : ℕ}
      → Forest s p q l e t edge_top triangle_top
      → next ≤ row_count s
      → g.count ≤ 0
      → g₁.count + length (rows_in w s row next) < 4611686018427387904
  stretch_few next after f h z =
      omega (arith, kept_bound so.done, rows_few w s (forest_sized f) first next h, rows_sum w s first row next so.past after)

  -- one after the other, where all of them are few
  pub alone_few : row ≤ end → g.count + length (rows_in w s first end) < 4611686018427387904 → g₁.count < 4611686018427387904
  alone_few h few = omega (arith, kept_bound so.done, few, rows_sum w s first row end so.past h)

  -- a block of rows is judged
  pub stretch_goes_on : (next : ℕ) {o₂ v₂ : List ℕ} {g₂ : Going} → row < next → next ≤ end → KeptBy s m most (rows_in w s row next) o₁ v₁ g₁ o₂ v₂ g₂
      → StretchGoing w s m most first end o v g o₂ v₂ g₂ next
  stretch_goes_on next h k b =
      record {
        past = omega (arith, so.past);
        within = k;
        done = kept_as (stretches_joined w s first row next so.past (omega arith)) (kept_then so.done b);
      }

  pub stretch_ends : end ≤ row → KeptBy s m most (rows_in w s first end) o v g o₁ v₁ g₁
  stretch_ends h = let e : row ≡ end = omega (arith, so.within) in kept_as (ap (rows_in w s first) e) so.done

-- ---- the row of a number, whose second places stand in front of a list

module _ (w : RowPairs) (s : Scene) (few : MeshSized s) where
  pub numbered_short : (kind : Kind) (i row : ℕ) → part_row w s kind i ≡ mesh_row w s row → length (mesh_row w s row) ≤ 1073741824
  numbered_short kind i row is = row_short w s few kind i row is

  module _ (row : ℕ) (inside : row < row_count s) (kind : Kind) (i : ℕ) (is : part_row w s kind i ≡ mesh_row w s row) {o : List ℕ} {n : ℕ}
      (put : SecondsPut (mesh_row w s row) o o n) where
    room : length (mesh_row w s row) ≤ length o
    room = omega (arith, put.count, put_fits (mesh_row w s row) put)

    pub numbered_of : i < 1073741824 → RowOf s kind i o n
    numbered_of low = row_of w s few row inside kind i is put room low

    pub numbered_pairs : pairs_of kind i o n ≡ mesh_row w s row
    numbered_pairs = row_pairs w s few row inside kind i is put room

-- ---- the rows of a block, whose entries stand in front of a list

module _ (w : RowPairs) (s : Scene) (few : MeshSized s) (a b : ℕ) (within : b ≤ row_count s) {most n : ℕ} {o o' : List ℕ}
    (listed : Entered most o 0 (mesh_entries (rows_in w s a b)) o' n)
    (fits : n ≤ most)
    (room : most ≤ length o) where
  wrote : take n o' ≡ mesh_entries (rows_in w s a b)
  wrote = (entered_wrote fits room listed).front

  inside : n ≤ length o'
  inside = omega (arith, fits, room, (entered_wrote fits room listed).same)

  pub block_of : EntriesOf s o' n
  block_of =
      let so = rows_entered s w few a b n o' within inside wrote in
      record {
        room = inside;
        each = λ k h.
            record {
              inside = omega arith;
              there = entered_there so k h;
              narrow = there_within s few _ _ _ (entered_there so k h);
            };
      }

  pub block_pairs : mesh_pairs_in n o' ≡ rows_in w s a b
  block_pairs = entered_pairs (rows_entered s w few a b n o' within inside wrote)
