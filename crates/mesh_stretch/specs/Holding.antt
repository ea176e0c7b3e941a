-- Rows walked block by block: how many pairs they have, and whether all their entries are held in scratch.
use Rattle.std.specs.Prelude.{ℕ, ◌+◌, ◌*◌, ◌-◌, ◌≤◌, ◌<◌, Bool, true, List, [], ◌++◌, ◌≡◌, ℤ, length, get_or, take, drop}
use Rattle.std.proofs.Math.Logic.{⊎_elim}
use Rattle.std.proofs.Common.{sym, ap, ◌∙◌, length-append, length-drop, get_or-append-add, get_or-drop}
use native.Mathlib.Omega.{arith}
use Rattle.sequences.specs.Gather.{gather_none, gather_short}
use Rattle.sequences.specs.Mapped.{map_append}
use Rattle.sequences.specs.Range.{le_or_lt}
use Rattle.meaning.specs.Scene.{Scene, vertex_count}
use Rattle.meaning.specs.MeshRows.{row_count, mesh_row, rows_in, mesh_number, mesh_entries}
use Rattle.meaning.specs.declared.Kind.TheVariants.{PointTriangle, EdgeEdge}
use Rattle.meaning.specs.declared.RowPairs.{RowPairs}
use Rattle.list_candidates.specs.Rows.{second_count}
use Rattle.mesh_laws.specs.Rows.{stretches_joined}
use Rattle.mesh_entries.specs.Telling.{mesh_entries_length}
use Rattle.mesh_entries.specs.Entering.{Entered, entered_wrote, entered_length}
use Rattle.mesh_rows.specs.Rows.{part_row_short, vertex_row_of, edge_row_of}
use Rattle.mesh_trees.specs.Forest.{Forest}
use Rattle.mesh_held.specs.declared.Walked.{Walked}
use Rattle.mesh_held.specs.Held.{Holds, HeldOn, holds_none, holds_still, holds_more}

pub record RowsHeld (w : RowPairs) (s : Scene) (a b : ℕ) (l : List ℕ) (from n : ℕ) (held : Bool) : Type 0 where
  pub counts : n ≡ length (rows_in w s a b)
  pub holds : held ≡ true → Holds l from (mesh_entries (rows_in w s a b))

pub rows_held_starts : (w : RowPairs) (s : Scene) (a : ℕ) (l : List ℕ) (from : ℕ) → from ≤ length l → RowsHeld w s a a l from 0 true
rows_held_starts w s a l from h =
    let none : rows_in w s a a ≡ [] = gather_none (mesh_row w s) a a (omega arith) in
    record { counts = sym (ap length none); holds = λ e. rw none (holds_none l from h) }

-- a stretch of rows has fewer than 2^62 pairs
module _ (w : RowPairs) (s : Scene) {p q : List ℕ} {l : List ℤ} {e t : List ℕ} {edge_top triangle_top : ℕ} (f : Forest s p q l e t edge_top triangle_top) where
  row_few : (row : ℕ) → length (mesh_row w s row) ≤ 1073741824
  unfolding second_count
  row_few row =
      ⊎_elim
      (λ past.
      let i = row - vertex_count s in
      let place : row ≡ vertex_count s + i = omega arith in
      rw (← edge_row_of w s i row place) (omega (arith, part_row_short w s EdgeEdge i, f.few_edges)))
      (λ low. rw (← vertex_row_of w s row low) (omega (arith, part_row_short w s PointTriangle row, f.few_triangles)))
      (le_or_lt (vertex_count s) row)

  pub rows_few : (a b : ℕ) → b ≤ row_count s → length (rows_in w s a b) < 4611686018427387904
  rows_few a b h =
      let short = gather_short (mesh_row w s) 1073741824 a b (λ j c d. row_few j) in
      omega (arith, f.few_vertices, f.few_edges)

-- what a walk entered with room for all of it stands in front of its list
entered_front : {most m : ℕ} {o o' ns : List ℕ} → m ≤ most → most ≤ length o → Entered most o 0 ns o' m → take m o' ≡ ns
entered_front fits room w = (entered_wrote fits room w).front

-- a list of numbers was l and is l', and from a place on nothing has changed
pub record KeptFrom (from : ℕ) (l l' : List ℕ) : Type 0 where
  pub same : length l' ≡ length l
  pub at : (k : ℕ) → from ≤ k → get_or l' k 0 ≡ get_or l k 0

-- a front as long as it was, and the rest behind it
pub kept_behind : (from : ℕ) (l front : List ℕ) → from ≤ length l → length front ≡ from → KeptFrom from l (front ++ drop from l)
kept_behind from l front h long =
    record {
      same = omega (arith, length-append front (drop from l), length-drop from l);
      at = λ k ge.
          let here : length front + (k - from) ≡ k = omega arith in
          let there : from + (k - from) ≡ k = omega arith in
          ap (λ (n : ℕ). get_or (front ++ drop from l) n 0) (sym here)
          ∙ get_or-append-add front (drop from l) (k - from) 0
          ∙ get_or-drop from l (k - from) 0
          ∙ ap (λ (n : ℕ). get_or l n 0) there;
    }

-- the rows of a block are held behind those before it, whose first may be any
pub record BlockHeld (w : RowPairs) (s : Scene) (i j : ℕ) (l l' : List ℕ) (from : ℕ) (before after : Walked) : Type 0 where
  pub same : length l' ≡ length l
  pub counts : after.count ≡ before.count + length (rows_in w s i j)
  pub held : (a : ℕ) → a ≤ i → RowsHeld w s a i l from before.count before.held → RowsHeld w s a j l' from after.count after.held

pub block_held : {w : RowPairs} {s : Scene} {i j : ℕ} {l l₁ l₂ own own' : List ℕ} {from most m : ℕ} {held : Bool} {before : Walked} → i ≤ j
    → KeptFrom from l l₁
    → most ≡ length own
    → Entered most own 0 (mesh_entries (rows_in w s i j)) own' m
    → HeldOn l₁ l₂ (from + 2 * before.count) own' m before.held held
    → BlockHeld w s i j l l₂ from before (record { count = before.count + m; held = held })
block_held {w} {s} {i} {j} {l} {l₁} {l₂} {own} {own'} {from} {most} {m} {held} {before} on kept room e h =
    record {
      same = h.same ∙ kept.same;
      counts = omega (arith, e.counts, mesh_entries_length (rows_in w s i j));
      held = λ a past so.
          let joined : rows_in w s a j ≡ rows_in w s a i ++ rows_in w s i j = sym (stretches_joined w s a i j past on) in
          record {
            counts =
                omega (arith, ap length joined, so.counts, e.counts, mesh_entries_length (rows_in w s i j), length-append (rows_in w s a i) (rows_in w s i j));
            holds = λ yes.
                let first : Holds l₁ from (mesh_entries (rows_in w s a i)) =
                holds_still kept.same (λ k lt ge. kept.at k ge) (so.holds (h.was yes)) in
                let long = mesh_entries_length (rows_in w s a i) in
                let front : take m own' ≡ mesh_entries (rows_in w s i j) =
                entered_front (omega (arith, h.fits yes, entered_length e)) (omega arith) e in
                let all : mesh_entries (rows_in w s a j) ≡ mesh_entries (rows_in w s a i) ++ take m own' =
                ap mesh_entries joined ∙ map_append mesh_number (rows_in w s a i) (rows_in w s i j)
                ∙ ap (λ (f : List ℕ). mesh_entries (rows_in w s a i) ++ f) (sym front) in
                let behind : from + 2 * before.count ≡ from + 2 * length (mesh_entries (rows_in w s a i)) = omega (arith, so.counts) in
                rw all (holds_more first (h.fits yes) (omega (arith, h.room yes)) (rw behind at (h.more yes)));
          };
    }
