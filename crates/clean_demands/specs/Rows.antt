-- The rows of a mesh, all that are listed or the near ones: no hit and no touch in any row, so nothing is touched. A far pair touches nowhere. Rows may
-- be asked in stretches, as threads take them, and it does to read the counts of what is told of each.
use Rattle.std.specs.Prelude.{ℕ, ◌+◌, ◌-◌, ◌≤◌, ◌<◌, ◌≡◌, refl, Bool, true, false, Ok}
use native.Mathlib.Omega.{arith}
use Rattle.std.proofs.Common.{sym, ◌∙◌, lt-ltb, le-ltb}
use Rattle.std.proofs.Math.Path.{ap, subst}
use mathlib.Core.List.{List, Memᴰ}
use Rattle.sequences.specs.Gather.{gather_has}
use Rattle.sequences.specs.Chosen.{chosen_members}
use Rattle.sequences.specs.Pick.{pick_true, pick_false}
use Rattle.meaning.specs.Scene.{Scene, vertex_count, edge_count, triangle_count}
use Rattle.meaning.specs.Refusals.{not_there, outcome_of}
use Rattle.meaning.specs.Near.{far}
use Rattle.meaning.specs.List.{Pair, pair}
use Rattle.meaning.specs.Report.{how_many}
use Rattle.meaning.specs.SceneWords.{AllSettled}
use Rattle.meaning.specs.MeshRows.{row_test, row_count, vertex_row, edge_row, mesh_row, rows_in, Lent, RowsKept}
use Rattle.meaning.specs.declared.Kind.{Kind}
use Rattle.meaning.specs.declared.Kind.TheVariants.{PointTriangle, EdgeEdge}
use Rattle.meaning.specs.declared.RowPairs.{RowPairs}
use Rattle.meaning.specs.declared.RowPairs.TheVariants.{Listed, Near}
use Rattle.meaning.specs.declared.Settled.{Settled}
use Rattle.meaning.specs.declared.Settled.TheVariants.{Hit, Touch}
use Rattle.meaning.specs.declared.Wanted.{Wanted}
use Rattle.meaning.specs.declared.KeptRows.{KeptRows}
use Rattle.answers.specs.Deciding.{given_right}
use Rattle.list_pairs.specs.InOrder.{FirstBelow, ToList, are_there}
use Rattle.near_laws.specs.Far.{far_apart}
use Rattle.pierced_laws.specs.SomeWeights.{SomeTouches}
use Rattle.clean_demands.specs.Words.{Untroubled, untroubled_touches_not}
use Rattle.clean_demands.specs.Mesh.{NothingTouched}
use Rattle.clean_demands.specs.Listed.{of_listed, words_untroubled}

-- no pair of a row is hit or touch
pub record RowUntroubled (w : RowPairs) (s : Scene) (i : ℕ) : Type 0 where
  pub none : (p : Pair) → Memᴰ p (mesh_row w s i) → Untroubled s p.kind p.first p.second

-- ---- every pair has its row

module _ (w : RowPairs) (s : Scene) where
  -- the pair stands in one of the rows
  record InARow (p : Pair) : Type 0 where
    row : ℕ
    there : row < row_count s
    has : Memᴰ p (mesh_row w s row)

  has_its_row : (kind : Kind) (i j : ℕ) → not_there s kind i j ≡ false → FirstBelow kind i j → row_test w s kind i j ≡ true → InARow (pair kind i j)
  unfolding not_there FirstBelow
  has_its_row PointTriangle i j there o e =
      let (h, k) = are_there (vertex_count s) (triangle_count s) i j there in
      record {
        row = i;
        there = omega arith;
        has =
            subst (Memᴰ (pair PointTriangle i j)) (sym (pick_true (vertex_row w s i) (edge_row w s (i - vertex_count s)) (lt-ltb i (vertex_count s) h)))
            ((chosen_members (row_test w s PointTriangle i) (pair PointTriangle i) 0 (triangle_count s) (pair PointTriangle i j)).1 (j, omega arith, k, e, refl));
      }
  has_its_row EdgeEdge i j there o e =
      let (h, k) = are_there (edge_count s) (edge_count s) i j there in
      let back : vertex_count s + i - vertex_count s ≡ i = omega arith in
      record {
        row = vertex_count s + i;
        there = omega arith;
        has =
            subst (Memᴰ (pair EdgeEdge i j))
            (sym (pick_false (vertex_row w s (vertex_count s + i)) (edge_row w s (vertex_count s + i - vertex_count s)) (le-ltb (vertex_count s + i) (vertex_count s) (omega arith)) ∙ ap (edge_row w s) back))
            ((chosen_members (row_test w s EdgeEdge i) (pair EdgeEdge i) (i + 1) (edge_count s) (pair EdgeEdge i j)).1 (j, omega (arith, o), k, e, refl));
      }

-- ---- so rows say all

pub rows_untouched : (w : RowPairs) (s : Scene) → ((i : ℕ) → i < row_count s → RowUntroubled w s i) → NothingTouched s
unfolding row_test
rows_untouched w s rows = of_listed s (λ p l. by_rows w rows p l)
  where
    in_row : (w : RowPairs) → ((i : ℕ) → i < row_count s → RowUntroubled w s i) → (p : Pair) → ToList s p → row_test w s p.kind p.first p.second ≡ true
        → ¬ SomeTouches s p.kind p.first p.second
    in_row w rows p l e =
        let r = has_its_row w s p.kind p.first p.second l.there l.ordered e in
        (untroubled_touches_not s p.kind p.first p.second).0 ((rows r.row r.there).none p r.has)

    by_rows : (w : RowPairs) → ((i : ℕ) → i < row_count s → RowUntroubled w s i) → (p : Pair) → ToList s p → ¬ SomeTouches s p.kind p.first p.second
    by_rows Listed rows p l = in_row Listed rows p l (rw (l.apart, l.meet))
    by_rows Near rows p l = go (far s p.kind p.first p.second) refl
      where
        go : (b : Bool) → far s p.kind p.first p.second ≡ b → ¬ SomeTouches s p.kind p.first p.second
        go true e = λ t. far_apart s p.kind p.first p.second e t.which t.has
        go false e = in_row Near rows p l (rw (l.apart, l.meet, e))

-- ---- a stretch of rows

pub stretch_untroubled : (w : RowPairs) (s : Scene) (a b : ℕ) (ws : List Settled) → AllSettled s (rows_in w s a b) ws → how_many Hit ws ≡ 0 → how_many Touch ws ≡ 0
    → (i : ℕ) → a ≤ i → i < b → RowUntroubled w s i
stretch_untroubled w s a b ws all hits touches i above below = record {
  none = λ p m. words_untroubled s (rows_in w s a b) ws all hits touches p (gather_has (mesh_row w s) b i below m a above);
}

-- as a call for a stretch tells it: of its pairs no hits and no touches, whatever words were asked for
pub kept_untroubled : (w : RowPairs) (m : Wanted) (s : Scene) (l : Lent) (a b : ℕ) (o o' u u' : List ℕ) (t : KeptRows) → RowsKept w m s l a b o o' u u' (Ok t)
    → t.hits ≡ 0 → t.touches ≡ 0 → (i : ℕ) → a ≤ i → i < b → RowUntroubled w s i
unfolding outcome_of
kept_untroubled w m s l a b o o' u u' t told hits touches =
    let is = given_right _ _ t told.answer in
    stretch_untroubled w s a b told.words told.right (sym (ap (λ (k : KeptRows). k.hits) is) ∙ hits) (sym (ap (λ (k : KeptRows). k.touches) is) ∙ touches)
