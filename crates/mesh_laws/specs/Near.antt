-- Near rows: each is its row of listed pairs with the far pairs left out. So is a stretch of them, and whatever stands in a row is listed.
use Rattle.std.specs.Prelude.{ℕ, ◌+◌, ◌-◌, Bool, not, ◌&&◌, ◌↔◌, ◌≡◌, ltb}
use Rattle.std.proofs.Math.Bool.{true, false}
use mathlib.Core.List.Memᴰ
use mathlib.Core.List.{List, [], ◌∷◌, ◌++◌, Memᴰ}
use Rattle.std.proofs.Math.Logic.{⊎_elim}
use Rattle.std.proofs.Math.Path.{refl, sym, ap}
use Rattle.std.proofs.Common.{◌∙◌, subst}
use Rattle.sequences.specs.Chosen.{one, chosen}
use Rattle.sequences.specs.Gather.{gather, gather_none, gather_first, gather_same}
use Rattle.sequences.specs.Pick.{pick, pick_into}
use Rattle.sequences.specs.Range.{towards}
use Rattle.meaning.specs.Scene.{Scene, vertex_count, edge_count, triangle_count}
use Rattle.meaning.specs.Boxes.{listed}
use Rattle.meaning.specs.Near.{far, near}
use Rattle.meaning.specs.List.{Pair, pair}
use Rattle.meaning.specs.MeshRows.{row_test, vertex_row, edge_row, mesh_row, rows_in}
use Rattle.meaning.specs.declared.Kind.{Kind}
use Rattle.meaning.specs.declared.Kind.TheVariants.{PointTriangle, EdgeEdge}
use Rattle.meaning.specs.declared.RowPairs.{RowPairs}
use Rattle.meaning.specs.declared.RowPairs.TheVariants.{Listed, Near}

-- ---- of a list those that pass a test

module _ {A : Type 0} (t : A → Bool) where
  unfoldable pub those : List A → List A
  those [] = []
  those (a ∷ l) = pick (t a) (a ∷ those l) (those l)

  those_picked : (b : Bool) (a : A) (l k : List A) → pick b (a ∷ l) l ++ k ≡ pick b (a ∷ (l ++ k)) (l ++ k)
  those_picked true a l k = refl
  those_picked false a l k = refl

  pub those_append : (l k : List A) → those (l ++ k) ≡ those l ++ those k
  unfolding those
  those_append [] k = refl
  those_append (a ∷ l) k =
      ap (λ (r : List A). pick (t a) (a ∷ r) r) (those_append l k) ∙ sym (those_picked (t a) a (those l) (those k))

  pub those_one : (b : Bool) (a : A) → those (one b a) ≡ one (b && t a) a
  unfolding those
  those_one true a = refl
  those_one false a = refl

  pub those_gather : (f : ℕ → List A) (n i : ℕ) → those (gather f i n) ≡ gather (λ j. those (f j)) i n
  unfolding those
  those_gather f n =
      towards n (λ i. those (gather f i n) ≡ gather (λ j. those (f j)) i n)
      (λ i past. ap those (gather_none f i n past) ∙ sym (gather_none (λ j. those (f j)) i n past))
      (λ i lt next.
      ap those (gather_first f i n lt)
      ∙ those_append (f i) (gather f (i + 1) n)
      ∙ ap (λ (l : List A). those (f i) ++ l) next
      ∙ sym (gather_first (λ j. those (f j)) i n lt))

  pub those_from : {b : A} (l : List A) → Memᴰ b (those l) → Memᴰ b l × (t b ≡ true)
  unfolding those
  those_from [] m = absurd (Memᴰ.not-nil m)
  those_from {b} (a ∷ l) m = step (t a) refl m (those_from l)
    where
      step : (k : Bool) → t a ≡ k → Memᴰ b (pick k (a ∷ those l) (those l)) → (Memᴰ b (those l) → Memᴰ b l × (t b ≡ true))
          → Memᴰ b (a ∷ l) × (t b ≡ true)
      step true e m more =
          ⊎_elim
          (λ here. (Memᴰ.head here, ap t here ∙ e))
          (λ later. let (n, k) = more later in (Memᴰ.tail n, k))
          (Memᴰ.cases_cons m)
      step false e m more = let (n, k) = more m in (Memᴰ.tail n, k)

-- ---- far pairs are left out

abbrev pub not_far : Scene → Pair → Bool
not_far s p = not (far s p.kind p.first p.second)

module _ (s : Scene) where
  near_chosen : (kind : Kind) (i a n : ℕ)
      → chosen (near s kind i) (pair kind i) a n ≡ those (not_far s) (chosen (listed s kind i) (pair kind i) a n)
  near_chosen kind i a n =
      gather_same
      (λ j. one (near s kind i j) (pair kind i j))
      (λ j. those (not_far s) (one (listed s kind i j) (pair kind i j)))
      a n
      (λ j low high. sym (those_one (not_far s) (listed s kind i j) (pair kind i j)))
      ∙ sym (those_gather (not_far s) (λ j. one (listed s kind i j) (pair kind i j)) n a)

  vertex_near : (v : ℕ) → vertex_row Near s v ≡ those (not_far s) (vertex_row Listed s v)
  unfolding row_test
  vertex_near v = near_chosen PointTriangle v 0 (triangle_count s)

  edge_near : (i : ℕ) → edge_row Near s i ≡ those (not_far s) (edge_row Listed s i)
  unfolding row_test
  edge_near i = near_chosen EdgeEdge i (i + 1) (edge_count s)

  -- a near row is its listed row with the far pairs left out
  pub near_row : (row : ℕ) → mesh_row Near s row ≡ those (not_far s) (mesh_row Listed s row)
  near_row row =
      let i = row - vertex_count s in
      let v = vertex_near row in
      let e = edge_near i in
      (λ t. pick (ltb row (vertex_count s)) (v t) (e t))
      ∙ sym (pick_into (those (not_far s)) (ltb row (vertex_count s)) (vertex_row Listed s row) (edge_row Listed s i))

  -- and so is a stretch of them
  pub near_rows : (a b : ℕ) → rows_in Near s a b ≡ those (not_far s) (rows_in Listed s a b)
  near_rows a b =
      gather_same (mesh_row Near s) (λ row. those (not_far s) (mesh_row Listed s row)) a b (λ row low high. near_row row)
      ∙ sym (those_gather (not_far s) (mesh_row Listed s) b a)

  -- what stands in a row of either is listed
  pub row_listed : (w : RowPairs) (row : ℕ) (p : Pair) → Memᴰ p (mesh_row w s row) → Memᴰ p (mesh_row Listed s row)
  row_listed Listed row p m = m
  row_listed Near row p m =
      (those_from (not_far s) (mesh_row Listed s row) (subst (λ (l : List Pair). Memᴰ p l) (near_row row) m)).0

  pub rows_listed : (w : RowPairs) (a b : ℕ) (p : Pair) → Memᴰ p (rows_in w s a b) → Memᴰ p (rows_in Listed s a b)
  rows_listed Listed a b p m = m
  rows_listed Near a b p m =
      (those_from (not_far s) (rows_in Listed s a b) (subst (λ (l : List Pair). Memᴰ p l) (near_rows a b) m)).0
