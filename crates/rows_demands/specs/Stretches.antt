-- What a stretch of rows holds: exactly the pairs that are there, whose test passes and whose row is one of the stretch, in the list's order; and only one
-- list is so. Of listed rows the test is: no vertex shared, and the swept boxes meet; of near rows: no vertex shared, and not far.
use Rattle.std.specs.Prelude.{ℕ, ◌+◌, ◌-◌, ◌≤◌, ◌<◌, Bool, true, not, ◌||◌, ◌↔◌, ◌⊎◌, ◌≡◌, refl, leb, ltb, length, get_or}
use Rattle.std.proofs.Math.Bool.{false}
use mathlib.Core.List.{List, Memᴰ}
use Rattle.std.proofs.Common.{inl, inr, ⊎_elim, sym, ap, ◌∙◌, subst}
use native.Mathlib.Omega.{arith}
use Rattle.std.proofs.lemmas.Bool.{lt-leb, not-true}
use Rattle.sequences.specs.Chosen.{chosen_members}
use Rattle.sequences.specs.Gather.{gather_has, gather_from}
use Rattle.sequences.specs.Lists.{Lists, lists_unique, lists_once}
use Rattle.sequences.specs.Pick.{pick, both}
use Rattle.sequences.specs.Range.{le_or_lt}
use Rattle.sequences.specs.Rising.{Rising, rising_gather, rising_chosen}
use Rattle.meaning.specs.Scene.{Scene, vertex_count, edge_count, triangle_count}
use Rattle.meaning.specs.Refusals.{not_there, shares}
use Rattle.meaning.specs.Near.{far}
use Rattle.meaning.specs.List.{Pair, pair, kind_part}
use Rattle.meaning.specs.MeshRows.{row_test, row_count, vertex_row, edge_row, mesh_row, rows_in}
use Rattle.meaning.specs.declared.Kind.{Kind}
use Rattle.meaning.specs.declared.Kind.TheVariants.{PointTriangle, EdgeEdge}
use Rattle.meaning.specs.declared.RowPairs.{RowPairs}
use Rattle.meaning.specs.declared.RowPairs.TheVariants.{Listed, Near}
use Rattle.list_pairs.specs.InOrder.{Earlier, by_kind, by_first, by_second, never_itself, earlier_still, FirstBelow, ToList, are_there, tests}
use Rattle.mesh_laws.specs.Rows.{vertex_row_lem, edge_row_lem}
use Rattle.near_laws.specs.Near.{near_is}

-- the row of a pair: its vertex, or behind the vertices its first edge
unfoldable pub row_number : Scene → Kind → ℕ → ℕ
row_number s PointTriangle i = i
row_number s EdgeEdge i = vertex_count s + i

abbrev pub row_of_pair : Scene → Pair → ℕ
row_of_pair s p = row_number s p.kind p.first

pub record ToRows (w : RowPairs) (s : Scene) (p : Pair) : Type 0 where
  pub there : not_there s p.kind p.first p.second ≡ false
  pub ordered : FirstBelow p.kind p.first p.second
  pub test : row_test w s p.kind p.first p.second ≡ true

pub record InStretch (w : RowPairs) (s : Scene) (first end : ℕ) (p : Pair) : Type 0 where
  pub asked : ToRows w s p
  pub from : first ≤ row_of_pair s p
  pub to : row_of_pair s p < end

-- ---- one row

both_there : (m n i j : ℕ) → i < m → j < n → leb m i || leb n j ≡ false
both_there m n i j h k = rw (lt-leb m i h, lt-leb n j k)

module _ (w : RowPairs) (s : Scene) where
  in_vertex_row : (v : ℕ) → v < vertex_count s → (p : Pair) → Memᴰ p (vertex_row w s v) → ToRows w s p × (row_of_pair s p ≡ v)
  unfolding not_there FirstBelow row_number
  in_vertex_row v h p m =
      let (j, _, few, e, same) = (chosen_members (row_test w s PointTriangle v) (pair PointTriangle v) 0 (triangle_count s) p).0 m in
      rw same (record { there = both_there (vertex_count s) (triangle_count s) v j h few; ordered = tt; test = e }, refl)

  in_edge_row : (i : ℕ) → i < edge_count s → (p : Pair) → Memᴰ p (edge_row w s i) → ToRows w s p × (row_of_pair s p ≡ vertex_count s + i)
  unfolding not_there FirstBelow row_number
  in_edge_row i h p m =
      let (j, low, few, e, same) = (chosen_members (row_test w s EdgeEdge i) (pair EdgeEdge i) (i + 1) (edge_count s) p).0 m in
      rw same (record { there = both_there (edge_count s) (edge_count s) i j h few; ordered = omega arith; test = e }, refl)

  from_row : (row : ℕ) → row < row_count s → (p : Pair) → Memᴰ p (mesh_row w s row) → ToRows w s p × (row_of_pair s p ≡ row)
  from_row row h p m =
      ⊎_elim
      (λ past.
      let i = row - vertex_count s in
      let place : row ≡ vertex_count s + i = omega arith in
      let (asked, is) = in_edge_row i (omega arith) p (subst (λ (l : List Pair). Memᴰ p l) (ap (mesh_row w s) place ∙ edge_row_lem w s i) m) in
      (asked, is ∙ sym place))
      (λ low. in_vertex_row row low p (subst (λ (l : List Pair). Memᴰ p l) (vertex_row_lem w s row low) m))
      (le_or_lt (vertex_count s) row)

  has_row : (kind : Kind) (i j : ℕ) → ToRows w s (pair kind i j) → Memᴰ (pair kind i j) (mesh_row w s (row_number s kind i))
  unfolding not_there FirstBelow row_number
  has_row PointTriangle i j h =
      let (a, b) = are_there (vertex_count s) (triangle_count s) i j h.there in
      rw (vertex_row_lem w s i a)
      ((chosen_members (row_test w s PointTriangle i) (pair PointTriangle i) 0 (triangle_count s) (pair PointTriangle i j)).1 (j, omega arith, b, h.test, refl))
  has_row EdgeEdge i j h =
      let (a, b) = are_there (edge_count s) (edge_count s) i j h.there in
      rw (edge_row_lem w s i)
      ((chosen_members (row_test w s EdgeEdge i) (pair EdgeEdge i) (i + 1) (edge_count s) (pair EdgeEdge i j)).1 (j, omega (arith, h.ordered), b, h.test, refl))

  -- its row is there
  pub row_there : (p : Pair) → ToRows w s p → row_of_pair s p < row_count s
  unfolding not_there row_number
  row_there p a = by p.kind p.first p.second a.there
    where
      by : (kind : Kind) (i j : ℕ) → not_there s kind i j ≡ false → row_number s kind i < row_count s
      by PointTriangle i j h = let (k, _) = are_there (vertex_count s) (triangle_count s) i j h in omega arith
      by EdgeEdge i j h = let (k, _) = are_there (edge_count s) (edge_count s) i j h in omega arith

  -- ---- in order

  pick_rises : (b : Bool) (l k : List Pair) → Rising Earlier l → Rising Earlier k → Rising Earlier (pick b l k)
  pick_rises true l k p q = p
  pick_rises false l k p q = q

  row_rises : (row : ℕ) → Rising Earlier (mesh_row w s row)
  row_rises row =
      let i = row - vertex_count s in
      pick_rises (ltb row (vertex_count s)) (vertex_row w s row) (edge_row w s i)
      (rising_chosen Earlier (row_test w s PointTriangle row) (pair PointTriangle row) 0 (triangle_count s) (λ j k h. by_second refl refl h))
      (rising_chosen Earlier (row_test w s EdgeEdge i) (pair EdgeEdge i) (i + 1) (edge_count s) (λ j k h. by_second refl refl h))

  -- a row's pairs are of one vertex, or of one first edge
  abbrev Formed : ℕ → Pair → Type 0
  Formed row p =
      ((row < vertex_count s) × (p.kind ≡ PointTriangle) × (p.first ≡ row))
      ⊎ ((vertex_count s ≤ row) × (p.kind ≡ EdgeEdge) × (p.first ≡ row - vertex_count s))

  row_formed : (row : ℕ) (p : Pair) → Memᴰ p (mesh_row w s row) → Formed row p
  row_formed row p m =
      ⊎_elim
      (λ past.
      let i = row - vertex_count s in
      let place : row ≡ vertex_count s + i = omega arith in
      let n = subst (λ (l : List Pair). Memᴰ p l) (ap (mesh_row w s) place ∙ edge_row_lem w s i) m in
      let (j, _, _, _, same) = (chosen_members (row_test w s EdgeEdge i) (pair EdgeEdge i) (i + 1) (edge_count s) p).0 n in
      inr (past, ap (λ (q : Pair). q.kind) same, ap (λ (q : Pair). q.first) same))
      (λ low.
      let n = subst (λ (l : List Pair). Memᴰ p l) (vertex_row_lem w s row low) m in
      let (j, _, _, _, same) = (chosen_members (row_test w s PointTriangle row) (pair PointTriangle row) 0 (triangle_count s) p).0 n in
      inl (low, ap (λ (q : Pair). q.kind) same, ap (λ (q : Pair). q.first) same))
      (le_or_lt (vertex_count s) row)

  rows_apart : (i k : ℕ) (p q : Pair) → i < k → Formed i p → Formed k q → Earlier p q
  unfolding kind_part
  rows_apart i k p q lt (inl (a, b, c)) (inl (d, e, f)) = by_first (rw (b, e)) (omega (arith, c, f))
  rows_apart i k p q lt (inl (a, b, c)) (inr (d, e, f)) = by_kind (rw (b, e) (omega arith))
  rows_apart i k p q lt (inr (a, b, c)) (inl (d, e, f)) = absurd (omega arith)
  rows_apart i k p q lt (inr (a, b, c)) (inr (d, e, f)) = by_first (rw (b, e)) (omega (arith, c, f))

  -- ---- the theorem

  pub stretch_is : (first end : ℕ) → end ≤ row_count s → Lists Earlier (InStretch w s first end) (rows_in w s first end)
  stretch_is first end h =
      record {
        stands = λ p. (
          λ m.
              let (row, low, high, n) = gather_from (mesh_row w s) end first m in
              let (asked, is) = from_row row (omega arith) p n in
              record { asked = asked; from = omega (arith, is); to = omega (arith, is) },
          λ a.
              gather_has (mesh_row w s) end (row_of_pair s p) a.to (has_row p.kind p.first p.second a.asked) first a.from,
        );
        rising = rising_gather Earlier (mesh_row w s) end row_rises (λ i k a b lt m n. rows_apart i k a b lt (row_formed i a m) (row_formed k b n)) first;
      }

  pub stretch_only : (first end : ℕ) → end ≤ row_count s → (l : List Pair) → Lists Earlier (InStretch w s first end) l → l ≡ rows_in w s first end
  stretch_only first end h l so =
      lists_unique Earlier (InStretch w s first end) never_itself earlier_still l (rows_in w s first end) so (stretch_is first end h)

  pub stretch_once : (first end : ℕ) → end ≤ row_count s → (i j : ℕ) (d : Pair) → i < length (rows_in w s first end) → j < length (rows_in w s first end)
      → get_or (rows_in w s first end) i d ≡ get_or (rows_in w s first end) j d → i ≡ j
  stretch_once first end h = lists_once Earlier (InStretch w s first end) never_itself (rows_in w s first end) (stretch_is first end h)

-- ---- which pairs these are

-- of listed rows: document 01's
pub listed_asked : (s : Scene) (p : Pair) → ToRows Listed s p ↔ ToList s p
unfolding row_test
listed_asked s p = (
  λ a.
      let (apart, meets) = tests s p.kind p.first p.second a.test in
      record { there = a.there; ordered = a.ordered; apart = apart; meet = meets },
  λ a. record { there = a.there; ordered = a.ordered; test = rw (a.apart, a.meet) },
)

-- of near rows: those without a shared vertex that are not far
pub record NearPair (s : Scene) (p : Pair) : Type 0 where
  pub there : not_there s p.kind p.first p.second ≡ false
  pub ordered : FirstBelow p.kind p.first p.second
  pub apart : shares s p.kind p.first p.second ≡ false
  pub close : far s p.kind p.first p.second ≡ false

pub near_asked : (s : Scene) (p : Pair) → ToRows Near s p ↔ NearPair s p
unfolding row_test
near_asked s p = (
  λ a.
      let (apart, close) = both (not (shares s p.kind p.first p.second)) _ (sym (near_is s p.kind p.first p.second) ∙ a.test) in
      record { there = a.there; ordered = a.ordered; apart = not-true _ apart; close = not-true _ close },
  λ a. record { there = a.there; ordered = a.ordered; test = near_is s p.kind p.first p.second ∙ rw (a.apart, a.close) },
)
