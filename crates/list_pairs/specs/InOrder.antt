-- 'The list holds exactly the pairs without a shared vertex whose swept boxes meet, in order': what stands in it, that it stands there in
-- order, and that only one list is so.
use Rattle.std.specs.Prelude.{ℕ, ◌+◌, ◌≤◌, ◌<◌, true, false, not, ◌||◌, List, ◌⊎◌, ◌≡◌, refl, leb, length, get_or}
use Rattle.std.proofs.Math.Logic.{inl, inr}
use Rattle.std.proofs.Common.{⊎_elim, leb-false}
use native.Mathlib.Omega.{arith}
use Rattle.std.proofs.lemmas.Bool.{lt-leb, not-true}
use Rattle.sequences.specs.Pick.{both}
use Rattle.sequences.specs.Lists.{Lists, lists_as, lists_append, lists_unique, lists_once, table_lists}
use Rattle.meaning.specs.Scene.{Scene, vertex_count, edge_count, triangle_count}
use Rattle.meaning.specs.Refusals.{not_there, shares}
use Rattle.meaning.specs.Boxes.{boxes_meet, listed}
use Rattle.meaning.specs.List.{Pair, pair, pairs, kind_part}
use Rattle.answers.specs.Below.{or_left, or_rest}
use Rattle.meaning.specs.declared.Kind.{Kind}
use Rattle.meaning.specs.declared.Kind.TheVariants.{PointTriangle, EdgeEdge}

-- pt by vertex then triangle, then ee by first then second edge
pub data Earlier (p q : Pair) : Type 0 where
  by_kind : kind_part p.kind < kind_part q.kind → Earlier p q
  by_first : kind_part p.kind ≡ kind_part q.kind → p.first < q.first → Earlier p q
  by_second : kind_part p.kind ≡ kind_part q.kind → p.first ≡ q.first → p.second < q.second → Earlier p q

pub never_itself : (p : Pair) → Earlier p p → ⊥
never_itself p (by_kind h) = omega arith
never_itself p (by_first e h) = omega arith
never_itself p (by_second e f h) = omega arith

pub earlier_still : (p q r : Pair) → Earlier p q → Earlier q r → Earlier p r
earlier_still p q r (by_kind h) (by_kind k) = by_kind (omega arith)
earlier_still p q r (by_kind h) (by_first e k) = by_kind (omega arith)
earlier_still p q r (by_kind h) (by_second e f k) = by_kind (omega arith)
earlier_still p q r (by_first d h) (by_kind k) = by_kind (omega arith)
earlier_still p q r (by_first d h) (by_first e k) = by_first (omega arith) (omega arith)
earlier_still p q r (by_first d h) (by_second e f k) = by_first (omega arith) (omega arith)
earlier_still p q r (by_second d g h) (by_kind k) = by_kind (omega arith)
earlier_still p q r (by_second d g h) (by_first e k) = by_first (omega arith) (omega arith)
earlier_still p q r (by_second d g h) (by_second e f k) = by_second (omega arith) (omega arith) (omega arith)

-- first below second, of two edges
unfoldable pub FirstBelow : Kind → ℕ → ℕ → Type 0
FirstBelow PointTriangle i j = Unit {0}
FirstBelow EdgeEdge i j = i < j

-- a pair that is there, shares no vertex, and whose swept boxes meet
pub record ToList (s : Scene) (p : Pair) : Type 0 where
  pub there : not_there s p.kind p.first p.second ≡ false
  pub ordered : FirstBelow p.kind p.first p.second
  pub apart : shares s p.kind p.first p.second ≡ false
  pub meet : boxes_meet s p.kind p.first p.second ≡ true

-- ---- what the rows of the list hold

both_there : (m n i j : ℕ) → i < m → j < n → leb m i || leb n j ≡ false
both_there m n i j h k = rw (lt-leb m i h, lt-leb n j k)

pub are_there : (m n i j : ℕ) → leb m i || leb n j ≡ false → (i < m) × (j < n)
are_there m n i j h = (leb-false m i (or_left (leb m i) (leb n j) h), leb-false n j (or_rest (leb m i) (leb n j) h))

-- a row's pair, of the kind with m first and n second places, the second from the place `from i` on
abbrev InRows : Scene → Kind → (ℕ → ℕ) → ℕ → ℕ → Pair → Type 0
InRows s kind from m n p =
    (i : ℕ) × (j : ℕ) × (i < m) × (from i ≤ j) × (j < n) × (listed s kind i j ≡ true) × (p ≡ pair kind i j)

module _ (s : Scene) where
  pub tests : (kind : Kind) (i j : ℕ) → listed s kind i j ≡ true → (shares s kind i j ≡ false) × (boxes_meet s kind i j ≡ true)
  tests kind i j h =
      let (a, b) = both (not (shares s kind i j)) (boxes_meet s kind i j) h in
      (not-true (shares s kind i j) a, b)

  in_pt : (p : Pair) → InRows s PointTriangle (λ i. 0) (vertex_count s) (triangle_count s) p → ToList s p
  unfolding not_there FirstBelow
  in_pt p (i, j, h, l, k, e, same) =
      let (a, b) = tests PointTriangle i j e in
      rw same (record { there = both_there (vertex_count s) (triangle_count s) i j h k; ordered = tt; apart = a; meet = b })

  in_ee : (p : Pair) → InRows s EdgeEdge (λ i. i + 1) (edge_count s) (edge_count s) p → ToList s p
  unfolding not_there FirstBelow
  in_ee p (i, j, h, l, k, e, same) =
      let (a, b) = tests EdgeEdge i j e in
      rw same (record { there = both_there (edge_count s) (edge_count s) i j h k; ordered = omega arith; apart = a; meet = b })

  from_list : (kind : Kind) (i j : ℕ) → ToList s (pair kind i j)
      → InRows s PointTriangle (λ i. 0) (vertex_count s) (triangle_count s) (pair kind i j)
      ⊎ InRows s EdgeEdge (λ i. i + 1) (edge_count s) (edge_count s) (pair kind i j)
  unfolding not_there FirstBelow
  from_list PointTriangle i j h =
      let (a, b) = are_there (vertex_count s) (triangle_count s) i j h.there in
      inl (i, j, a, omega arith, b, rw (h.apart, h.meet), refl)
  from_list EdgeEdge i j h =
      let (a, b) = are_there (edge_count s) (edge_count s) i j h.there in
      inr (i, j, a, omega (arith, h.ordered), b, rw (h.apart, h.meet), refl)

  along : (kind : Kind) (i j j' : ℕ) → j < j' → Earlier (pair kind i j) (pair kind i j')
  along kind i j j' h = by_second refl refl h

  down : (kind : Kind) (i i' j j' : ℕ) → i < i' → Earlier (pair kind i j) (pair kind i' j')
  down kind i i' j j' h = by_first refl h

  -- ---- the theorem

  -- it holds exactly these pairs, every earlier one smaller
  pub list_is : Lists Earlier (ToList s) (pairs s)
  unfolding pairs kind_part
  list_is =
      lists_as (λ p. (⊎_elim (in_pt p) (in_ee p), from_list p.kind p.first p.second))
      (lists_append
      (table_lists Earlier (listed s PointTriangle) (pair PointTriangle) (λ i. 0) (vertex_count s) (triangle_count s) (along PointTriangle) (down PointTriangle))
      (table_lists Earlier (listed s EdgeEdge) (pair EdgeEdge) (λ i. i + 1) (edge_count s) (edge_count s) (along EdgeEdge) (down EdgeEdge))
      (λ p q a b. by_kind (rw (a.6, b.6) (omega arith))))

  -- and no other list does
  pub list_only : (l : List Pair) → Lists Earlier (ToList s) l → l ≡ pairs s
  list_only l h = lists_unique Earlier (ToList s) never_itself earlier_still l (pairs s) h list_is

  -- each pair stands once
  pub list_once : (i j : ℕ) (d : Pair) → i < length (pairs s) → j < length (pairs s) → get_or (pairs s) i d ≡ get_or (pairs s) j d → i ≡ j
  list_once = lists_once Earlier (ToList s) never_itself (pairs s) list_is
