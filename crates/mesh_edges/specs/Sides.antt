-- Every side of every triangle is an edge: told by the numbers of the edges, one for each side.
use Rattle.std.specs.Prelude.{ℕ, ◌+◌, ◌-◌, ◌*◌, ◌%◌, ◌≤◌, ◌<◌, Bool, true, false, not, ◌&&◌, ◌||◌, List, ◌≢◌, ◌⊎◌, ◌≡◌, eqb, leb, length, get_or}
use Rattle.std.proofs.Common.{inl, inr, ⊎_elim, sym, ◌∙◌, arith, le-leb, leb-false, eq-eqb, ne_eqb, eqb-true}
use Rattle.std.proofs.Math.Decide.{dec_lt}
use Rattle.std.proofs.lemmas.Bool.{lt-leb, not-false}
use Rattle.meaning.specs.Scene.{Scene, edge_count, triangle_count, edge_end, corner}
use Rattle.meaning.specs.MeshEdges.{next_corner, joins, bare_side, JoinedTo}
use Rattle.sequences.specs.Pick.{pick_true, pick_false, both, neither, one_of}

-- edge e has the ends a and b, in either order
abbrev pub Joins : Scene → (e a b : ℕ) → Type 0
Joins s e a b = ((edge_end s e 0 ≡ a) × (edge_end s e 1 ≡ b)) ⊎ ((edge_end s e 0 ≡ b) × (edge_end s e 1 ≡ a))

-- side k of triangle t, from corner k to the one behind it, is an edge
pub record SideIsEdge (s : Scene) (t k : ℕ) : Type 0 where
  pub edge : ℕ
  pub there : edge < edge_count s
  pub joined : Joins s edge (corner s t k) (corner s t ((k + 1) % 3))

abbrev pub EverySide : Scene → Type 0
EverySide s = (t k : ℕ) → t < triangle_count s → k < 3 → SideIsEdge s t k

-- ---- as it is computed

pub next_at_end : (k : ℕ) → k % 3 ≡ 2 → k - 2 ≡ next_corner k
next_at_end k h = sym (pick_true (k - 2) (k + 1) (eq-eqb (k % 3) 2 h))

pub next_before : (k : ℕ) → k % 3 ≢ 2 → k + 1 ≡ next_corner k
next_before k h = sym (pick_false (k - 2) (k + 1) (ne_eqb (k % 3) 2 h))

-- it stays within whole triangles
pub next_inside : (n k : ℕ) → n % 3 ≡ 0 → k < n → next_corner k < n
next_inside n k whole h = by_corner (dec_lt (k % 3) 2)
  where
    by_corner : Dec (k % 3 < 2) → next_corner k < n
    by_corner (yes e) = let place = next_before k (λ q. omega arith) in omega (arith, place)
    by_corner (no e) = let last : k % 3 ≡ 2 = omega arith in let place = next_at_end k last in omega (arith, place)

module _ (s : Scene) (sides : List ℕ) (k edge : ℕ) (e : edge ≡ get_or sides k 0) where
  pub is_bare : (a b : ℕ) → edge < edge_count s → a ≡ get_or s.triangles k 0 → b ≡ get_or s.triangles (next_corner k) 0
      → not (joins s edge a b) ≡ bare_side s sides k
  is_bare a b h f g =
      rw (f, g, e)
      (sym (false_or (lt-leb (edge_count s) (get_or sides k 0) (omega (arith, e))) (not (joins s (get_or sides k 0) (get_or s.triangles k 0) (get_or s.triangles (next_corner k) 0)))))
    where
      false_or : {p : Bool} → p ≡ false → (q : Bool) → p || q ≡ q
      false_or {p} h q = rw h

  pub is_no_edge : edge_count s ≤ edge → true ≡ bare_side s sides k
  is_no_edge h =
      let high : leb (edge_count s) (get_or sides k 0) ≡ true = le-leb (edge_count s) (get_or sides k 0) (omega (arith, e)) in
      rw high

-- ---- what it says

ends_said : (x y c d : ℕ) → eqb x c && eqb y d ≡ true → (x ≡ c) × (y ≡ d)
ends_said x y c d q = let w = both (eqb x c) (eqb y d) q in (eqb-true x c w.0, eqb-true y d w.1)

pub joins_said : (s : Scene) (e a b : ℕ) → joins s e a b ≡ true → Joins s e a b
joins_said s e a b h =
    ⊎_elim (λ q. inl (ends_said (edge_end s e 0) (edge_end s e 1) a b q)) (λ q. inr (ends_said (edge_end s e 0) (edge_end s e 1) b a q.1))
    (one_of (eqb (edge_end s e 0) a && eqb (edge_end s e 1) b) (eqb (edge_end s e 0) b && eqb (edge_end s e 1) a) h)

-- around triangle t the corner behind corner k
next_around : (t k : ℕ) → k < 3 → next_corner (3 * t + k) ≡ 3 * t + (k + 1) % 3
next_around t k h = by_corner (dec_lt k 2)
  where
    by_corner : Dec (k < 2) → next_corner (3 * t + k) ≡ 3 * t + (k + 1) % 3
    by_corner (no e) =
        let last : (3 * t + k) % 3 ≡ 2 = omega arith in
        let back : 3 * t + k - 2 ≡ 3 * t + (k + 1) % 3 = omega arith in
        pick_true (3 * t + k - 2) (3 * t + k + 1) (eq-eqb ((3 * t + k) % 3) 2 last) ∙ back
    by_corner (yes e) =
        let more : 3 * t + k + 1 ≡ 3 * t + (k + 1) % 3 = omega arith in
        pick_false (3 * t + k - 2) (3 * t + k + 1) (ne_eqb ((3 * t + k) % 3) 2 (λ q. omega arith)) ∙ more

-- a side that is not bare is the edge that is lent for it
module _ (s : Scene) (sides : List ℕ) (t k : ℕ) (h : k < 3) where
  abbrev lent : ℕ
  lent = get_or sides (3 * t + k) 0

  abbrev met : Bool
  met = joins s lent (get_or s.triangles (3 * t + k) 0) (get_or s.triangles (next_corner (3 * t + k)) 0)

  pub side_is_edge : bare_side s sides (3 * t + k) ≡ false → SideIsEdge s t k
  side_is_edge q =
      let (there, met-there) = neither (leb (edge_count s) lent) (not met) q in
      record {
        edge = lent;
        there = leb-false (edge_count s) lent there;
        joined = rw (next_around t k h) at (joins_said s lent (corner s t k) (get_or s.triangles (next_corner (3 * t + k)) 0) (not-false met met-there));
      }

-- no side is bare: every side is an edge
pub every_side : (s : Scene) (sides order : List ℕ) → JoinedTo s sides order (length s.triangles) → EverySide s
every_side s sides order f t k h l = side_is_edge s sides t k l (f (3 * t + k) (omega arith))
