-- No edge stands twice: told by an order of the edges in which their ends rise.
use Rattle.std.specs.Prelude.{ℕ, zero, suc, ◌+◌, ◌-◌, ◌*◌, ◌≤◌, ◌<◌, List, min, max, ◌⊎◌, ◌≡◌, ltb, length, get_or}
use Rattle.std.proofs.Common.{⊎_elim, sym, ap, ◌∙◌, arith, lt-ltb, le-ltb, leb-false}
use Rattle.std.proofs.Math.Decide.{dec_lt}
use Rattle.meaning.specs.Scene.{Scene, edge_count, edge_end}
use Rattle.meaning.specs.MeshEdges.{ends_number, RisingTo}
use Rattle.scene_seams.specs.Alone.{only_edges}
use Rattle.sequences.specs.Pick.{pick, pick_true, pick_false}
use Rattle.mesh_orders.specs.Orders.{Order, at}

-- two edges have the same ends, in the same or the other order
abbrev pub SameEnds : Scene → ℕ → ℕ → Type 0
SameEnds s i j =
    ((edge_end s i 0 ≡ edge_end s j 0) × (edge_end s i 1 ≡ edge_end s j 1)) ⊎ ((edge_end s i 0 ≡ edge_end s j 1) × (edge_end s i 1 ≡ edge_end s j 0))

abbrev pub NoneTwice : Scene → Type 0
NoneTwice s = (i j : ℕ) → i < j → j < edge_count s → SameEnds s i j → ⊥

-- ---- as it is computed

-- a number for each edge, by its ends, the lower in front
abbrev pub number_of_ends : ℕ → ℕ → ℕ
number_of_ends a b = pick (ltb a b) (4294967296 * a + b) (4294967296 * b + a)

-- that is meaning's
first_end : (s : Scene) (e : ℕ) → get_or s.edges (2 * e) 0 ≡ edge_end s e 0
first_end s e = let z : 2 * e ≡ 2 * e + 0 = omega arith in ap (λ (p : ℕ). get_or s.edges p 0) z

pub number_told : (s : Scene) (e : ℕ) → number_of_ends (get_or s.edges (2 * e) 0) (get_or s.edges (2 * e + 1) 0) ≡ ends_number s e
number_told s e = ap (λ a. number_of_ends a (edge_end s e 1)) (first_end s e)

pub number_up : (a b : ℕ) → a < b → 4294967296 * a + b ≡ number_of_ends a b
number_up a b h = sym (pick_true (4294967296 * a + b) (4294967296 * b + a) (lt-ltb a b h))

pub number_down : (a b : ℕ) → b ≤ a → 4294967296 * b + a ≡ number_of_ends a b
number_down a b h = sym (pick_false (4294967296 * a + b) (4294967296 * b + a) (le-ltb a b h))

pub number_joined : (a b low high : ℕ) → low ≡ min a b → high ≡ max a b → 4294967296 * low + high ≡ number_of_ends a b
number_joined a b low high e f = by_place (dec_lt a b)
  where
    by_place : Dec (a < b) → 4294967296 * low + high ≡ number_of_ends a b
    by_place (yes h) = let placed : 4294967296 * low + high ≡ 4294967296 * a + b = omega (arith, e, f) in placed ∙ number_up a b h
    by_place (no h) = let placed : 4294967296 * low + high ≡ 4294967296 * b + a = omega (arith, e, f) in placed ∙ number_down a b (omega arith)

-- an order of the edges, of which each number is an edge's
pub record EdgeOrder (edges order : List ℕ) : Type 0 where
  pub whole : length order ≡ edge_count (only_edges edges)
  pub inside : (k : ℕ) → k < length order → at order k < length order

-- ---- what it says

-- whichever of the two stands first, the number is the same
numbers_turned : (a b : ℕ) → number_of_ends a b ≡ number_of_ends b a
numbers_turned a b = by_place (dec_lt a b) (dec_lt b a)
  where
    by_place : Dec (a < b) → Dec (b < a) → number_of_ends a b ≡ number_of_ends b a
    by_place (yes h) e = sym (number_up a b h) ∙ number_down b a (omega arith)
    by_place (no h) (yes k) = sym (number_down a b (omega arith)) ∙ number_up b a k
    by_place (no h) (no k) = let e : a ≡ b = omega arith in rw e

same_number : (s : Scene) (i j : ℕ) → SameEnds s i j → ends_number s i ≡ ends_number s j
same_number s i j q =
    ⊎_elim (λ w. rw (w.0, w.1)) (λ w. rw (w.0, w.1) (numbers_turned (edge_end s j 1) (edge_end s j 0))) q

module _ (s : Scene) (sides order : List ℕ) (f : RisingTo s sides order (length order - 1)) where
  -- along the order the ends rise
  rises : (k d : ℕ) → k + suc d < length order → ends_number s (at order k) < ends_number s (at order (k + suc d))
  rises k zero h =
      let place : k + 1 ≡ k + suc zero = omega arith in
      rw place at (leb-false (ends_number s (at order (k + 1))) (ends_number s (at order k)) (f k (omega arith)))
  rises k (suc d) h =
      let last = leb-false (ends_number s (at order (k + suc d + 1))) (ends_number s (at order (k + suc d))) (f (k + suc d) (omega arith)) in
      let place : k + suc d + 1 ≡ k + suc (suc d) = omega arith in
      let here = rw place at last in
      omega (arith, rises k d (omega arith), here)

  pub rises_between : (k l : ℕ) → k < l → l < length order → ends_number s (at order k) < ends_number s (at order l)
  rises_between k l h room =
      let place : k + suc (l - k - 1) ≡ l = omega arith in
      rw place at (rises k (l - k - 1) (omega arith))

-- the ends rise along an order of all edges: no edge stands twice
pub none_twice : (s : Scene) (sides order : List ℕ) → Order (edge_count s) order → RisingTo s sides order (length order - 1) → NoneTwice s
none_twice s sides order o f i j h there same = by_place (dec_lt (o.inverse i) (o.inverse j)) (dec_lt (o.inverse j) (o.inverse i))
  where
    number : ℕ → ℕ
    number e = ends_number s e

    equal : number i ≡ number j
    equal = same_number s i j same

    at_i : at order (o.inverse i) ≡ i
    at_i = o.home.returns i (omega arith)

    at_j : at order (o.inverse j) ≡ j
    at_j = o.home.returns j there

    by_place : Dec (o.inverse i < o.inverse j) → Dec (o.inverse j < o.inverse i) → ⊥
    by_place (yes l) d =
        omega (arith, equal, rw (at_i, at_j) at (rises_between s sides order f (o.inverse i) (o.inverse j) l (omega (arith, o.whole, o.home.inside j there))))
    by_place (no l) (yes k) =
        omega (arith, equal, rw (at_i, at_j) at (rises_between s sides order f (o.inverse j) (o.inverse i) k (omega (arith, o.whole, o.home.inside i (omega arith)))))
    by_place (no l) (no k) =
        let e : o.inverse i ≡ o.inverse j = omega arith in
        let q : i ≡ j = sym at_i ∙ ap (at order) e ∙ at_j in
        omega (arith, q)
