-- That every side is an edge is told by a certificate: for each side the number of its edge, each of which has the side's two ends. The look at it
-- is `JoinedTo` of `meaning/MeshEdges`.
use Rattle.std.specs.Prelude.{ℕ, ◌+◌, ◌-◌, ◌*◌, ◌%◌, ◌≡◌, refl, true, false, not, ◌&&◌, List, ◌≢◌, eqb, leb, length, get_or, Ok}
use Rattle.std.proofs.Common.{arith, ap, ◌∙◌, ⊎_elim, eqb-true, eq-eqb, ne_eqb, leb-false}
use Rattle.std.proofs.lemmas.Bool.{not-false}
use Rattle.sequences.specs.Pick.{pick_true, pick_false, both, one_of}
use Rattle.meaning.specs.Scene.{Scene, edge_count, edge_end, counts_as}
use Rattle.meaning.specs.MeshEdges.{next_corner, joins, bare_side, JoinedTo, whole, edges_say, EdgesAre, edges_checks, EdgesChecked}
use Rattle.meaning.specs.Refusals.{given}
use Rattle.answers.specs.Below.{or_left, or_rest}
use Rattle.answers.specs.Deciding.{NoneHolds, given_exactly, given_right}
use Rattle.clean_demands.specs.Sides.{Between, along, against}
use Rattle.clean_demands.specs.Mesh.{WellMade, known_and_sewn, EdgeBetween, SidesAreEdges}
use Rattle.meaning.specs.declared.EdgesFound.TheVariants.{Whole}

-- ---- the next corner around a triangle

next_inside : (k : ℕ) → k % 3 ≢ 2 → next_corner k ≡ k + 1
next_inside k h = pick_false (k - 2) (k + 1) (ne_eqb (k % 3) 2 h)

next_around : (k : ℕ) → k % 3 ≡ 2 → next_corner k ≡ k - 2
next_around k h = pick_true (k - 2) (k + 1) (eq-eqb (k % 3) 2 h)

-- ---- an edge with the ends a and b lies between them

is_between : (s : Scene) (e a b : ℕ) → joins s e a b ≡ true → Between s e a b
is_between s e a b h =
    ⊎_elim
    (λ t. let (p, q) = both (eqb (edge_end s e 0) a) (eqb (edge_end s e 1) b) t in along (ap (counts_as s) (eqb-true (edge_end s e 0) a p)) (ap (counts_as s) (eqb-true (edge_end s e 1) b q)))
    (λ t. let (p, q) = both (eqb (edge_end s e 0) b) (eqb (edge_end s e 1) a) t.1 in against (ap (counts_as s) (eqb-true (edge_end s e 0) b p)) (ap (counts_as s) (eqb-true (edge_end s e 1) a q)))
    (one_of (eqb (edge_end s e 0) a && eqb (edge_end s e 1) b) (eqb (edge_end s e 0) b && eqb (edge_end s e 1) a) h)

module _ (s : Scene) (sides order : List ℕ) where
  -- a side that is not bare
  side_there : (k n : ℕ) → next_corner k ≡ n → bare_side s sides k ≡ false → EdgeBetween s (get_or s.triangles k 0) (get_or s.triangles n 0)
  side_there k n next h =
      let e : ℕ = get_or sides k 0 in
      let met : joins s e (get_or s.triangles k 0) (get_or s.triangles (next_corner k) 0) ≡ true =
      not-false _ (or_rest (leb (edge_count s) e) (not (joins s e (get_or s.triangles k 0) (get_or s.triangles (next_corner k) 0))) h) in
      record {
        edge = e;
        there = leb-false (edge_count s) e (or_left (leb (edge_count s) e) (not (joins s e (get_or s.triangles k 0) (get_or s.triangles (next_corner k) 0))) h);
        between = is_between s e (get_or s.triangles k 0) (get_or s.triangles n 0) (rw next at met);
      }

  pub sides_are_edges : JoinedTo s sides order (length s.triangles) → SidesAreEdges s
  sides_are_edges joined = record {
    first = λ j h. side_there (3 * j + 0) (3 * j + 1) (next_inside (3 * j + 0) (λ e. omega arith) ∙ omega arith) (joined (3 * j + 0) (omega arith));
    second = λ j h. side_there (3 * j + 1) (3 * j + 2) (next_inside (3 * j + 1) (λ e. omega arith) ∙ omega arith) (joined (3 * j + 1) (omega arith));
    third = λ j h. side_there (3 * j + 2) (3 * j + 0) (next_around (3 * j + 2) (omega arith) ∙ omega arith) (joined (3 * j + 2) (omega arith));
  }

  -- as the look at them is answered: all is well with the edges, so no check of the mesh refused it, and every side is an edge
  pub whole_edges : (table places : ℕ) → EdgesChecked s sides order table places (Ok Whole) → WellMade s × SidesAreEdges s
  unfolding edges_say EdgesAre NoneHolds
  whole_edges table places told =
      let passed = (given_exactly (EdgesAre s sides order) (edges_checks s sides order table places) (given whole) told).0 (whole, refl) in
      let right = given_right (EdgesAre s sides order) (edges_checks s sides order table places) whole told in
      (known_and_sewn s passed.1.1.1.0 passed.1.1.1.1.0, sides_are_edges right.0)
