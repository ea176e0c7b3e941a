-- After a yes of `check_edges` the list has the ee pairs of all sides, each in one place and no other.
use Prim.Native.Nat.{ℕ, suc, ◌+◌, ◌%◌, min, max, ◌<◌}
use Rattle.std.specs.Prelude.{true, ◌⊎◌, ◌≡◌, refl, get_or, Ok}
use Rattle.std.proofs.Math.Bool.{false}
use mathlib.Core.List.Memᴰ
use mathlib.Core.List.{List, [], ◌∷◌, Memᴰ}
use Rattle.std.proofs.Math.Logic.{inl, inr}
use Rattle.std.proofs.Common.{⊎_elim, sym, ◌∙◌}
use Rattle.std.proofs.Math.Decide.{dec_lt}
use native.Mathlib.Omega.{arith}
use Rattle.std.proofs.Math.ListN.{length}
use borrow.Author.Tests.{lt-leb}
use Rattle.sequences.specs.Rising.{at_place}
use Rattle.meaning.specs.Scene.{Scene, edge_count, triangle_count, corner, same}
use Rattle.meaning.specs.Boxes.{Axis, x_axis, y_axis, z_axis, vertex_span, edge_span, meet, meet_on, listed}
use Rattle.meaning.specs.Refusals.{not_there, shares}
use Rattle.meaning.specs.List.{Pair, pairs}
use Rattle.meaning.specs.MeshEdges.{EdgesChecked}
use Rattle.meaning.specs.MeshRows.{row_count, rows_in}
use Rattle.meaning.specs.declared.Kind.TheVariants.{EdgeEdge}
use Rattle.meaning.specs.declared.RowPairs.TheVariants.{Listed}
use Rattle.answers.specs.Below.{or_left, or_rest}
use Rattle.theory.specs.Joints.{joint_either_way}
use Rattle.list_pairs.specs.InOrder.{FirstBelow, ToList, are_there, list_is, list_once}
use Rattle.list_words.specs.Listed.{no_pair}
use Rattle.mesh_laws.specs.Rows.{all_rows}
use Rattle.mesh_edges.specs.Ends.{SameEnds, NoneTwice}
use Rattle.mesh_edges.specs.Saying.{whole_means}
use Rattle.mesh_edges.specs.Sides.{Joins}
use Rattle.demands.specs.Standing.{as_listed, stands_is}
use Rattle.rows_demands.specs.AllSides.{sides_share, side_span, sides_meet_on, sides_meet, OfSides, StandsOnce}
use Rattle.meaning.specs.declared.EdgesFound.TheVariants.{Whole}

module _ (s : Scene) where
  edge_span_lem : (x : Axis) (e a b : ℕ) → Joins s e a b → edge_span s x e ≡ side_span s x a b
  edge_span_lem x e a b (inl (h, k)) = rw (h, k)
  edge_span_lem x e a b (inr (h, k)) = rw (h, k) (joint_either_way (vertex_span s x b) (vertex_span s x a))

  edges_meet : (e f a b c d : ℕ) → Joins s e a b → Joins s f c d → (x : Axis) → meet_on s EdgeEdge e f x ≡ sides_meet_on s a b c d x
  unfolding meet_on
  edges_meet e f a b c d i j x = let p = edge_span_lem x e a b i in let q = edge_span_lem x f c d j in λ t. meet (p t) (q t)

  edges_apart : (e f a b c d : ℕ) → Joins s e a b → Joins s f c d → sides_share s a b c d ≡ false → shares s EdgeEdge e f ≡ false
  unfolding shares
  edges_apart e f a b c d i j apart = by i j (search (or_left, or_rest)) (search (or_left, or_rest)) (search (or_left, or_rest)) (search (or_left, or_rest))
    where
      by : Joins s e a b → Joins s f c d → same s a c ≡ false → same s a d ≡ false → same s b c ≡ false → same s b d ≡ false
          → shares s EdgeEdge e f ≡ false
      by (inl (h, k)) (inl (m, n)) ac ad bc bd = rw (h, k, m, n, ac, ad, bc, bd)
      by (inl (h, k)) (inr (m, n)) ac ad bc bd = rw (h, k, m, n, ac, ad, bc, bd)
      by (inr (h, k)) (inl (m, n)) ac ad bc bd = rw (h, k, m, n, ac, ad, bc, bd)
      by (inr (h, k)) (inr (m, n)) ac ad bc bd = rw (h, k, m, n, ac, ad, bc, bd)

  edges_listed : (e f a b c d : ℕ) → Joins s e a b → Joins s f c d → sides_share s a b c d ≡ false → sides_meet s a b c d ≡ true
      → listed s EdgeEdge e f ≡ true
  edges_listed e f a b c d i j apart meets =
      let at : (x : Axis) → meet_on s EdgeEdge e f x ≡ sides_meet_on s a b c d x = edges_meet e f a b c d i j in
      rw (edges_apart e f a b c d i j apart, at x_axis, at y_axis, at z_axis) meets

  -- no edge stands twice: only one joins these two
  one_edge : NoneTwice s → (e f a b : ℕ) → e < edge_count s → f < edge_count s → Joins s e a b → Joins s f a b → e ≡ f
  one_edge none e f a b h k i j = by (dec_lt e f) (dec_lt f e)
    where
      alike : (e f : ℕ) → Joins s e a b → Joins s f a b → SameEnds s e f
      alike e f (inl (m, n)) (inl (p, q)) = inl (m ∙ sym p, n ∙ sym q)
      alike e f (inl (m, n)) (inr (p, q)) = inr (m ∙ sym q, n ∙ sym p)
      alike e f (inr (m, n)) (inl (p, q)) = inr (m ∙ sym q, n ∙ sym p)
      alike e f (inr (m, n)) (inr (p, q)) = inl (m ∙ sym p, n ∙ sym q)

      by : Dec (e < f) → Dec (f < e) → e ≡ f
      by (yes l) t = absurd (none e f l k (alike e f i j))
      by (no l) (yes m) = absurd (none f e m h (alike f e j i))
      by (no l) (no m) = omega arith

-- where it stands
found : (l : List Pair) (p : Pair) → Memᴰ p l → (k : ℕ) × (k < length l) × (get_or l k no_pair ≡ p)
found [] p m = absurd (Memᴰ.not-nil m)
found (q ∷ l) p m =
    ⊎_elim
    (λ e. (0, omega arith, sym e))
    (λ n. let (k, h, e) = found l p n in (suc k, omega arith, e))
    (Memᴰ.cases_cons m)

module _ (s : Scene) (none : NoneTwice s) (a b c d : ℕ) where
  -- two ee pairs of the list that are of these sides are one
  one_pair : (p q : Pair) → ToList s p → ToList s q → OfSides s a b c d p → OfSides s a b c d q → p ≡ q
  unfolding not_there FirstBelow
  one_pair p q there there' is is' =
      let low : p.first < p.second = rw is.is_ee at there.ordered in
      let low' : q.first < q.second = rw is'.is_ee at there'.ordered in
      let (h, k) = are_there (edge_count s) (edge_count s) p.first p.second (rw is.is_ee at there.there) in
      let (h', k') = are_there (edge_count s) (edge_count s) q.first q.second (rw is'.is_ee at there'.there) in
      by low low' h k h' k' is.joined is'.joined
    where
      Way : Pair → Type 0
      Way r = (Joins s r.first a b × Joins s r.second c d) ⊎ (Joins s r.first c d × Joins s r.second a b)

      same_places : p.first ≡ q.first → p.second ≡ q.second → p ≡ q
      same_places e f = let kind : p.kind ≡ q.kind = is.is_ee ∙ sym is'.is_ee in λ t. record { kind = kind t; first = e t; second = f t }

      by : p.first < p.second → q.first < q.second → p.first < edge_count s → p.second < edge_count s → q.first < edge_count s
          → q.second < edge_count s → Way p → Way q → p ≡ q
      by low low' h k h' k' (inl (i, j)) (inl (m, n)) =
          same_places (one_edge s none p.first q.first a b h h' i m) (one_edge s none p.second q.second c d k k' j n)
      by low low' h k h' k' (inr (i, j)) (inr (m, n)) =
          same_places (one_edge s none p.first q.first c d h h' i m) (one_edge s none p.second q.second a b k k' j n)
      by low low' h k h' k' (inl (i, j)) (inr (m, n)) =
          let e = one_edge s none p.first q.second a b h k' i n in
          let f = one_edge s none p.second q.first c d k h' j m in
          absurd (omega (arith, e, f))
      by low low' h k h' k' (inr (i, j)) (inl (m, n)) =
          let e = one_edge s none p.first q.second c d h k' i n in
          let f = one_edge s none p.second q.first a b k h' j m in
          absurd (omega (arith, e, f))

  of_edges : (e f : ℕ) → Joins s e a b → Joins s f c d → OfSides s a b c d (as_listed EdgeEdge e f)
  unfolding as_listed
  of_edges e f i j = by (dec_lt e f)
    where
      by : Dec (e < f) → OfSides s a b c d (as_listed EdgeEdge e f)
      by (yes h) = let low : min e f ≡ e = omega arith in let high : max e f ≡ f = omega arith in record { is_ee = refl; joined = inl (rw low i, rw high j) }
      by (no h) = let low : min e f ≡ f = omega arith in let high : max e f ≡ e = omega arith in record { is_ee = refl; joined = inr (rw low j, rw high i) }

  stands_once : (e f : ℕ) → e < edge_count s → f < edge_count s → Joins s e a b → Joins s f c d → sides_share s a b c d ≡ false → sides_meet s a b c d ≡ true
      → StandsOnce (OfSides s a b c d) (pairs s)
  unfolding not_there
  stands_once e f h k i j apart meets =
      let there : not_there s EdgeEdge e f ≡ false = rw (lt-leb (edge_count s) e h, lt-leb (edge_count s) f k) in
      let (place, inside, is) = found (pairs s) (as_listed EdgeEdge e f) ((stands_is s EdgeEdge e f there).1 (edges_listed s e f a b c d i j apart meets)) in
      let stands : OfSides s a b c d (get_or (pairs s) place no_pair) = rw is (of_edges e f i j) in
      let asked : (n : ℕ) → n < length (pairs s) → ToList s (get_or (pairs s) n no_pair) =
      λ n l. ((list_is s).stands (get_or (pairs s) n no_pair)).0 (at_place (pairs s) n no_pair l) in
      record {
        place = place;
        inside = inside;
        stands = stands;
        once = λ n l so.
            list_once s n place no_pair l inside
            (one_pair (get_or (pairs s) n no_pair) (get_or (pairs s) place no_pair) (asked n l) (asked place inside) so stands);
      }

module _ (s : Scene) (sides order : List ℕ) (table places : ℕ) (said : EdgesChecked s sides order table places (Ok Whole)) where
  -- sides k of triangle t and m of triangle u, each from a corner to the next around its triangle
  pub all_sides_listed : (t k u m : ℕ) → t < triangle_count s → k < 3 → u < triangle_count s → m < 3
      → sides_share s (corner s t k) (corner s t ((k + 1) % 3)) (corner s u m) (corner s u ((m + 1) % 3)) ≡ false
      → sides_meet s (corner s t k) (corner s t ((k + 1) % 3)) (corner s u m) (corner s u ((m + 1) % 3)) ≡ true
      → StandsOnce (OfSides s (corner s t k) (corner s t ((k + 1) % 3)) (corner s u m) (corner s u ((m + 1) % 3))) (rows_in Listed s 0 (row_count s))
  all_sides_listed t k u m ht hk hu hm apart meets =
      let (every, none) = whole_means s sides order table places said in
      let first = every t k ht hk in
      let second = every u m hu hm in
      rw (all_rows s)
      (stands_once s none (corner s t k) (corner s t ((k + 1) % 3)) (corner s u m) (corner s u ((m + 1) % 3)) first.edge second.edge first.there
      second.there first.joined second.joined apart meets)
