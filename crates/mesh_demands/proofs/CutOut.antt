-- A scene cut out of a mesh is a part of it, and a mesh; and it is accepted where it fits the sizes and its coordinates are in range.
use Prim.Native.Nat.{ℕ, zero, suc, ◌+◌, ◌*◌, ◌/◌, ◌%◌, ◌≤◌, ◌<◌}
use Rattle.std.specs.Prelude.{false, ◌≡◌, ltb, pos}
use mathlib.Core.List.{List, [], ◌∷◌, map}
use Rattle.std.proofs.Common.{sym, ◌∙◌, ap₂, arith, lt-ltb, le-ltb, eq-eqb}
use Rattle.std.proofs.Math.Path.{refl, ap}
use Rattle.std.proofs.Math.Decide.{dec_lt}
use Rattle.std.proofs.Math.ListN.{length, get_or}
use Rattle.whole.specs.VectorLaws.{vector_eq}
use Rattle.sequences.specs.Rising.{rising_places, at_place}
use Rattle.meaning.specs.Limits.{vertex_limit, edge_limit, triangle_limit}
use Rattle.meaning.specs.Scene.{Scene, AcceptedWithin, vertex_count, edge_count, triangle_count, start_of, end_of, edge_end, corner, before, same, counts_as, stood_for, some_below, wrong_shape, beyond, reaches_beyond, unknown_vertex, twice_in_edge, twice_in_triangle, repeated_vertex}
use Rattle.meaning.specs.Text.{coordinates}
use Rattle.theory.specs.Bounds.{Every}
use Rattle.theory.specs.Written.{Lower, before_lower, before_higher, ends_written, corners_written, Different}
use Rattle.answers.specs.Below.{none_below}
use Rattle.sequences.specs.Blocks.{gather_at}
use Rattle.turning_laws.specs.Checked.{none_broken}
use Rattle.demands.specs.StillAccepted.{all_known, of_two, of_three}
use Rattle.mesh_demands.specs.Part.{PartOf, as_written}
use Rattle.mesh_demands.specs.Kept.{same_kept}
use Rattle.mesh_demands.specs.Meshes.{Mesh}
use Rattle.mesh_demands.specs.CutOut.{place_in, cut_at, OneOf, InRange, Cuttable, place_there, cut_out, positions_long, edges_long, triangles_long, vertices_many, edges_many, triangles_many}

six_numbers : (s : Scene) (v k : ℕ) → k < 6 → get_or (coordinates (start_of s v) (end_of s v)) k (pos 0) ≡ get_or s.positions (6 * v + k) (pos 0)
six_numbers s v zero h = ap (λ i. get_or s.positions i (pos 0)) (omega arith)
six_numbers s v (suc zero) h = refl
six_numbers s v (suc (suc zero)) h = refl
six_numbers s v (suc (suc (suc zero))) h = refl
six_numbers s v (suc (suc (suc (suc zero)))) h = ap (λ i. get_or s.positions i (pos 0)) (omega arith)
six_numbers s v (suc (suc (suc (suc (suc zero))))) h = ap (λ i. get_or s.positions i (pos 0)) (omega arith)
six_numbers s v (suc (suc (suc (suc (suc (suc k)))))) h = absurd (omega arith)

module _ (s : Scene) (vs es ts : List ℕ) where
  abbrev cut : Scene
  cut = cut_out s vs es ts

  -- coordinate k of vertex a
  coordinate : (a k i : ℕ) → a < length vs → k < 6 → i ≡ 6 * a + k → get_or cut.positions i (pos 0) ≡ get_or s.positions (6 * get_or vs a 0 + k) (pos 0)
  coordinate a k i h l e =
      ap (λ n. get_or cut.positions n (pos 0)) (omega arith)
      ∙ gather_at (λ a. coordinates (start_of s (get_or vs a 0)) (end_of s (get_or vs a 0))) 6 (λ a. refl) (length vs) a k (pos 0) h l
      ∙ six_numbers s (get_or vs a 0) k l

  end_at : (j k : ℕ) → j < length es → k < 2 → edge_end cut j k ≡ get_or (map (place_in vs) (ends_written s (get_or es j 0))) k 0
  end_at j k h l =
      ap (λ n. get_or cut.edges n 0) (omega arith)
      ∙ gather_at (λ j. map (place_in vs) (ends_written s (get_or es j 0))) 2 (λ j. refl) (length es) j k 0 h l

  corner_at : (j k : ℕ) → j < length ts → k < 3 → corner cut j k ≡ get_or (map (place_in vs) (corners_written s (get_or ts j 0))) k 0
  corner_at j k h l =
      ap (λ n. get_or cut.triangles n 0) (omega arith)
      ∙ gather_at (λ j. map (place_in vs) (corners_written s (get_or ts j 0))) 3 (λ j. refl) (length ts) j k 0 h l

  module _ (h : Cuttable s vs es ts) where
    edge_has : (j : ℕ) → j < length es → (get_or es j 0 < edge_count s) × Every (OneOf vs) (ends_written s (get_or es j 0))
    edge_has j l = h.edges (get_or es j 0) (at_place es j 0 l)

    triangle_has : (j : ℕ) → j < length ts → (get_or ts j 0 < triangle_count s) × Every (OneOf vs) (corners_written s (get_or ts j 0))
    triangle_has j l = h.triangles (get_or ts j 0) (at_place ts j 0 l)

    back : (v : ℕ) → OneOf vs v → (a : ℕ) → a ≡ place_in vs v → get_or vs a 0 ≡ v
    back v m a e = ap (λ n. get_or vs n 0) e ∙ (place_there vs v m).1

    lower_place : (a b : ℕ) → a < b → b < length vs → Lower s (get_or vs a 0) (get_or vs b 0)
    lower_place a b l k = omega (arith, rising_places _ vs h.vertices_rise a b 0 l k)

    -- two vertices of the list are in the order of their places
    in_order : (a b : ℕ) → a < length vs → b < length vs → before s (get_or vs a 0) (get_or vs b 0) ≡ ltb a b
    in_order a b k l = go (dec_lt a b) (dec_lt b a)
      where
        go : Dec (a < b) → Dec (b < a) → before s (get_or vs a 0) (get_or vs b 0) ≡ ltb a b
        go (yes x) y = before_lower s _ _ (lower_place a b x l) ∙ sym (lt-ltb a b x)
        go (no x) (yes y) = before_higher s _ _ (lower_place b a y k) ∙ sym (le-ltb a b (omega arith))
        go (no x) (no y) =
            let e : a ≡ b = omega arith in
            let n : ℕ = counts_as s (get_or vs b 0) in
            rw e (le-ltb n n (omega arith) ∙ sym (le-ltb b b (omega arith)))

    pub cut_out_is_a_part : PartOf (cut_at vs es ts) cut s
    unfolding stood_for
    cut_out_is_a_part =
        record {
          vertices_there = λ a k. h.vertices (get_or vs a 0) (at_place vs a 0 (omega (arith, vertices_many s vs es ts)));
          edges_there = λ j k. (edge_has j (omega (arith, edges_many s vs es ts))).0;
          triangles_there = λ j k. (triangle_has j (omega (arith, triangles_many s vs es ts))).0;
          starts = λ a k.
              let l : a < length vs = omega (arith, vertices_many s vs es ts) in
              let v : ℕ = get_or vs a 0 in
              vector_eq (sym (coordinate a 0 (6 * a) l (omega arith) (omega arith) ∙ ap (λ n. get_or s.positions n (pos 0)) (omega arith)))
              (sym (coordinate a 1 (6 * a + 1) l (omega arith) refl)) (sym (coordinate a 2 (6 * a + 2) l (omega arith) refl));
          ends = λ a k.
              let l : a < length vs = omega (arith, vertices_many s vs es ts) in
              vector_eq (sym (coordinate a 3 (6 * a + 3) l (omega arith) refl))
              (sym (coordinate a 4 (6 * a + 3 + 1) l (omega arith) (omega arith) ∙ ap (λ n. get_or s.positions n (pos 0)) (omega arith)))
              (sym (coordinate a 5 (6 * a + 3 + 2) l (omega arith) (omega arith) ∙ ap (λ n. get_or s.positions n (pos 0)) (omega arith)));
          order = λ a b k l. in_order a b (omega (arith, vertices_many s vs es ts)) (omega (arith, vertices_many s vs es ts));
          edges = λ j k.
              let l : j < length es = omega (arith, edges_many s vs es ts) in
              let m = (edge_has j l).1 in
              as_written (λ i. back _ m.0 _ (end_at j 0 l (omega arith)) i ∷ back _ m.1.0 _ (end_at j 1 l (omega arith)) i ∷ []);
          triangles = λ j k.
              let l : j < length ts = omega (arith, triangles_many s vs es ts) in
              let m = (triangle_has j l).1 in
              as_written
              (λ i. back _ m.0 _ (corner_at j 0 l (omega arith)) i ∷ back _ m.1.0 _ (corner_at j 1 l (omega arith)) i ∷ back _ m.1.1.0 _ (corner_at j 2 l (omega arith)) i ∷ []);
          edges_rise = λ i j l k. rising_places ◌<◌ es h.edges_rise i j 0 l (omega (arith, edges_many s vs es ts));
        }

    -- a vertex of the mesh in its place among those cut out is compared as in the mesh
    same_in_cut : (v w a b : ℕ) → OneOf vs v → OneOf vs w → a ≡ place_in vs v → b ≡ place_in vs w → same cut a b ≡ same s v w
    same_in_cut v w a b m n d e =
        let below : (u c : ℕ) → OneOf vs u → c ≡ place_in vs u → c < vertex_count cut = λ u c o q. omega (arith, q, (place_there vs u o).0, vertices_many s vs es ts) in
        sym (same_kept cut_out_is_a_part a b (below v a m d) (below w b n e)) ∙ ap₂ (same s) (back v m a d) (back w n b e)

    fine_shape : length vs ≤ vertex_limit → length es ≤ edge_limit → length ts ≤ triangle_limit → wrong_shape cut ≡ false
    fine_shape few few_edges few_triangles =
        rw (eq-eqb (length cut.positions % 6) 0 (omega (arith, positions_long s vs es ts)), eq-eqb (length cut.edges % 2) 0 (omega (arith, edges_long s vs es ts)), eq-eqb (length cut.triangles % 3) 0 (omega (arith, triangles_long s vs es ts)), le-ltb vertex_limit (vertex_count cut) (omega (arith, vertices_many s vs es ts)), le-ltb edge_limit (edge_count cut) (omega (arith, edges_many s vs es ts)), le-ltb triangle_limit (triangle_count cut) (omega (arith, triangles_many s vs es ts)))
        refl

    fine_range : (B : ℕ) → ((v : ℕ) → OneOf vs v → InRange B s v) → reaches_beyond B cut ≡ false
    fine_range B range =
        none_below (λ i. beyond B (get_or cut.positions i (pos 0))) (length cut.positions)
        (λ i l.
        let a : i / 6 < length vs = omega (arith, positions_long s vs es ts) in
        let at = coordinate (i / 6) (i % 6) i a (omega arith) (omega arith) in
        rw at (le-ltb B _ (range (get_or vs (i / 6) 0) (at_place vs (i / 6) 0 a) (i % 6) (omega arith))))

    place_known : (v a : ℕ) → OneOf vs v → a ≡ place_in vs v → a < vertex_count cut
    place_known v a m e = omega (arith, e, (place_there vs v m).0, vertices_many s vs es ts)

    all_there : unknown_vertex cut ≡ false
    unfolding some_below
    all_there =
        rw (
          all_known (vertex_count cut) 2 (length es) cut.edges (omega arith) (edges_long s vs es ts) (λ j k l.
              let m = (edge_has j l).1 in
              of_two (λ v. v < vertex_count cut) (edge_end cut j) (place_known _ _ m.0 (end_at j 0 l (omega arith)), (place_known _ _ m.1.0 (end_at j 1 l (omega arith)), tt)) k),
          all_known (vertex_count cut) 3 (length ts) cut.triangles (omega arith) (triangles_long s vs es ts) (λ j k l.
              let m = (triangle_has j l).1 in
              of_three (λ v. v < vertex_count cut) (corner cut j) (place_known _ _ m.0 (corner_at j 0 l (omega arith)), (place_known _ _ m.1.0 (corner_at j 1 l (omega arith)), (place_known _ _ m.1.1.0 (corner_at j 2 l (omega arith)), tt))) k),
        )
        refl

    none_twice : ((e : ℕ) → OneOf es e → Different s (ends_written s e)) → ((t : ℕ) → OneOf ts t → Different s (corners_written s t)) → repeated_vertex cut ≡ false
    none_twice ends corners =
        rw (none_below (twice_in_edge cut) (edge_count cut) edge, none_below (twice_in_triangle cut) (triangle_count cut) triangle) refl
      where
        edge : (j : ℕ) → j < edge_count cut → twice_in_edge cut j ≡ false
        edge j k =
            let l : j < length es = omega (arith, edges_many s vs es ts) in
            let m = (edge_has j l).1 in
            same_in_cut _ _ _ _ m.0 m.1.0 (end_at j 0 l (omega arith)) (end_at j 1 l (omega arith)) ∙ (ends (get_or es j 0) (at_place es j 0 l)).0.0

        triangle : (j : ℕ) → j < triangle_count cut → twice_in_triangle cut j ≡ false
        triangle j k =
            let l : j < length ts = omega (arith, triangles_many s vs es ts) in
            let m = (triangle_has j l).1 in
            let d = corners (get_or ts j 0) (at_place ts j 0 l) in
            let at : (n : ℕ) → n < 3 → corner cut j n ≡ get_or (map (place_in vs) (corners_written s (get_or ts j 0))) n 0 = λ n. corner_at j n l in
            rw (same_in_cut _ _ _ _ m.0 m.1.0 (at 0 (omega arith)) (at 1 (omega arith)), same_in_cut _ _ _ _ m.0 m.1.1.0 (at 0 (omega arith)) (at 2 (omega arith)), same_in_cut _ _ _ _ m.1.0 m.1.1.0 (at 1 (omega arith)) (at 2 (omega arith)), d.0.0, d.0.1.0, d.1.0.0)
            refl

    -- it is a mesh
    pub cut_out_is_a_mesh : ((e : ℕ) → OneOf es e → Different s (ends_written s e)) → ((t : ℕ) → OneOf ts t → Different s (corners_written s t)) → Mesh cut
    cut_out_is_a_mesh ends corners = record { known = all_there; distinct = none_twice ends corners }

    -- where it fits the sizes, its coordinates are in range, and no vertex is twice in one of its edges or triangles
    pub cut_out_is_accepted : (B : ℕ) → length vs ≤ vertex_limit → length es ≤ edge_limit → length ts ≤ triangle_limit
        → ((v : ℕ) → OneOf vs v → InRange B s v)
        → ((e : ℕ) → OneOf es e → Different s (ends_written s e)) → ((t : ℕ) → OneOf ts t → Different s (corners_written s t))
        → AcceptedWithin B cut
    cut_out_is_accepted B few few_edges few_triangles range ends corners = record {
      shapely = fine_shape few few_edges few_triangles;
      in_range = fine_range B range;
      known = all_there;
      sewn_well = none_broken cut refl;
      distinct = none_twice ends corners;
    }
