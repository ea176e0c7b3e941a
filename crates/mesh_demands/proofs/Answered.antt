-- Pairs side by side make a scene that is accepted, where their vertices are in range.
use Rattle.std.specs.Prelude.{ℕ, ◌+◌, ◌-◌, ◌*◌, ◌%◌, ◌≤◌, ◌<◌, ◌≡◌, ℤ, pos, nat_abs, get_or}
use Rattle.std.proofs.Math.Bool.{false}
use mathlib.Core.List.{List, [], ◌∷◌, ◌++◌, map, append_assoc, append-nil}
use Rattle.std.proofs.Math.Path.{refl, subst}
use Rattle.std.proofs.Common.{sym, ◌∙◌, ap, arith, length-append, get_or-append-add}
use Rattle.std.proofs.Math.Decide.{dec_lt}
use Rattle.std.proofs.Math.ListN.{length, get_or-append}
use Rattle.std.proofs.lemmas.List.{length-map}
use borrow.Author.Tests.{le-ltb, ltb-false, eq-eqb, ne_eqb, eqb-false}
use Rattle.sequences.specs.Mapped.{map_at}
use Rattle.meaning.specs.Limits.{vertex_limit, edge_limit, triangle_limit}
use Rattle.meaning.specs.Scene.{Scene, scene_of, AcceptedWithin, vertex_count, edge_count, triangle_count, edge_end, corner, stood_for, some_below, beyond, twice_in_edge, twice_in_triangle, wrong_shape, reaches_beyond, unknown_vertex, repeated_vertex}
use Rattle.meaning.specs.List.{Pair}
use Rattle.answers.specs.Below.{none_below, none_passes}
use Rattle.scene_checks.specs.Facts.{accepted_end, accepted_corner}
use Rattle.turning_laws.specs.Checked.{none_broken}
use Rattle.demands.specs.StillAccepted.{all_known, of_two, of_three, ends_differ, corners_differ}
use Rattle.mesh_demands.specs.Meshes.{Mesh}
use Rattle.mesh_demands.specs.CutOut.{OneOf, InRange, vertices_many, positions_long, edges_long, triangles_long}
use Rattle.mesh_demands.specs.Alone.{Apart, vertices_of, four_of, edges_of, triangles_of, few_parts, four_vertices}
use Rattle.mesh_demands.proofs.Alone.{alone_is_accepted}
use Rattle.mesh_demands.specs.Together.{alone_of, edges_in, triangles_in, positions_of, edges_from, triangles_from, together, AllApart}
use Rattle.mesh_demands.specs.Answered.{AllNear}

record EndsFine (n a b : ℕ) : Type 0 where
  one : a < n
  other : b < n
  apart : a ≡ b → ⊥

record CornersFine (n a b c : ℕ) : Type 0 where
  one : EndsFine n a b
  two : EndsFine n b c
  three : EndsFine n a c

record Fine (B : ℕ) (f : Scene) (v e t : ℕ) : Type 0 where
  vertices : length f.positions ≡ 6 * v
  edges : length f.edges ≡ 2 * e
  triangles : length f.triangles ≡ 3 * t
  near : (i : ℕ) → i < 6 * v → nat_abs (get_or f.positions i (pos 0)) ≤ B
  ends : (j : ℕ) → j < e → EndsFine v (edge_end f j 0) (edge_end f j 1)
  corners : (j : ℕ) → j < t → CornersFine v (corner f j 0) (corner f j 1) (corner f j 2)

-- more vertices behind, or before
more_behind : (n : ℕ) {v a b : ℕ} → EndsFine v a b → EndsFine (v + n) a b
more_behind n h = record { one = omega (arith, h.one); other = omega (arith, h.other); apart = h.apart }

more_before : (v : ℕ) {n a b : ℕ} → EndsFine n a b → EndsFine (v + n) (v + a) (v + b)
more_before v {n} {a} {b} h = record {
  one = omega (arith, h.one);
  other = omega (arith, h.other);
  apart = λ (q : v + a ≡ v + b). h.apart (omega arith);
}

behind_at : {A : Type 0} (l m : List A) (d : A) (i j : ℕ) → j ≡ length l + i → get_or (l ++ m) j d ≡ get_or m i d
behind_at l m d i j e = ap (λ n. get_or (l ++ m) n d) e ∙ get_or-append-add l m i d

abbrev beside : Scene → ℕ → Scene → Scene
beside f v p = scene_of (f.positions ++ p.positions) (f.edges ++ map (λ x. v + x) p.edges) (f.triangles ++ map (λ x. v + x) p.triangles) []

module _ {B : ℕ} {f p : Scene} {v e t n m k : ℕ} (g : Fine B f v e t) (h : Fine B p n m k) where
  near_too : (i : ℕ) → i < 6 * (v + n) → nat_abs (get_or (f.positions ++ p.positions) i (pos 0)) ≤ B
  near_too i l = go (dec_lt i (6 * v))
    where
      go : Dec (i < 6 * v) → nat_abs (get_or (f.positions ++ p.positions) i (pos 0)) ≤ B
      go (yes y) = rw (get_or-append f.positions p.positions (pos 0) i (omega (arith, g.vertices))) (g.near i y)
      go (no y) = rw (behind_at f.positions p.positions (pos 0) (i - 6 * v) i (omega (arith, g.vertices))) (h.near (i - 6 * v) (omega arith))

  moved_at : (l o : List ℕ) (i j : ℕ) → i < length o → j ≡ length l + i → get_or (l ++ map (λ x. v + x) o) j 0 ≡ v + get_or o i 0
  moved_at l o i j y q = behind_at l (map (λ x. v + x) o) 0 i j q ∙ map_at (λ x. v + x) o i 0 0 y

  ends_too : (j : ℕ) → j < e + m → EndsFine (v + n) (edge_end (beside f v p) j 0) (edge_end (beside f v p) j 1)
  ends_too j l = go (dec_lt j e)
    where
      go : Dec (j < e) → EndsFine (v + n) (edge_end (beside f v p) j 0) (edge_end (beside f v p) j 1)
      go (yes y) =
          rw (get_or-append f.edges (map (λ x. v + x) p.edges) 0 (2 * j + 0) (omega (arith, g.edges)), get_or-append f.edges (map (λ x. v + x) p.edges) 0 (2 * j + 1) (omega (arith, g.edges)))
          (more_behind n (g.ends j y))
      go (no y) =
          rw (moved_at f.edges p.edges (2 * (j - e) + 0) (2 * j + 0) (omega (arith, h.edges)) (omega (arith, g.edges)), moved_at f.edges p.edges (2 * (j - e) + 1) (2 * j + 1) (omega (arith, h.edges)) (omega (arith, g.edges)))
          (more_before v (h.ends (j - e) (omega arith)))

  corners_too : (j : ℕ) → j < t + k → CornersFine (v + n) (corner (beside f v p) j 0) (corner (beside f v p) j 1) (corner (beside f v p) j 2)
  corners_too j l = go (dec_lt j t)
    where
      go : Dec (j < t) → CornersFine (v + n) (corner (beside f v p) j 0) (corner (beside f v p) j 1) (corner (beside f v p) j 2)
      go (yes y) =
          let c = g.corners j y in
          rw (get_or-append f.triangles (map (λ x. v + x) p.triangles) 0 (3 * j + 0) (omega (arith, g.triangles)), get_or-append f.triangles (map (λ x. v + x) p.triangles) 0 (3 * j + 1) (omega (arith, g.triangles)), get_or-append f.triangles (map (λ x. v + x) p.triangles) 0 (3 * j + 2) (omega (arith, g.triangles)))
          (record { one = more_behind n c.one; two = more_behind n c.two; three = more_behind n c.three })
      go (no y) =
          let c = h.corners (j - t) (omega arith) in
          rw (moved_at f.triangles p.triangles (3 * (j - t) + 0) (3 * j + 0) (omega (arith, h.triangles)) (omega (arith, g.triangles)), moved_at f.triangles p.triangles (3 * (j - t) + 1) (3 * j + 1) (omega (arith, h.triangles)) (omega (arith, g.triangles)), moved_at f.triangles p.triangles (3 * (j - t) + 2) (3 * j + 2) (omega (arith, h.triangles)) (omega (arith, g.triangles)))
          (record { one = more_before v c.one; two = more_before v c.two; three = more_before v c.three })

  beside_fine : Fine B (beside f v p) (v + n) (e + m) (t + k)
  beside_fine = record {
    vertices = omega (arith, length-append f.positions p.positions, g.vertices, h.vertices);
    edges = omega (arith, length-append f.edges (map (λ x. v + x) p.edges), length-map p.edges (λ x. v + x), g.edges, h.edges);
    triangles = omega (arith, length-append f.triangles (map (λ x. v + x) p.triangles), length-map p.triangles (λ x. v + x), g.triangles, h.triangles);
    near = near_too;
    ends = ends_too;
    corners = corners_too;
  }

accepted_fine : (B : ℕ) (ps : List ℤ) (es ts : List ℕ) (v e t : ℕ) → length ps ≡ 6 * v → length es ≡ 2 * e → length ts ≡ 3 * t
    → AcceptedWithin B (scene_of ps es ts []) → Fine B (scene_of ps es ts []) v e t
unfolding stood_for
accepted_fine B ps es ts v e t long long_edges long_triangles a =
    let s : Scene = scene_of ps es ts [] in
    record {
      vertices = long;
      edges = long_edges;
      triangles = long_triangles;
      near = λ i h. ltb-false B _ (none_passes (λ i. beyond B (get_or ps i (pos 0))) (length ps) a.in_range i (omega arith));
      ends = λ j h.
          let there : j < edge_count s = omega arith in
          let below : (k : ℕ) → k < 2 → edge_end s j k < v = λ k l. omega (arith, accepted_end a j k there l) in
          record {
            one = below 0 (omega arith);
            other = below 1 (omega arith);
            apart = eqb-false _ _ (ends_differ s a.distinct j there).0.0;
          };
      corners = λ j h.
          let there : j < triangle_count s = omega arith in
          let below : (k : ℕ) → k < 3 → corner s j k < v = λ k l. omega (arith, accepted_corner a j k there l) in
          let d = corners_differ s a.distinct j there in
          record {
            one = record { one = below 0 (omega arith); other = below 1 (omega arith); apart = eqb-false _ _ d.0.0 };
            two = record { one = below 1 (omega arith); other = below 2 (omega arith); apart = eqb-false _ _ d.1.0.0 };
            three = record { one = below 0 (omega arith); other = below 2 (omega arith); apart = eqb-false _ _ d.0.1.0 };
          };
    }

module _ (B : ℕ) (ps : List ℤ) (es ts : List ℕ) (v e t : ℕ) (g : Fine B (scene_of ps es ts []) v e t) where
  abbrev whole : Scene
  whole = scene_of ps es ts []

  fine_shape : v ≤ vertex_limit → e ≤ edge_limit → t ≤ triangle_limit → wrong_shape whole ≡ false
  fine_shape few few_edges few_triangles =
      rw (eq-eqb (length ps % 6) 0 (omega (arith, g.vertices)), eq-eqb (length es % 2) 0 (omega (arith, g.edges)), eq-eqb (length ts % 3) 0 (omega (arith, g.triangles)), le-ltb vertex_limit (vertex_count whole) (omega (arith, g.vertices)), le-ltb edge_limit (edge_count whole) (omega (arith, g.edges)), le-ltb triangle_limit (triangle_count whole) (omega (arith, g.triangles)))
      refl

  fine_range : reaches_beyond B whole ≡ false
  fine_range = none_below (λ i. beyond B (get_or ps i (pos 0))) (length ps) (λ i h. le-ltb B _ (g.near i (omega (arith, g.vertices))))

  below_count : {a : ℕ} → a < v → a < vertex_count whole
  below_count h = omega (arith, g.vertices)

  fine_known : unknown_vertex whole ≡ false
  unfolding some_below
  fine_known =
      rw (
        all_known (vertex_count whole) 2 e es (omega arith) g.edges (λ j k l.
            let h = g.ends j l in
            of_two (λ x. x < vertex_count whole) (edge_end whole j) (below_count h.one, (below_count h.other, tt)) k),
        all_known (vertex_count whole) 3 t ts (omega arith) g.triangles (λ j k l.
            let h = g.corners j l in
            of_three (λ x. x < vertex_count whole) (corner whole j) (below_count h.one.one, (below_count h.one.other, (below_count h.two.other, tt))) k),
      )
      refl

  fine_distinct : repeated_vertex whole ≡ false
  unfolding stood_for
  fine_distinct =
      rw (none_below (twice_in_edge whole) (edge_count whole) edge, none_below (twice_in_triangle whole) (triangle_count whole) triangle) refl
    where
      edge : (j : ℕ) → j < edge_count whole → twice_in_edge whole j ≡ false
      edge j h = ne_eqb _ _ (g.ends j (omega (arith, g.edges))).apart

      triangle : (j : ℕ) → j < triangle_count whole → twice_in_triangle whole j ≡ false
      triangle j h =
          let c = g.corners j (omega (arith, g.triangles)) in
          rw (ne_eqb _ _ c.one.apart, ne_eqb _ _ c.three.apart, ne_eqb _ _ c.two.apart) refl

  fine_accepted : v ≤ vertex_limit → e ≤ edge_limit → t ≤ triangle_limit → AcceptedWithin B whole
  fine_accepted few few_edges few_triangles = record {
    shapely = fine_shape few few_edges few_triangles;
    in_range = fine_range;
    known = fine_known;
    sewn_well = none_broken whole refl;
    distinct = fine_distinct;
  }

record FineUpTo (B : ℕ) (f : Scene) (n : ℕ) : Type 0 where
  many_edges : ℕ
  many_triangles : ℕ
  fine : Fine B f (4 * n) many_edges many_triangles
  few : many_edges ≤ 2 * n
  fewer : many_triangles ≤ n

module _ {s : Scene} (mesh : Mesh s) (B : ℕ) where
  alone_fine : (x : Pair) (a : Apart s x.kind x.first x.second) → ((v : ℕ) → OneOf (vertices_of s x.kind x.first x.second) v → InRange B s v)
      → Fine B (alone_of s x) 4 (edges_in x) (triangles_in x)
  alone_fine x a range =
      let vs = four_of s x.kind x.first x.second in
      let es = edges_of x.kind x.first x.second in
      let ts = triangles_of x.kind x.first x.second in
      let many : length vs ≡ 4 = sym (vertices_many s vs es ts) ∙ four_vertices mesh x.kind x.first x.second a in
      accepted_fine B _ _ _ 4 (edges_in x) (triangles_in x) (omega (arith, positions_long s vs es ts, many)) (edges_long s vs es ts) (triangles_long s vs es ts)
      (alone_is_accepted mesh x.kind x.first x.second a B range)

  all_fine : (ps : List ℤ) (es ts : List ℕ) (n v : ℕ) → v ≡ 4 * n → FineUpTo B (scene_of ps es ts []) n → (xs : List Pair) → AllApart s xs → AllNear B s xs
      → FineUpTo B (scene_of (ps ++ positions_of s xs) (es ++ edges_from s v xs) (ts ++ triangles_from s v xs) []) (n + length xs)
  unfolding AllApart AllNear positions_of edges_from triangles_from
  all_fine ps es ts n v four fine [] apart near =
      subst (λ (w : Scene). FineUpTo B w (n + 0))
      (λ i. scene_of (sym (append-nil ps) i) (sym (append-nil es) i) (sym (append-nil ts) i) [])
      (subst (λ (m : ℕ). FineUpTo B (scene_of ps es ts []) m) (omega arith) fine)
  all_fine ps es ts n v four fine (x ∷ xs) apart near =
      let own : Scene = alone_of s x in
      let parts = few_parts x.kind x.first x.second in
      let step : FineUpTo B (scene_of (ps ++ own.positions) (es ++ map (λ y. v + y) own.edges) (ts ++ map (λ y. v + y) own.triangles) []) (n + 1) =
      record {
        many_edges = fine.many_edges + edges_in x;
        many_triangles = fine.many_triangles + triangles_in x;
        fine =
            subst (λ (m : ℕ). Fine B (scene_of (ps ++ own.positions) (es ++ map (λ y. v + y) own.edges) (ts ++ map (λ y. v + y) own.triangles) []) m (fine.many_edges + edges_in x) (fine.many_triangles + triangles_in x))
            (omega arith)
            (beside_fine (subst (λ (m : ℕ). Fine B (scene_of ps es ts []) m fine.many_edges fine.many_triangles) (sym four) fine.fine) (alone_fine x apart.0 near.0));
        few = omega (arith, parts.0, fine.few);
        fewer = omega (arith, parts.1, fine.fewer);
      } in
      let later = all_fine (ps ++ own.positions) (es ++ map (λ y. v + y) own.edges) (ts ++ map (λ y. v + y) own.triangles) (n + 1) (v + 4) (omega arith) step xs apart.1 near.1 in
      subst (λ (m : ℕ). FineUpTo B (scene_of (ps ++ (own.positions ++ positions_of s xs)) (es ++ (map (λ y. v + y) own.edges ++ edges_from s (v + 4) xs)) (ts ++ (map (λ y. v + y) own.triangles ++ triangles_from s (v + 4) xs)) []) m) (omega arith)
      (subst (λ (w : Scene). FineUpTo B w (n + 1 + length xs))
      (λ i. scene_of (append_assoc ps own.positions (positions_of s xs) i) (append_assoc es (map (λ y. v + y) own.edges) (edges_from s (v + 4) xs) i) (append_assoc ts (map (λ y. v + y) own.triangles) (triangles_from s (v + 4) xs) i) [])
      later)

  none_fine : FineUpTo B (scene_of [] [] [] []) 0
  none_fine = record {
    many_edges = 0;
    many_triangles = 0;
    fine = record { vertices = refl; edges = refl; triangles = refl; near = λ i h. absurd (omega arith); ends = λ j h. absurd (omega arith); corners = λ j h. absurd (omega arith) };
    few = omega arith;
    fewer = omega arith;
  }

  -- the scene is accepted
  pub together_is_accepted : (xs : List Pair) → length xs ≤ 128 → AllApart s xs → AllNear B s xs → AcceptedWithin B (together s xs)
  together_is_accepted xs room apart near =
      let f = all_fine [] [] [] 0 0 refl none_fine xs apart near in
      fine_accepted B (positions_of s xs) (edges_from s 0 xs) (triangles_from s 0 xs) (4 * (0 + length xs)) f.many_edges f.many_triangles f.fine
      (omega arith) (omega (arith, f.few)) (omega (arith, f.fewer))
