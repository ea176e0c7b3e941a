-- The checks of a record go by counts alone: below a scene that passes them, 10, 11, 2 and 3 of every record, and the rest of each but a
-- seam, are what the record's own numbers say.
use Rattle.std.specs.Prelude.{Bool, true, false, ◌||◌, ◌≡◌, ℕ, ◌+◌, ◌/◌, ◌≤◌, ◌<◌, ltb, ℤ, pos, get_or}
use mathlib.Core.List.{List, [], ◌∷◌, ◌++◌, append-nil}
use Rattle.std.proofs.Common.{⊎_elim, sym, ◌∙◌, arith}
use Rattle.std.proofs.Math.Path.{refl, ap}
use Rattle.std.proofs.Math.Dec.{leb, eqb}
use Rattle.std.proofs.Math.ListN.{length}
use borrow.Author.Tests.{ltb-true, ltb-false, leb-true, leb-false, lt-ltb, le-ltb, lt-leb}
use Rattle.whole.specs.Vector.{Vector}
use Rattle.sequences.specs.Pick.{either}
use Rattle.sequences.specs.Parts.{none_of}
use Rattle.answers.specs.Below.{or_left, or_rest, none_passes, none_below}
use Rattle.meaning.specs.Limits.{vertex_limit, edge_limit, triangle_limit, seam_limit}
use Rattle.meaning.specs.Scene.{Scene, scene_of, some_below, stood_for, vertex_count, over_size, outside, out_of_range, unknown_in, unknown_vertex, broken_seam, twice_in_edge, twice_in_triangle, repeated_vertex}
use Rattle.meaning.specs.Text as Text
use Rattle.meaning.specs.Text.{Entry, vertex, edge, triangle, seam, coordinates, coordinates_in, ends_in, corners_in, seam_in, scene_with}
use Rattle.meaning.specs.declared.SceneCounts.{SceneCounts}
use Rattle.text_line.specs.Reading.{sort_of}
use Rattle.text_line.specs.Above.{Above, Lengths, counted_by, lengths_more}
use Rattle.text_line.specs.Adding.{any_of, some_behind, one, edges_more, triangles_more}

-- ---- a scene with a record of each kind

module _ (s : Scene) where
  pub with_vertex : (p q : Vector) → scene_with s (vertex p q) ≡ scene_of (s.positions ++ coordinates p q) s.edges s.triangles s.seams
  unfolding coordinates_in ends_in corners_in seam_in
  with_vertex p q = λ i.
      scene_of (s.positions ++ coordinates p q) (append-nil s.edges i) (append-nil s.triangles i) (append-nil s.seams i)

  pub with_edge : (a b : ℕ) → scene_with s (edge a b) ≡ scene_of s.positions (s.edges ++ (a ∷ b ∷ [])) s.triangles s.seams
  unfolding coordinates_in ends_in corners_in seam_in
  with_edge a b = λ i.
      scene_of (append-nil s.positions i) (s.edges ++ (a ∷ b ∷ [])) (append-nil s.triangles i) (append-nil s.seams i)

  pub with_triangle : (a b d : ℕ) → scene_with s (triangle a b d) ≡ scene_of s.positions s.edges (s.triangles ++ (a ∷ b ∷ d ∷ [])) s.seams
  unfolding coordinates_in ends_in corners_in seam_in
  with_triangle a b d = λ i.
      scene_of (append-nil s.positions i) (append-nil s.edges i) (s.triangles ++ (a ∷ b ∷ d ∷ [])) (append-nil s.seams i)

  pub with_seam : (a b : ℕ) → scene_with s (seam a b) ≡ scene_of s.positions s.edges s.triangles (s.seams ++ (a ∷ b ∷ []))
  unfolding coordinates_in ends_in corners_in seam_in
  with_seam a b = λ i.
      scene_of (append-nil s.positions i) (append-nil s.edges i) (append-nil s.triangles i) (s.seams ++ (a ∷ b ∷ []))

-- ---- counts

-- a list has an element where its count is above 0
some_in : (m n : ℕ) → (0 < m → 0 < n) → (0 < n → 0 < m) → ltb 0 m ≡ ltb 0 n
some_in m n f g =
    ⊎_elim (λ t. lt-ltb 0 m (g (ltb-true 0 n t)) ∙ sym t)
    (λ t. ⊎_elim (λ y. absurd (omega (arith, ltb-false 0 n t, f (ltb-true 0 m y)))) (λ y. y ∙ sym t) (either (ltb 0 m)))
    (either (ltb 0 n))

one_more : (a n : ℕ) → ltb a (n + 1) ≡ leb a n
one_more a n =
    ⊎_elim (λ t. lt-ltb a (n + 1) (omega (arith, leb-true a n t)) ∙ sym t)
    (λ t. le-ltb a (n + 1) (omega (arith, leb-false a n t)) ∙ sym t)
    (either (leb a n))

only_first : (x : Bool) → x || false || false || false ≡ x
only_first true = refl
only_first false = refl

only_second : (x : Bool) → false || x || false || false ≡ x
only_second true = refl
only_second false = refl

only_third : (x : Bool) → false || false || x || false ≡ x
only_third true = refl
only_third false = refl

only_middle : (x : Bool) → false || x || false ≡ x
only_middle true = refl
only_middle false = refl

front_two : (x : Bool) → x || false || false ≡ x
front_two true = refl
front_two false = refl

front_one : (x : Bool) → x || false ≡ x
front_one true = refl
front_one false = refl

module _ {s : Scene} {c : SceneCounts} (l : Lengths s c) where
  over_by : over_size s ≡ ltb vertex_limit c.vertices || ltb edge_limit c.edges || ltb triangle_limit c.triangles || ltb seam_limit c.seams
  over_by =
      let v : length s.positions / 6 ≡ c.vertices = omega (arith, l.positions) in
      let e : length s.edges / 2 ≡ c.edges = omega (arith, l.edges) in
      let t : length s.triangles / 3 ≡ c.triangles = omega (arith, l.triangles) in
      let w : length s.seams / 2 ≡ c.seams = omega (arith, l.seams) in
      cc

  count_is : vertex_count s ≡ c.vertices
  count_is = omega (arith, l.positions)

-- a number below n is below a larger one
unknown_wider : (n m : ℕ) (l : List ℕ) → n ≤ m → unknown_in n l ≡ false → unknown_in m l ≡ false
unknown_wider n m l h e =
    none_below (λ i. leb m (get_or l i 0)) (length l)
    (λ i k. lt-leb m (get_or l i 0) (omega (arith, leb-false n (get_or l i 0) (none_passes (λ x. leb n (get_or l x 0)) (length l) e i k))))

two_behind : (t : ℕ → Bool) (l : List ℕ) (a b : ℕ) → some_below (length l) (λ i. t (get_or l i 0)) ≡ false
    → some_below (length (l ++ (a ∷ b ∷ []))) (λ i. t (get_or (l ++ (a ∷ b ∷ [])) i 0)) ≡ t a || t b
unfolding any_of
two_behind t l a b e = some_behind t 0 l (a ∷ b ∷ []) e ∙ last (t a) (t b)
  where
    last : (x y : Bool) → x || (y || false) ≡ x || y
    last true y = refl
    last false true = refl
    last false false = refl

three_behind : (t : ℕ → Bool) (l : List ℕ) (a b d : ℕ) → some_below (length l) (λ i. t (get_or l i 0)) ≡ false
    → some_below (length (l ++ (a ∷ b ∷ d ∷ []))) (λ i. t (get_or (l ++ (a ∷ b ∷ d ∷ [])) i 0)) ≡ t a || t b || t d
unfolding any_of
three_behind t l a b d e = some_behind t 0 l (a ∷ b ∷ d ∷ []) e ∙ last (t a) (t b) (t d)
  where
    last : (x y z : Bool) → x || (y || (z || false)) ≡ x || y || z
    last true y z = refl
    last false true z = refl
    last false false true = refl
    last false false false = refl

six_behind : (t : ℤ → Bool) (l : List ℤ) (p q : Vector) → some_below (length l) (λ i. t (get_or l i (pos 0))) ≡ false
    → some_below (length (l ++ coordinates p q)) (λ i. t (get_or (l ++ coordinates p q) i (pos 0)))
    ≡ t p.x || t p.y || t p.z || t q.x || t q.y || t q.z
unfolding any_of
six_behind t l p q e = some_behind t (pos 0) l (coordinates p q) e ∙ last (t p.x) (t p.y) (t p.z) (t q.x) (t q.y) (t q.z)
  where
    end : (z : Bool) → z || false ≡ z
    end true = refl
    end false = refl

    last : (a b d e f g : Bool) → a || (b || (d || (e || (f || (g || false))))) ≡ a || b || d || e || f || g
    last true b d e f g = refl
    last false true d e f g = refl
    last false false true e f g = refl
    last false false false true f g = refl
    last false false false false true g = refl
    last false false false false false g = end g

-- ---- what the checks of a record come to: 10, 11, 2, 3; and 15 and 4 where it is not late

pub record Comes (s : Scene) (r : Entry) (l x f u t : Bool) : Type 0 where
  pub late : Text.late s r ≡ l
  pub over : over_size (scene_with s r) ≡ x
  pub range : out_of_range (scene_with s r) ≡ f
  pub known : unknown_vertex (scene_with s r) ≡ u
  pub sewn : l ≡ false → broken_seam (scene_with s r) ≡ false
  pub twice : l ≡ false → repeated_vertex (scene_with s r) ≡ t

module _ {s : Scene} {c : SceneCounts} (a : Above s c) where
  some_edges : ltb 0 (length s.edges) ≡ ltb 0 c.edges
  some_edges = some_in (length s.edges) c.edges (λ h. omega (arith, a.lengths.edges)) (λ h. omega (arith, a.lengths.edges))

  some_triangles : ltb 0 (length s.triangles) ≡ ltb 0 c.triangles
  some_triangles = some_in (length s.triangles) c.triangles (λ h. omega (arith, a.lengths.triangles)) (λ h. omega (arith, a.lengths.triangles))

  some_seams : ltb 0 (length s.seams) ≡ ltb 0 c.seams
  some_seams = some_in (length s.seams) c.seams (λ h. omega (arith, a.lengths.seams)) (λ h. omega (arith, a.lengths.seams))

  no_seams : ltb 0 c.seams ≡ false → s.seams ≡ []
  no_seams h = none_of s.seams (omega (arith, a.lengths.seams, ltb-false 0 c.seams h))

  few_vertices_lem : ltb vertex_limit c.vertices ≡ false
  few_vertices_lem = le-ltb vertex_limit c.vertices a.bounded.vertices

  few_edges : ltb edge_limit c.edges ≡ false
  few_edges = le-ltb edge_limit c.edges a.bounded.edges

  few_triangles : ltb triangle_limit c.triangles ≡ false
  few_triangles = le-ltb triangle_limit c.triangles a.bounded.triangles

  few_seams : ltb seam_limit c.seams ≡ false
  few_seams = le-ltb seam_limit c.seams a.bounded.seams

  known_edges : unknown_in (vertex_count s) s.edges ≡ false
  known_edges = let k : unknown_vertex s ≡ false = a.accepted.known in search (or_left, or_rest)

  known_triangles : unknown_in (vertex_count s) s.triangles ≡ false
  known_triangles = let k : unknown_vertex s ≡ false = a.accepted.known in search (or_left, or_rest)

  known_seams : unknown_in (vertex_count s) s.seams ≡ false
  known_seams = let k : unknown_vertex s ≡ false = a.accepted.known in search (or_left, or_rest)

  apart_edges : some_below (length s.edges / 2) (twice_in_edge s) ≡ false
  apart_edges = let k : repeated_vertex s ≡ false = a.accepted.distinct in search (or_left, or_rest)

  apart_triangles : some_below (length s.triangles / 3) (twice_in_triangle s) ≡ false
  apart_triangles = let k : repeated_vertex s ≡ false = a.accepted.distinct in search (or_left, or_rest)

  pub comes_vertex : (p q : Vector) → Comes s (vertex p q) (ltb 0 c.edges || ltb 0 c.triangles || ltb 0 c.seams) (leb vertex_limit c.vertices)
      (outside p.x || outside p.y || outside p.z || outside q.x || outside q.y || outside q.z) false false
  unfolding Text.late counted_by sort_of some_below
  comes_vertex p q =
      let s' : Scene = scene_of (s.positions ++ coordinates p q) s.edges s.triangles s.seams in
      let l : Lengths (scene_with s (vertex p q)) (counted_by c (sort_of (vertex p q))) = lengths_more (vertex p q) a.lengths in
      let more : vertex_count (scene_with s (vertex p q)) ≡ c.vertices + 1 = count_is l in
      let n : vertex_count s' ≡ c.vertices + 1 = ap vertex_count (sym (with_vertex s p q)) ∙ more in
      let m : vertex_count s ≡ c.vertices = count_is a.lengths in
      record {
        late = cc (some_edges, some_triangles, some_seams);
        over = over_by l ∙ cc (one_more vertex_limit c.vertices, few_edges, few_triangles, few_seams, only_first (leb vertex_limit c.vertices));
        range = ap out_of_range (with_vertex s p q) ∙ six_behind outside s.positions p q a.accepted.in_range;
        known = ap unknown_vertex (with_vertex s p q)
            ∙ cc (
              unknown_wider (vertex_count s) (vertex_count s') s.edges (omega (arith, n, m)) known_edges,
              unknown_wider (vertex_count s) (vertex_count s') s.triangles (omega (arith, n, m)) known_triangles,
              unknown_wider (vertex_count s) (vertex_count s') s.seams (omega (arith, n, m)) known_seams,
            );
        sewn = λ h.
            let none : length s.seams / 2 ≡ 0 = omega (arith, a.lengths.seams, ltb-false 0 c.seams (search (or_left, or_rest))) in
            ap broken_seam (with_vertex s p q) ∙ rw none refl;
        twice = λ h. ap repeated_vertex (with_vertex s p q) ∙ a.accepted.distinct;
      }

  pub comes_edge : (i j : ℕ) → Comes s (edge i j) (ltb 0 c.triangles || ltb 0 c.seams) (leb edge_limit c.edges) false
      (leb c.vertices i || leb c.vertices j) (eqb i j)
  unfolding Text.late counted_by sort_of stood_for
  comes_edge i j =
      let l : Lengths (scene_with s (edge i j)) (counted_by c (sort_of (edge i j))) = lengths_more (edge i j) a.lengths in
      let n : vertex_count s ≡ c.vertices = count_is a.lengths in
      record {
        late = cc (some_triangles, some_seams);
        over = over_by l ∙ cc (one_more edge_limit c.edges, few_vertices_lem, few_triangles, few_seams, only_second (leb edge_limit c.edges));
        range = ap out_of_range (with_edge s i j) ∙ a.accepted.in_range;
        known = ap unknown_vertex (with_edge s i j)
            ∙ cc (two_behind (leb (vertex_count s)) s.edges i j known_edges, known_triangles, known_seams, n, front_two (leb c.vertices i || leb c.vertices j));
        sewn = λ h. ap broken_seam (with_edge s i j) ∙ a.accepted.sewn_well;
        twice = λ h.
            let none : s.seams ≡ [] = no_seams (search (or_left, or_rest)) in
            let new : one s.seams i j ≡ eqb i j = rw none refl in
            ap repeated_vertex (with_edge s i j)
            ∙ cc (edges_more s.seams s.edges i j c.edges a.lengths.edges apart_edges, apart_triangles, new, front_one (eqb i j));
      }

  pub comes_triangle : (i j k : ℕ) → Comes s (triangle i j k) (ltb 0 c.seams) (leb triangle_limit c.triangles) false
      (leb c.vertices i || leb c.vertices j || leb c.vertices k) (eqb i j || eqb i k || eqb j k)
  unfolding Text.late counted_by sort_of stood_for
  comes_triangle i j k =
      let l : Lengths (scene_with s (triangle i j k)) (counted_by c (sort_of (triangle i j k))) = lengths_more (triangle i j k) a.lengths in
      let n : vertex_count s ≡ c.vertices = count_is a.lengths in
      record {
        late = some_seams;
        over = over_by l ∙ cc (one_more triangle_limit c.triangles, few_vertices_lem, few_edges, few_seams, only_third (leb triangle_limit c.triangles));
        range = ap out_of_range (with_triangle s i j k) ∙ a.accepted.in_range;
        known = ap unknown_vertex (with_triangle s i j k)
            ∙ cc (three_behind (leb (vertex_count s)) s.triangles i j k known_triangles, known_edges, known_seams, n, only_middle (leb c.vertices i || leb c.vertices j || leb c.vertices k));
        sewn = λ h. ap broken_seam (with_triangle s i j k) ∙ a.accepted.sewn_well;
        twice = λ h.
            let none : s.seams ≡ [] = no_seams h in
            let new : one s.seams i j || one s.seams i k || one s.seams j k ≡ eqb i j || eqb i k || eqb j k = rw none refl in
            ap repeated_vertex (with_triangle s i j k)
            ∙ cc (triangles_more s.seams s.triangles i j k c.triangles a.lengths.triangles apart_triangles, apart_edges, new);
      }

  -- of a seam only up to 3
  pub record SeamComes (i j : ℕ) : Type 0 where
    pub over : over_size (scene_with s (seam i j)) ≡ leb seam_limit c.seams
    pub range : out_of_range (scene_with s (seam i j)) ≡ false
    pub known : unknown_vertex (scene_with s (seam i j)) ≡ leb c.vertices i || leb c.vertices j

  pub comes_seam : (i j : ℕ) → SeamComes i j
  unfolding counted_by sort_of
  comes_seam i j =
      let l : Lengths (scene_with s (seam i j)) (counted_by c (sort_of (seam i j))) = lengths_more (seam i j) a.lengths in
      let n : vertex_count s ≡ c.vertices = count_is a.lengths in
      record {
        over = over_by l ∙ cc (one_more seam_limit c.seams, few_vertices_lem, few_edges, few_triangles);
        range = ap out_of_range (with_seam s i j) ∙ a.accepted.in_range;
        known = ap unknown_vertex (with_seam s i j)
            ∙ cc (two_behind (leb (vertex_count s)) s.seams i j known_seams, known_edges, known_triangles, n);
      }
