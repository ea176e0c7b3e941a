-- A scene that writes the ends of its edges and the corners of its triangles in another order passes the same checks: it is refused with the
-- number that the first is, and accepted if the first is.
use Rattle.std.specs.Prelude.{ℕ, zero, suc, ◌+◌, ◌*◌, ◌/◌, ◌%◌, ◌<◌, Bool, true, false, ◌||◌, List, [], ◌∷◌, ◌≡◌, refl, leb, ℤ, length, get_or}
use Rattle.std.proofs.Common.{sym, ◌∙◌, ap, ap₂, subst, arith, mul_comm, div-lt_iff_lt-mul, mod-lt, eqb-true}
use Rattle.std.proofs.Math.Nat.{div-add-mod}
use Rattle.std.proofs.lemmas.Bool.{lt-leb, not-false}
use Rattle.meaning.specs.Scene.{Scene, scene_of, Accepted, vertex_count, edge_count, triangle_count, edge_end, corner, uneven, over_size, wrong_shape, out_of_range, unknown_in, unknown_vertex, broken_seam, same, some_below, twice_in_edge, twice_in_triangle, repeated_vertex}
use Rattle.meaning.specs.Refusals.{Outcome}
use Rattle.theory.specs.Bounds.{Every}
use Rattle.theory.specs.Rearranged.{Rearranged, unmoved, moved, every_exchanged}
use Rattle.theory.specs.Written.{ends_written, corners_written, Different, different_rearranged}
use Rattle.theory.specs.Rewritten.{Rewritten, rewritten_back}
use Rattle.answers.specs.Below.{or_left, or_rest, none_below, none_passes}
use Rattle.scene_checks.specs.Facts.{edge_inside, triangle_inside, known_inside}
use Rattle.answers.specs.Deciding.{holds_or_not}
use Rattle.demands.specs.Demand1.{SceneRows}

-- ---- what the checks say of one scene

-- two numbers to each edge, three to each triangle
whole_edges : (s : Scene) → uneven s ≡ false → length s.edges ≡ 2 * edge_count s
whole_edges s e =
    let over : length s.edges % 2 ≡ 0 = eqb-true _ 0 (not-false _ (search (or_left, or_rest))) in
    omega arith

whole_triangles : (s : Scene) → uneven s ≡ false → length s.triangles ≡ 3 * triangle_count s
whole_triangles s e =
    let over : length s.triangles % 3 ≡ 0 = eqb-true _ 0 (not-false _ (search (or_left, or_rest))) in
    omega arith

-- no vertex twice in one edge or triangle
pub ends_differ : (s : Scene) → repeated_vertex s ≡ false → (j : ℕ) → j < edge_count s → Different s (ends_written s j)
ends_differ s e j h = ((none_passes (twice_in_edge s) (edge_count s) (search or_left) j h, tt), (tt, tt))

pub corners_differ : (s : Scene) → repeated_vertex s ≡ false → (j : ℕ) → j < triangle_count s → Different s (corners_written s j)
corners_differ s e j h =
    let once : twice_in_triangle s j ≡ false = none_passes (twice_in_triangle s) (triangle_count s) (search (or_left, or_rest)) j h in
    ((search (or_left, or_rest), (search (or_left, or_rest), tt)), ((search (or_left, or_rest), tt), (tt, tt)))

-- so in an accepted scene
pub different_ends : {s : Scene} → Accepted s → (j : ℕ) → j < edge_count s → Different s (ends_written s j)
different_ends {s} a = ends_differ s a.distinct

pub different_corners : {s : Scene} → Accepted s → (j : ℕ) → j < triangle_count s → Different s (corners_written s j)
different_corners {s} a = corners_differ s a.distinct

-- ---- and so of one written in another order

pub every_rearranged : {A : Type 0} (P : A → Type 0) {k l : List A} → Rearranged k l → Every P k → Every P l
every_rearranged P unmoved h = h
every_rearranged P (moved e r) h = every_rearranged P r (every_exchanged P e h)

pub of_two : (P : ℕ → Type 0) (x : ℕ → ℕ) → Every P (x 0 ∷ x 1 ∷ []) → (k : ℕ) → k < 2 → P (x k)
of_two P x h zero l = h.0
of_two P x h (suc zero) l = h.1.0
of_two P x h (suc (suc k)) l = absurd (omega arith)

pub of_three : (P : ℕ → Type 0) (x : ℕ → ℕ) → Every P (x 0 ∷ x 1 ∷ x 2 ∷ []) → (k : ℕ) → k < 3 → P (x k)
of_three P x h zero l = h.0
of_three P x h (suc zero) l = h.1.0
of_three P x h (suc (suc zero)) l = h.1.1.0
of_three P x h (suc (suc (suc k))) l = absurd (omega arith)

-- a list of m parts of w numbers each, all of them below n
pub all_known : (n w m : ℕ) (l : List ℕ) → 0 < w → length l ≡ w * m → ((j k : ℕ) → j < m → k < w → get_or l (w * j + k) 0 < n) → unknown_in n l ≡ false
all_known n w m l some long each =
    none_below (λ i. leb n (get_or l i 0)) (length l)
    (λ i h.
    let below : i < m * w = rw (mul_comm m w, ← long) h in
    lt-leb n (get_or l i 0)
    (subst (λ k. get_or l k 0 < n) (div-add-mod i w) (each (i / w) (i % w) ((div-lt_iff_lt-mul some).1 below) (mod-lt i some))))

module _ {s t : Scene} (h : Rewritten s t) where
  edges_many : edge_count t ≡ edge_count s
  edges_many = rw h.edges_long

  triangles_many : triangle_count t ≡ triangle_count s
  triangles_many = rw h.triangles_long

  vertices_many : vertex_count t ≡ vertex_count s
  vertices_many = rw h.positions

  ends_known : uneven s ≡ false → unknown_in (vertex_count s) s.edges ≡ false → unknown_in (vertex_count t) t.edges ≡ false
  ends_known shapely e =
      let known : (j k : ℕ) → j < edge_count s → k < 2 → edge_end s j k < vertex_count s =
      λ j k below l. known_inside (vertex_count s) s.edges e (2 * j + k) (edge_inside s j k below l) in
      rw vertices_many
      (all_known (vertex_count s) 2 (edge_count s) t.edges (omega arith) (h.edges_long ∙ whole_edges s shapely)
      (λ j k below.
      of_two (λ v. v < vertex_count s) (edge_end t j)
      (every_rearranged (λ v. v < vertex_count s) (h.edges j below) (known j 0 below (omega arith), (known j 1 below (omega arith), tt)))
      k))

  corners_known : uneven s ≡ false → unknown_in (vertex_count s) s.triangles ≡ false → unknown_in (vertex_count t) t.triangles ≡ false
  corners_known shapely e =
      let known : (j k : ℕ) → j < triangle_count s → k < 3 → corner s j k < vertex_count s =
      λ j k below l. known_inside (vertex_count s) s.triangles e (3 * j + k) (triangle_inside s j k below l) in
      rw vertices_many
      (all_known (vertex_count s) 3 (triangle_count s) t.triangles (omega arith) (h.triangles_long ∙ whole_triangles s shapely)
      (λ j k below.
      of_three (λ v. v < vertex_count s) (corner t j)
      (every_rearranged (λ v. v < vertex_count s) (h.triangles j below)
      (known j 0 below (omega arith), (known j 1 below (omega arith), (known j 2 below (omega arith), tt))))
      k))

  seams_known : unknown_in (vertex_count s) s.seams ≡ false → unknown_in (vertex_count t) t.seams ≡ false
  seams_known e = ap₂ unknown_in vertices_many h.seams ∙ e

  -- no vertex number is unknown in t if none is in s
  known_too : uneven s ≡ false → unknown_vertex s ≡ false → unknown_vertex t ≡ false
  known_too shapely e =
      rw (ends_known shapely (or_left (unknown_in (vertex_count s) s.edges) (unknown_in (vertex_count s) s.triangles) first), corners_known shapely (or_rest (unknown_in (vertex_count s) s.edges) (unknown_in (vertex_count s) s.triangles) first), seams_known last)
    where
      first : unknown_in (vertex_count s) s.edges || unknown_in (vertex_count s) s.triangles ≡ false
      first = or_left (unknown_in (vertex_count s) s.edges || unknown_in (vertex_count s) s.triangles) (unknown_in (vertex_count s) s.seams) e

      last : unknown_in (vertex_count s) s.seams ≡ false
      last = or_rest (unknown_in (vertex_count s) s.edges || unknown_in (vertex_count s) s.triangles) (unknown_in (vertex_count s) s.seams) e

  -- the seams are the same, so vertices are compared alike
  same_alike : (a b : ℕ) → same t a b ≡ same s a b
  same_alike a b = ap (λ (w : List ℕ). same (scene_of [] [] [] w) a b) h.seams

  ends_once : repeated_vertex s ≡ false → some_below (edge_count t) (twice_in_edge t) ≡ false
  ends_once e =
      none_below (twice_in_edge t) (edge_count t)
      (λ j below. let here : j < edge_count s = omega (arith, edges_many) in same_alike (edge_end t j 0) (edge_end t j 1) ∙ (different_rearranged s (h.edges j here) (ends_differ s e j here)).0.0)

  corners_once : repeated_vertex s ≡ false → some_below (triangle_count t) (twice_in_triangle t) ≡ false
  corners_once e =
      none_below (twice_in_triangle t) (triangle_count t)
      (λ j below.
      let here : j < triangle_count s = omega (arith, triangles_many) in
      let d = different_rearranged s (h.triangles j here) (corners_differ s e j here) in
      rw (same_alike (corner t j 0) (corner t j 1), same_alike (corner t j 0) (corner t j 2), same_alike (corner t j 1) (corner t j 2), d.0.0, d.0.1.0, d.1.0.0))

  -- no vertex stands twice in t if none does in s
  once_too : repeated_vertex s ≡ false → repeated_vertex t ≡ false
  once_too e = rw (ends_once e, corners_once e)

-- ---- so each check says the same of both

pub both_or_neither : (a b : Bool) → (a ≡ false → b ≡ false) → (b ≡ false → a ≡ false) → b ≡ a
both_or_neither true true f g = refl
both_or_neither true false f g = sym (g refl)
both_or_neither false b f g = f refl

-- two scenes of which 1, 2, 3, 15 and 4 say the same
pub record SameChecks (s t : Scene) : Type 0 where
  pub shape : wrong_shape t ≡ wrong_shape s
  pub range : out_of_range t ≡ out_of_range s
  pub known : wrong_shape s ≡ false → unknown_vertex t ≡ unknown_vertex s
  pub sewn : broken_seam t ≡ broken_seam s
  pub repeated : repeated_vertex t ≡ repeated_vertex s

-- where one of them is refused, so is the other
pub refused_as : {s t : Scene} → SameChecks s t → {A : Type 0} {o o' : Outcome A} → SceneRows s o → SceneRows t o' → (Accepted s → o ≡ o') → o ≡ o'
refused_as {s} {t} h p q then =
    holds_or_not (wrong_shape s)
    (λ e. p.no1.1 e ∙ sym (q.no1.1 (h.shape ∙ e)))
    (λ h1.
    let k1 = h.shape ∙ h1 in
    holds_or_not (out_of_range s)
    (λ e. p.no2.1 (h1, e) ∙ sym (q.no2.1 (k1, h.range ∙ e)))
    (λ h2.
    let k2 = h.range ∙ h2 in
    holds_or_not (unknown_vertex s)
    (λ e. p.no3.1 (h1, (h2, e)) ∙ sym (q.no3.1 (k1, (k2, h.known h1 ∙ e))))
    (λ h3.
    let k3 = h.known h1 ∙ h3 in
    holds_or_not (broken_seam s)
    (λ e. p.no15.1 (h1, (h2, (h3, e))) ∙ sym (q.no15.1 (k1, (k2, (k3, h.sewn ∙ e)))))
    (λ h4.
    let k4 = h.sewn ∙ h4 in
    holds_or_not (repeated_vertex s)
    (λ e. p.no4.1 (h1, (h2, (h3, (h4, e)))) ∙ sym (q.no4.1 (k1, (k2, (k3, (k4, h.repeated ∙ e))))))
    (λ h5. then (record { shapely = h1; in_range = h2; known = h3; sewn_well = h4; distinct = h5 }))))))

module _ {s t : Scene} (h : Rewritten s t) where
  -- 1: the lengths are the same
  pub shape_alike : wrong_shape t ≡ wrong_shape s
  shape_alike = rw (h.positions, h.edges_long, h.triangles_long, h.seams)

  -- 2: the coordinates are the same
  pub range_alike : out_of_range t ≡ out_of_range s
  range_alike = rw h.positions

  -- 3, where 1 does not refuse: in a list of the wrong length the last numbers are of no edge or triangle
  pub uneven_alike : uneven t ≡ uneven s
  uneven_alike = rw (h.positions, h.edges_long, h.triangles_long, h.seams)

  pub known_in_whole : uneven s ≡ false → unknown_vertex t ≡ unknown_vertex s
  known_in_whole whole =
      both_or_neither (unknown_vertex s) (unknown_vertex t) (known_too h whole) (known_too (rewritten_back h) (uneven_alike ∙ whole))

  pub known_alike : wrong_shape s ≡ false → unknown_vertex t ≡ unknown_vertex s
  known_alike shapely = known_in_whole (or_left (uneven s) (over_size s) shapely)

  -- 15: the seams and the positions are the same
  pub sewn_alike : broken_seam t ≡ broken_seam s
  sewn_alike = ap₂ (λ (p : List ℤ) (w : List ℕ). broken_seam (scene_of p [] [] w)) h.positions h.seams

  -- 4: the ends of an edge and the corners of a triangle are the same
  pub repeated_alike : repeated_vertex t ≡ repeated_vertex s
  repeated_alike = both_or_neither (repeated_vertex s) (repeated_vertex t) (once_too h) (once_too (rewritten_back h))

  -- so t is accepted if s is
  pub rewritten_accepted : Accepted s → Accepted t
  rewritten_accepted a = record {
    shapely = shape_alike ∙ a.shapely;
    in_range = range_alike ∙ a.in_range;
    known = known_alike a.shapely ∙ a.known;
    sewn_well = sewn_alike ∙ a.sewn_well;
    distinct = repeated_alike ∙ a.distinct;
  }

  same_checks : SameChecks s t
  same_checks = record { shape = shape_alike; range = range_alike; known = known_alike; sewn = sewn_alike; repeated = repeated_alike }

  pub refused_alike : {A : Type 0} {o o' : Outcome A} → SceneRows s o → SceneRows t o' → (Accepted s → o ≡ o') → o ≡ o'
  refused_alike = refused_as same_checks
