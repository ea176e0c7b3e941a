-- A scene is accepted where it is accepted with one record more that is not late: each check that holds of the front of a list holds of the
-- whole list, and two vertices that seams make one stay one with a seam more.
use Rattle.std.specs.Prelude.{Bool, true, not, cond, ◌||◌, ◌≡◌, leb, ltb, eqb, ℤ, pos, get_or}
use Rattle.std.proofs.Math.Bool.{false}
use Rattle.std.proofs.Common.{true≢false, ⊎_elim, sym, ◌∙◌, arith, length-append, get_or-append-add, le-ltb, eq-eqb, eqb-true}
use mathlib.Core.List.{List, [], ◌∷◌, ◌++◌}
use Rattle.std.proofs.Math.Path.{refl, ap, subst}
use Prim.Native.Nat.{ℕ, suc, ◌+◌, ◌*◌, ◌-◌, ◌/◌, ◌<◌}
use Rattle.std.proofs.Math.ListN.{length, get_or-append}
use Rattle.sequences.specs.Pick.{either}
use Rattle.meaning.specs.Limits.{coordinate_limit, vertex_limit, edge_limit, triangle_limit, seam_limit}
use Rattle.meaning.specs.Scene.{Scene, scene_of, Accepted, some_below, stood_for, vertex_count, edge_count, triangle_count, seam_count, sewn, onto, uneven, over_size, wrong_shape, beyond, unknown_in, unknown_vertex, replaced, comes_apart, wrong_seam, broken_seam, twice_in_edge, twice_in_triangle, repeated_vertex}
use Rattle.meaning.specs.Text.{Entry, vertex, edge, triangle, seam, coordinates, scene_with, late}
use Rattle.meaning.specs.declared.SceneCounts.{SceneCounts}
use Rattle.answers.specs.Below.{or_left, or_rest, none_passes, none_below}
use Rattle.scene_seams.specs.OneMore.{broken, stays_broken, broken_alike}
use Rattle.text_line.specs.Reading.{sort_of}
use Rattle.text_line.specs.Above.{Lengths, Bounded, shapely, bounded_by, lengths_more, counted_by}
use Rattle.text_line.specs.Adding.{one, twice_in_two, twice_in_three}
use Rattle.text_line.specs.Checks.{with_vertex, with_edge, with_triangle, with_seam}
use Rattle.saved_demands.specs.Records.{empty}

-- ---- shape

shapely_by : {s : Scene} {c : SceneCounts} → Lengths s c → Bounded c → wrong_shape s ≡ false
shapely_by {s} {c} l b =
    let few : over_size s ≡ false = rw (
      le-ltb vertex_limit (vertex_count s) (omega (arith, l.positions, b.vertices)),
      le-ltb edge_limit (edge_count s) (omega (arith, l.edges, b.edges)),
      le-ltb triangle_limit (triangle_count s) (omega (arith, l.triangles, b.triangles)),
      le-ltb seam_limit (seam_count s) (omega (arith, l.seams, b.seams)),
    ) in
    shapely l few

pub few_of : {s : Scene} → Accepted s → over_size s ≡ false
few_of {s} a = or_rest (uneven s) (over_size s) a.shapely

bounded_before : (c : SceneCounts) (r : Entry) → Bounded (counted_by c (sort_of r)) → Bounded c
unfolding counted_by sort_of
bounded_before c (vertex p q) b = record { vertices = omega (arith, b.vertices); edges = b.edges; triangles = b.triangles; seams = b.seams }
bounded_before c (edge i j) b = record { vertices = b.vertices; edges = omega (arith, b.edges); triangles = b.triangles; seams = b.seams }
bounded_before c (triangle i j k) b = record { vertices = b.vertices; edges = b.edges; triangles = omega (arith, b.triangles); seams = b.seams }
bounded_before c (seam i j) b = record { vertices = b.vertices; edges = b.edges; triangles = b.triangles; seams = omega (arith, b.seams) }

-- ---- the front of a list

some_front : {A : Type 0} (t : A → Bool) (d : A) (l k : List A) → some_below (length (l ++ k)) (λ i. t (get_or (l ++ k) i d)) ≡ false
    → some_below (length l) (λ i. t (get_or l i d)) ≡ false
some_front t d l k e =
    none_below (λ i. t (get_or l i d)) (length l)
    (λ i h.
    ap t (sym (get_or-append l k d i h))
    ∙ none_passes (λ i. t (get_or (l ++ k) i d)) (length (l ++ k)) e i (omega (arith, length-append l k)))

none_unknown : (n : ℕ) (l : List ℕ) → l ≡ [] → unknown_in n l ≡ false
unfolding some_below
none_unknown n l e = ap (unknown_in n) e

twos_front : (w e k : List ℕ) → some_below (length (e ++ k) / 2) (twice_in_two w (e ++ k)) ≡ false → some_below (length e / 2) (twice_in_two w e) ≡ false
twos_front w e k p =
    none_below (twice_in_two w e) (length e / 2)
    (λ j h.
    let same : twice_in_two w (e ++ k) j ≡ twice_in_two w e j =
    cc (get_or-append e k 0 (2 * j + 0) (omega arith), get_or-append e k 0 (2 * j + 1) (omega arith)) in
    sym same ∙ none_passes (twice_in_two w (e ++ k)) (length (e ++ k) / 2) p j (omega (arith, length-append e k)))

threes_front : (w e k : List ℕ) → some_below (length (e ++ k) / 3) (twice_in_three w (e ++ k)) ≡ false → some_below (length e / 3) (twice_in_three w e) ≡ false
threes_front w e k p =
    none_below (twice_in_three w e) (length e / 3)
    (λ j h.
    let same : twice_in_three w (e ++ k) j ≡ twice_in_three w e j =
    cc (get_or-append e k 0 (3 * j + 0) (omega arith), get_or-append e k 0 (3 * j + 1) (omega arith), get_or-append e k 0 (3 * j + 2) (omega arith)) in
    sym same ∙ none_passes (twice_in_three w (e ++ k)) (length (e ++ k) / 3) p j (omega (arith, length-append e k)))

-- ---- one seam more

-- a vertex with one seam more: where its vertex is the seam's first, the second
stood_more : (w : List ℕ) (i j v n : ℕ) → length w ≡ 2 * n → ((k : ℕ) → k < n → eqb i (get_or w (2 * k + 1) 0) ≡ false)
    → stood_for (w ++ (i ∷ j ∷ [])) v ≡ cond (eqb i (stood_for w v)) j (stood_for w v)
unfolding stood_for
stood_more [] i j v n l never = refl
stood_more (a ∷ []) i j v n l never = absurd (omega arith)
stood_more (a ∷ b ∷ w) i j v n l never = by_test (stood_more w i j v (n - 1) (omega arith) later) (eqb a v)
  where
    later : (k : ℕ) → k < n - 1 → eqb i (get_or w (2 * k + 1) 0) ≡ false
    later k h =
        let far : suc (suc (2 * k + 1)) ≡ 2 * (k + 1) + 1 = omega arith in
        ap (λ (m : ℕ). eqb i (get_or (a ∷ b ∷ w) m 0)) far ∙ never (k + 1) (omega arith)

    by_test : stood_for (w ++ (i ∷ j ∷ [])) v ≡ cond (eqb i (stood_for w v)) j (stood_for w v) → (t : Bool)
        → cond t b (stood_for (w ++ (i ∷ j ∷ [])) v) ≡ cond (eqb i (cond t b (stood_for w v))) j (cond t b (stood_for w v))
    by_test rest true = ap (λ (t : Bool). cond t j b) (sym (never 0 (omega arith)))
    by_test rest false = rest

module _ (s : Scene) (c : SceneCounts) (i j : ℕ) (l : Lengths s c) where
  abbrev more : Scene
  more = scene_of s.positions s.edges s.triangles (s.seams ++ (i ∷ j ∷ []))

  module _ (whole : broken_seam more ≡ false) where
    count_more : seam_count more ≡ suc c.seams
    count_more = omega (arith, l.seams, length-append s.seams (i ∷ j ∷ []))

    count_is : seam_count s ≡ c.seams
    count_is = omega (arith, l.seams)

    first_last : sewn more c.seams ≡ i
    first_last =
        let here : 2 * c.seams ≡ length s.seams + 0 = omega (arith, l.seams) in
        ap (λ (m : ℕ). get_or (s.seams ++ (i ∷ j ∷ [])) m 0) here ∙ get_or-append-add s.seams (i ∷ j ∷ []) 0 0

    second_is : (k : ℕ) → k < c.seams → onto more k ≡ get_or s.seams (2 * k + 1) 0
    second_is k h = get_or-append s.seams (i ∷ j ∷ []) 0 (2 * k + 1) (omega (arith, l.seams))

    first_is : (k : ℕ) → k < c.seams → sewn more k ≡ sewn s k
    first_is k h = get_or-append s.seams (i ∷ j ∷ []) 0 (2 * k) (omega (arith, l.seams))

    -- the new seam's first vertex is no second one of those before it
    never : (k : ℕ) → k < c.seams → eqb i (get_or s.seams (2 * k + 1) 0) ≡ false
    never k h =
        let w : wrong_seam more k ≡ false = none_passes (wrong_seam more) (seam_count more) whole k (omega (arith, count_more)) in
        let r : replaced more (onto more k) ≡ false = search (or_left, or_rest) in
        let e : eqb (sewn more c.seams) (onto more k) ≡ false =
        none_passes (λ m. eqb (sewn more m) (onto more k)) (seam_count more) r c.seams (omega (arith, count_more)) in
        cc (first_last, second_is k h)

    pub unbroken : broken_seam s ≡ false
    unbroken = before
      where
        n : ℕ
        n = c.seams

        all : broken (comes_apart s) (sewn more) (onto more) (suc n) ≡ false
        all = ap (broken (comes_apart s) (sewn more) (onto more)) (sym count_more) ∙ whole

        front : broken (comes_apart s) (sewn more) (onto more) n ≡ false
        front =
            ⊎_elim (λ t. absurd (true≢false (sym (stays_broken (comes_apart s) (sewn more) (onto more) n t) ∙ all))) (λ f. f)
            (either (broken (comes_apart s) (sewn more) (onto more) n))

        before : broken_seam s ≡ false
        before =
            ap (broken (comes_apart s) (sewn s) (onto s)) count_is
            ∙ sym (broken_alike (comes_apart s) (sewn more) (onto more) (sewn s) (onto s) n first_is second_is)
            ∙ front

    stands_more : (v : ℕ) → stood_for more.seams v ≡ cond (eqb i (stood_for s.seams v)) j (stood_for s.seams v)
    stands_more v = stood_more s.seams i j v c.seams l.seams never

    apart_before : (x y : ℕ) → one more.seams x y ≡ false → one s.seams x y ≡ false
    apart_before x y h = by_test (one s.seams x y) refl
      where
        by_test : (t : Bool) → one s.seams x y ≡ t → t ≡ false
        by_test true e =
            let same : stood_for s.seams x ≡ stood_for s.seams y = eqb-true (stood_for s.seams x) (stood_for s.seams y) e in
            let joined : stood_for more.seams x ≡ stood_for more.seams y =
            stands_more x ∙ ap (λ (v : ℕ). cond (eqb i v) j v) same ∙ sym (stands_more y) in
            sym (eq-eqb (stood_for more.seams x) (stood_for more.seams y) joined) ∙ h
        by_test false e = refl

    pub unrepeated : repeated_vertex more ≡ false → repeated_vertex s ≡ false
    unrepeated h =
        let es : some_below (edge_count more) (twice_in_edge more) ≡ false = search (or_left, or_rest) in
        let ts : some_below (triangle_count more) (twice_in_triangle more) ≡ false = search (or_left, or_rest) in
        let edges : some_below (edge_count s) (twice_in_edge s) ≡ false =
        none_below (twice_in_edge s) (edge_count s) (λ k g. apart_before _ _ (none_passes (twice_in_edge more) (edge_count more) es k g)) in
        let triangles : some_below (triangle_count s) (twice_in_triangle s) ≡ false =
        none_below (twice_in_triangle s) (triangle_count s)
        (λ k g. three k (none_passes (twice_in_triangle more) (triangle_count more) ts k g)) in
        ap (λ (x : Bool). x || some_below (triangle_count s) (twice_in_triangle s)) edges ∙ triangles
      where
        three : (k : ℕ) → twice_in_triangle more k ≡ false → twice_in_triangle s k ≡ false
        three k g =
            let t : List ℕ = s.triangles in
            let a : ℕ = get_or t (3 * k + 0) 0 in
            let b : ℕ = get_or t (3 * k + 1) 0 in
            let d : ℕ = get_or t (3 * k + 2) 0 in
            let w : List ℕ = more.seams in
            let ab : one w a b ≡ false = or_left (one w a b) (one w a d) (or_left (one w a b || one w a d) (one w b d) g) in
            let ad : one w a d ≡ false = or_rest (one w a b) (one w a d) (or_left (one w a b || one w a d) (one w b d) g) in
            let bd : one w b d ≡ false = or_rest (one w a b || one w a d) (one w b d) g in
            rw (apart_before a b ab, apart_before a d ad, apart_before b d bd)

-- ---- every check

module _ {s : Scene} {c : SceneCounts} (l : Lengths s c) where
  no_seam_broken : s.seams ≡ [] → broken_seam s ≡ false
  unfolding some_below
  no_seam_broken e = let none : length s.seams / 2 ≡ 0 = omega (arith, ap length e) in rw none refl

  -- a record that is not late, and with which the scene is accepted: so it is without
  pub accepted_before : (r : Entry) → late s r ≡ false → Accepted (scene_with s r) → Accepted s
  unfolding late some_below
  accepted_before (vertex p q) h a =
      let es : s.edges ≡ [] = empty s.edges (search (or_left, or_rest)) in
      let ts : s.triangles ≡ [] = empty s.triangles (search (or_left, or_rest)) in
      let ws : s.seams ≡ [] = empty s.seams (search (or_left, or_rest)) in
      let few : over_size (scene_with s (vertex p q)) ≡ false = few_of a in
      let b : Accepted (scene_of (s.positions ++ coordinates p q) s.edges s.triangles s.seams) = subst Accepted (with_vertex s p q) a in
      let none : length s.edges / 2 ≡ 0 = omega (arith, ap length es) in
      let nones : length s.triangles / 3 ≡ 0 = omega (arith, ap length ts) in
      record {
        shapely = shapely_by l (bounded_before c (vertex p q) (bounded_by (lengths_more (vertex p q) l) few));
        in_range = some_front (beyond coordinate_limit) (pos 0) s.positions (coordinates p q) b.in_range;
        known = rw (none_unknown (vertex_count s) s.edges es, none_unknown (vertex_count s) s.triangles ts, none_unknown (vertex_count s) s.seams ws);
        sewn_well = no_seam_broken ws;
        distinct = rw (none, nones) refl;
      }
  accepted_before (edge i j) h a =
      let few : over_size (scene_with s (edge i j)) ≡ false = few_of a in
      let s' : Scene = scene_of s.positions (s.edges ++ (i ∷ j ∷ [])) s.triangles s.seams in
      let b : Accepted s' = subst Accepted (with_edge s i j) a in
      let k : unknown_vertex s' ≡ false = b.known in
      let ke : unknown_in (vertex_count s) (s.edges ++ (i ∷ j ∷ [])) ≡ false = search (or_left, or_rest) in
      let kt : unknown_in (vertex_count s) s.triangles ≡ false = search (or_left, or_rest) in
      let kw : unknown_in (vertex_count s) s.seams ≡ false = search (or_left, or_rest) in
      let d : repeated_vertex s' ≡ false = b.distinct in
      let de : some_below (length (s.edges ++ (i ∷ j ∷ [])) / 2) (twice_in_two s.seams (s.edges ++ (i ∷ j ∷ []))) ≡ false =
      or_left (some_below (edge_count s') (twice_in_edge s')) (some_below (triangle_count s) (twice_in_triangle s)) d in
      let dt : some_below (triangle_count s) (twice_in_triangle s) ≡ false =
      or_rest (some_below (edge_count s') (twice_in_edge s')) (some_below (triangle_count s) (twice_in_triangle s)) d in
      record {
        shapely = shapely_by l (bounded_before c (edge i j) (bounded_by (lengths_more (edge i j) l) few));
        in_range = b.in_range;
        known = rw (some_front (leb (vertex_count s)) 0 s.edges (i ∷ j ∷ []) ke, kt, kw);
        sewn_well = b.sewn_well;
        distinct = ap (λ (x : Bool). x || some_below (triangle_count s) (twice_in_triangle s)) (twos_front s.seams s.edges (i ∷ j ∷ []) de) ∙ dt;
      }
  accepted_before (triangle i j m) h a =
      let few : over_size (scene_with s (triangle i j m)) ≡ false = few_of a in
      let new : List ℕ = i ∷ j ∷ m ∷ [] in
      let s' : Scene = scene_of s.positions s.edges (s.triangles ++ new) s.seams in
      let b : Accepted s' = subst Accepted (with_triangle s i j m) a in
      let k : unknown_vertex s' ≡ false = b.known in
      let ke : unknown_in (vertex_count s) s.edges ≡ false = search (or_left, or_rest) in
      let kt : unknown_in (vertex_count s) (s.triangles ++ new) ≡ false = search (or_left, or_rest) in
      let kw : unknown_in (vertex_count s) s.seams ≡ false = search (or_left, or_rest) in
      let d : repeated_vertex s' ≡ false = b.distinct in
      let de : some_below (edge_count s) (twice_in_edge s) ≡ false =
      or_left (some_below (edge_count s) (twice_in_edge s)) (some_below (triangle_count s') (twice_in_triangle s')) d in
      let dt : some_below (length (s.triangles ++ new) / 3) (twice_in_three s.seams (s.triangles ++ new)) ≡ false =
      or_rest (some_below (edge_count s) (twice_in_edge s)) (some_below (triangle_count s') (twice_in_triangle s')) d in
      record {
        shapely = shapely_by l (bounded_before c (triangle i j m) (bounded_by (lengths_more (triangle i j m) l) few));
        in_range = b.in_range;
        known = rw (ke, some_front (leb (vertex_count s)) 0 s.triangles new kt, kw);
        sewn_well = b.sewn_well;
        distinct = ap (λ (x : Bool). x || some_below (triangle_count s) (twice_in_triangle s)) de ∙ threes_front s.seams s.triangles new dt;
      }
  accepted_before (seam i j) h a =
      let few : over_size (scene_with s (seam i j)) ≡ false = few_of a in
      let s' : Scene = scene_of s.positions s.edges s.triangles (s.seams ++ (i ∷ j ∷ [])) in
      let b : Accepted s' = subst Accepted (with_seam s i j) a in
      let k : unknown_vertex s' ≡ false = b.known in
      let ke : unknown_in (vertex_count s) s.edges ≡ false = search (or_left, or_rest) in
      let kt : unknown_in (vertex_count s) s.triangles ≡ false = search (or_left, or_rest) in
      let kw : unknown_in (vertex_count s) (s.seams ++ (i ∷ j ∷ [])) ≡ false = search (or_left, or_rest) in
      record {
        shapely = shapely_by l (bounded_before c (seam i j) (bounded_by (lengths_more (seam i j) l) few));
        in_range = b.in_range;
        known = rw (ke, kt, some_front (leb (vertex_count s)) 0 s.seams (i ∷ j ∷ []) kw);
        sewn_well = unbroken s c i j l b.sewn_well;
        distinct = unrepeated s c i j l b.sewn_well b.distinct;
      }
