-- A face more, with the edges that it brings: a scene that every call accepts stays one.
use Rattle.std.specs.Prelude.{Bool, true, false, ◌||◌, ◌≡◌, refl, ℕ, ◌+◌, ◌*◌, ◌/◌, ◌%◌, ◌≤◌, ◌<◌, leb, ltb, eqb, length, get_or}
use mathlib.Core.List.{List, [], ◌∷◌, ◌++◌, append-nil}
use Rattle.std.proofs.Common.{sym, ap, ◌∙◌, subst, arith}
use Rattle.std.proofs.Math.ListN.{length-append}
use borrow.Author.Tests.{eq-eqb, ne_eqb, lt-leb, le-ltb, leb-false, eqb-false}
use Rattle.sequences.specs.Pick.{pick, pick_has}
use Rattle.answers.specs.Below.{or_left, or_rest}
use Rattle.meaning.specs.Limits.{vertex_limit, edge_limit, triangle_limit, seam_limit}
use Rattle.meaning.specs.Refusals.{given}
use Rattle.meaning.specs.Scene.{Scene, scene_of, Accepted, stood_for, some_below, vertex_count, edge_count, triangle_count, seam_count, uneven, over_size, wrong_shape, unknown_in, unknown_vertex, twice_in_edge, twice_in_triangle, repeated_vertex}
use Rattle.meaning.specs.Text.{triangle, scene_with, coordinates_in, ends_in, corners_in, seam_in, EntryJudged}
use Rattle.meaning.specs.declared.SceneCounts.{SceneCounts}
use Rattle.text_line.specs.Above.{Above, Bounded, Lengths, counted_by, above_more, faultless}
use Rattle.text_line.specs.Reading.{sort_of}
use Rattle.text_line.specs.Adding.{any_of, some_behind, twice_in_two, edges_more}
use Rattle.text_line.specs.Checks.{Comes, comes_triangle}
use Rattle.meaning.specs.ObjFile.{joined, with_side, with_sides}

-- edges of vertices below n, each of two
pub record EdgesOk (n : ℕ) (e : List ℕ) : Type 0 where
  pub half : ℕ
  pub pairs : length e ≡ 2 * half
  pub known : unknown_in n e ≡ false
  pub distinct : some_below (length e / 2) (twice_in_two [] e) ≡ false

module _ {n : ℕ} (i j : ℕ) (hi : i < n) (hj : j < n) (apart : i ≡ j → ⊥) where
  ok_more : (e : List ℕ) → EdgesOk n e → EdgesOk n (e ++ (i ∷ j ∷ []))
  unfolding any_of stood_for
  ok_more e o =
      record {
        half = o.half + 1;
        pairs = omega (arith, length-append e (i ∷ j ∷ []), o.pairs);
        known = some_behind (leb n) 0 e (i ∷ j ∷ []) o.known ∙ cc (lt-leb n i hi, lt-leb n j hj);
        distinct = edges_more [] e i j o.half o.pairs o.distinct ∙ ne_eqb i j apart;
      }

  pub ok_side : (e : List ℕ) → EdgesOk n e → EdgesOk n (with_side e i j)
  ok_side e o = pick_has (EdgesOk n) (joined i j e) (λ t. o) (λ t. ok_more e o)

pub ok_sides : {n : ℕ} (i j k : ℕ) → i < n → j < n → k < n → (i ≡ j → ⊥) → (i ≡ k → ⊥) → (j ≡ k → ⊥) → (e : List ℕ) → EdgesOk n e
    → EdgesOk n (with_sides e i j k)
ok_sides i j k hi hj hk ij ik jk e o =
    ok_side k i hk hi (λ q. ik (sym q)) (with_side (with_side e i j) j k)
    (ok_side j k hj hk jk (with_side e i j) (ok_side i j hi hj ij e o))

-- of a scene without seams that every call accepts
pub ok_scene : {s : Scene} {c : SceneCounts} → Above s c → s.seams ≡ [] → EdgesOk (vertex_count s) s.edges
ok_scene {s} {c} a none =
    record {
      half = c.edges;
      pairs = a.lengths.edges;
      known = (let k : unknown_vertex s ≡ false = a.accepted.known in search (or_left, or_rest));
      distinct = subst (λ (w : List ℕ). some_below (length s.edges / 2) (twice_in_two w s.edges) ≡ false) none
          (let k : repeated_vertex s ≡ false = a.accepted.distinct in search (or_left, or_rest));
    }

-- ---- the scene with a face

abbrev pub with_edges : Scene → List ℕ → Scene
with_edges t e = scene_of t.positions e t.triangles t.seams

abbrev pub counts_with : SceneCounts → ℕ → SceneCounts
counts_with c n = record { vertices = c.vertices; edges = n; triangles = c.triangles; seams = c.seams }

-- other edges in a scene that every call accepts
pub above_edges : {t : Scene} {c : SceneCounts} → Above t c → t.seams ≡ [] → (e : List ℕ) (n : ℕ) → EdgesOk (vertex_count t) e → length e ≡ 2 * n → n ≤ edge_limit
    → Above (with_edges t e) (counts_with c n)
above_edges {t} {c} a none e n o long few =
    let l : Lengths (with_edges t e) (counts_with c n) =
    record { positions = a.lengths.positions; edges = long; triangles = a.lengths.triangles; seams = a.lengths.seams } in
    let six : length t.positions % 6 ≡ 0 = omega (arith, l.positions) in
    let two : length e % 2 ≡ 0 = omega (arith, l.edges) in
    let three : length t.triangles % 3 ≡ 0 = omega (arith, l.triangles) in
    let pair : length t.seams % 2 ≡ 0 = omega (arith, l.seams) in
    let even : uneven (with_edges t e) ≡ false = rw (
      eq-eqb (length t.positions % 6) 0 six,
      eq-eqb (length e % 2) 0 two,
      eq-eqb (length t.triangles % 3) 0 three,
      eq-eqb (length t.seams % 2) 0 pair,
    ) in
    let size : over_size (with_edges t e) ≡ false = cc (
      le-ltb vertex_limit (length t.positions / 6) (omega (arith, l.positions, a.bounded.vertices)),
      le-ltb edge_limit (length e / 2) (omega (arith, l.edges)),
      le-ltb triangle_limit (length t.triangles / 3) (omega (arith, l.triangles, a.bounded.triangles)),
      le-ltb seam_limit (length t.seams / 2) (omega (arith, l.seams, a.bounded.seams)),
    ) in
    let old : unknown_vertex t ≡ false = a.accepted.known in
    let corners : unknown_in (vertex_count t) t.triangles ≡ false = search (or_left, or_rest) in
    let seams : unknown_in (vertex_count t) t.seams ≡ false = search (or_left, or_rest) in
    let once : repeated_vertex t ≡ false = a.accepted.distinct in
    let thrice : some_below (length t.triangles / 3) (twice_in_triangle t) ≡ false = search (or_left, or_rest) in
    let twice : some_below (length e / 2) (twice_in_two t.seams e) ≡ false =
    subst (λ (w : List ℕ). some_below (length e / 2) (twice_in_two w e) ≡ false) (sym none) o.distinct in
    record {
      accepted = record {
        shapely = ap (λ (b : Bool). b || over_size (with_edges t e)) even ∙ size;
        in_range = a.accepted.in_range;
        known = cc (o.known, corners, seams);
        sewn_well = a.accepted.sewn_well;
        distinct = cc (twice, thrice);
      };
      lengths = l;
      bounded = record { vertices = a.bounded.vertices; edges = few; triangles = a.bounded.triangles; seams = a.bounded.seams };
    }
