-- A scene that writes the ends of its edges and the corners of its triangles in another order has the same pieces, shared vertices, boxes, and so
-- the same verdicts and the same list.
use Rattle.std.specs.Prelude.{◌≡◌, refl, ℤ, length}
use Rattle.std.proofs.Math.Path.{sym, ap}
use Rattle.std.proofs.Common.{◌∙◌, arith}
use mathlib.Core.List.{List, [], ◌∷◌}
use Prim.Native.Nat.{ℕ, ◌<◌}
use Rattle.meaning.specs.Scene.{Scene, scene_of, edge_count, triangle_count}
use Rattle.meaning.specs.Pieces.{starting, ending}
use Rattle.meaning.specs.Refusals.{not_there}
use Rattle.meaning.specs.Boxes.{Span, Axis, vertex_span, edge_span}
use Rattle.meaning.specs.declared.Kind.{Kind}
use Rattle.meaning.specs.declared.Kind.TheVariants.{PointTriangle, EdgeEdge}
use Rattle.theory.specs.MovingParts.{Follows}
use Rattle.theory.specs.Rearranged.{Rearranged, rearranged_back}
use Rattle.theory.specs.Written.{ends_written, corners_written, Different}
use Rattle.theory.specs.AnyOrder.{span_in, span_rearranged, edge_box_is}

-- t is s with the same edges and triangles, each written in any order, and with the same seams
pub record Rewritten (s t : Scene) : Type 0 where
  pub positions : t.positions ≡ s.positions
  pub seams : t.seams ≡ s.seams
  pub edges_long : length t.edges ≡ length s.edges
  pub triangles_long : length t.triangles ≡ length s.triangles
  pub edges : (j : ℕ) → j < edge_count s → Rearranged (ends_written s j) (ends_written t j)
  pub triangles : (j : ℕ) → j < triangle_count s → Rearranged (corners_written s j) (corners_written t j)

-- there are such scenes: one edge and one triangle, each in any order, over the same vertices
pub one_of_each : (p : List ℤ) (w : List ℕ) {a b c d e a' b' c' d' e' : ℕ} → Rearranged (a ∷ b ∷ []) (a' ∷ b' ∷ []) → Rearranged (c ∷ d ∷ e ∷ []) (c' ∷ d' ∷ e' ∷ [])
    → Rewritten (scene_of p (a ∷ b ∷ []) (c ∷ d ∷ e ∷ []) w) (scene_of p (a' ∷ b' ∷ []) (c' ∷ d' ∷ e' ∷ []) w)
one_of_each p w edge triangle = record {
  positions = refl;
  seams = refl;
  edges_long = refl;
  triangles_long = refl;
  edges = λ j below. let first : j ≡ 0 = omega arith in rw first edge;
  triangles = λ j below. let first : j ≡ 0 = omega arith in rw first triangle;
}

-- and s is t so
pub rewritten_back : {s t : Scene} → Rewritten s t → Rewritten t s
rewritten_back h = record {
  positions = sym h.positions;
  seams = sym h.seams;
  edges_long = sym h.edges_long;
  triangles_long = sym h.triangles_long;
  edges = λ j below. rearranged_back (h.edges j (omega (arith, h.edges_long)));
  triangles = λ j below. rearranged_back (h.triangles j (omega (arith, h.triangles_long)));
}

-- the edges and triangles of the pair are there
unfoldable pub PartsThere : Scene → Kind → ℕ → ℕ → Type 0
PartsThere s PointTriangle i j = j < triangle_count s
PartsThere s EdgeEdge i j = (i < edge_count s) × (j < edge_count s)

-- they are, and no two vertices of one of them are the same
unfoldable pub WellMade : Scene → Kind → ℕ → ℕ → Type 0
WellMade s PointTriangle i j = (j < triangle_count s) × Different s (corners_written s j)
WellMade s EdgeEdge i j = (i < edge_count s) × Different s (ends_written s i) × (j < edge_count s) × Different s (ends_written s j)

module _ {s t : Scene} (h : Rewritten s t) where
  pub follows : Follows s t (λ e. e) (λ v. Unit {0})
  follows = record {
    starts = λ v k. ap (λ (l : List ℤ). starting l v) h.positions;
    ends = λ v k. ap (λ (l : List ℤ). ending l v) h.positions;
  }

  -- ---- the checks of a pair, and the list

  pub rewritten_not_there : (kind : Kind) (i j : ℕ) → not_there t kind i j ≡ not_there s kind i j
  unfolding not_there
  rewritten_not_there PointTriangle i j = rw (h.positions, h.triangles_long)
  rewritten_not_there EdgeEdge i j = rw h.edges_long

  pub vertex_boxes : (a : Axis) → vertex_span t a ≡ vertex_span s a
  vertex_boxes a = ap (λ (l : List ℤ). vertex_span (scene_of l [] [] []) a) h.positions

  pub box_rewritten : (a : Axis) {k l : List ℕ} → Rearranged k l → span_in (vertex_span t a) l ≡ span_in (vertex_span s a) k
  box_rewritten a {k} {l} r = ap (λ (f : ℕ → Span). span_in f l) (vertex_boxes a) ∙ sym (span_rearranged (vertex_span s a) r)

  pub edge_box : (a : Axis) (j : ℕ) → j < edge_count s → edge_span t a j ≡ edge_span s a j
  edge_box a j w = edge_box_is t a j ∙ box_rewritten a (h.edges j w) ∙ sym (edge_box_is s a j)
