-- Whether parts share a vertex, and a part's box, are read off the list of its vertices without seeing their order.
use Rattle.std.specs.Prelude.{◌≡◌, refl, Bool, true, false, ◌||◌, List, [], ◌∷◌, ℕ, pos}
use Rattle.std.proofs.Common.{sym, ◌∙◌, ap}
use Rattle.std.proofs.Math.Bool.{or_assoc, or-false}
use Rattle.meaning.specs.Scene.{Scene, edge_end, corner, same}
use Rattle.meaning.specs.Refusals.{shares}
use Rattle.meaning.specs.Boxes.{Span, Axis, vertex_span, joint, edge_span, triangle_span}
use Rattle.meaning.specs.declared.Kind.TheVariants.{PointTriangle, EdgeEdge}
use Rattle.theory.specs.Joints.{joint_either_way, joint_exchanged, joint_regrouped}
use Rattle.theory.specs.Determinants.{Exchanged, front, behind}
use Rattle.theory.specs.Rearranged.{Rearranged, unmoved, moved}
use Rattle.theory.specs.Written.{ends_written, corners_written}

-- some vertex of the list passes
unfoldable pub any : (ℕ → Bool) → List ℕ → Bool
any f [] = false
any f (a ∷ l) = f a || any f l

or_exchanged : (x y z : Bool) → x || (y || z) ≡ y || (x || z)
or_exchanged true true z = refl
or_exchanged true false z = refl
or_exchanged false y z = refl

pub any_rearranged : (f : ℕ → Bool) {k l : List ℕ} → Rearranged k l → any f k ≡ any f l
unfolding any
any_rearranged f unmoved = refl
any_rearranged f (moved e r) = go e ∙ any_rearranged f r
  where
    go : {k l : List ℕ} → Exchanged k l → any f k ≡ any f l
    go (front {a} {b} {l = l}) = or_exchanged (f a) (f b) (any f l)
    go (behind {a = a} e) = ap (λ x. f a || x) (go e)

-- the joint box of the vertices of a list
unfoldable pub span_in : (ℕ → Span) → List ℕ → Span
span_in f [] = record { low = pos 0; high = pos 0 }
span_in f (v ∷ []) = f v
span_in f (v ∷ w ∷ l) = joint (f v) (span_in f (w ∷ l))

pub span_rearranged : (f : ℕ → Span) {k l : List ℕ} → Rearranged k l → span_in f k ≡ span_in f l
unfolding span_in
span_rearranged f unmoved = refl
span_rearranged f (moved e r) = go e ∙ span_rearranged f r
  where
    go : {k l : List ℕ} → Exchanged k l → span_in f k ≡ span_in f l
    go (front {a} {b} {l = []}) = joint_either_way (f a) (f b)
    go (front {a} {b} {l = c ∷ l}) = joint_exchanged (f a) (f b) (span_in f (c ∷ l))
    go (behind {a = v} (front {a} {b} {l = l})) = ap (joint (f v)) (go (front {a = a} {b = b} {l = l}))
    go (behind {a = v} (behind e)) = ap (joint (f v)) (go (behind e))

-- whether parts share a vertex
pub shares_corners : (s : Scene) (i j : ℕ) → shares s PointTriangle i j ≡ any (same s i) (corners_written s j)
unfolding shares any
shares_corners s i j = three (same s i (corner s j 0)) (same s i (corner s j 1)) (same s i (corner s j 2))
  where
    three : (x y z : Bool) → x || y || z ≡ x || (y || (z || false))
    three x y z = or_assoc x y z ∙ ap (λ w. x || (y || w)) (sym (or-false z))

pub shares_ends : (s : Scene) (i j : ℕ) → shares s EdgeEdge i j ≡ any (λ a. any (same s a) (ends_written s j)) (ends_written s i)
unfolding shares any
shares_ends s i j =
    four (same s (edge_end s i 0) (edge_end s j 0)) (same s (edge_end s i 0) (edge_end s j 1)) (same s (edge_end s i 1) (edge_end s j 0)) (same s (edge_end s i 1) (edge_end s j 1))
  where
    four : (x y z w : Bool) → x || y || z || w ≡ x || (y || false) || (z || (w || false) || false)
    four true y z w = refl
    four false true z w = refl
    four false false true w = refl
    four false false false true = refl
    four false false false false = refl

-- the box of an edge and of a triangle
pub edge_box_is : (s : Scene) (a : Axis) (j : ℕ) → edge_span s a j ≡ span_in (vertex_span s a) (ends_written s j)
unfolding span_in
edge_box_is s a j = refl

pub triangle_box_is : (s : Scene) (a : Axis) (j : ℕ) → triangle_span s a j ≡ span_in (vertex_span s a) (corners_written s j)
unfolding span_in
triangle_box_is s a j = joint_regrouped (vertex_span s a (corner s j 0)) (vertex_span s a (corner s j 1)) (vertex_span s a (corner s j 2))
