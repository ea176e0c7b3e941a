-- Far: on one axis one part lies strictly below the other at the start and at the end. Near pairs are the listed ones that are not far.
-- Here too: boxes at one time.
use Rattle.std.specs.Prelude.{ℕ, Bool, not, ◌||◌, ◌&&◌}
use Rattle.std.specs.Int.Signed.{lt_z}
use Rattle.whole.specs.Vector.{Vector}
use Rattle.meaning.specs.Scene.{Scene, start_of, end_of, edge_end, corner}
use Rattle.meaning.specs.Boxes.{Span, Axis, x_axis, y_axis, z_axis, joint, listed}
use Rattle.meaning.specs.declared.Frame.{Frame}
use Rattle.meaning.specs.declared.Frame.TheVariants.{Start, End}
use Rattle.meaning.specs.declared.Kind.{Kind}
use Rattle.meaning.specs.declared.Kind.TheVariants.{PointTriangle, EdgeEdge}

unfoldable pub where_at : Frame → Scene → ℕ → Vector
where_at Start s v = start_of s v
where_at End s v = end_of s v

-- at one time a vertex's box is its position, and an edge's or triangle's is the joint box of its vertices
abbrev pub vertex_span_at : Frame → Scene → Axis → ℕ → Span
vertex_span_at f s a v = record { low = a (where_at f s v); high = a (where_at f s v) }

abbrev pub edge_span_at : Frame → Scene → Axis → ℕ → Span
edge_span_at f s a j = joint (vertex_span_at f s a (edge_end s j 0)) (vertex_span_at f s a (edge_end s j 1))

abbrev pub triangle_span_at : Frame → Scene → Axis → ℕ → Span
triangle_span_at f s a j =
    joint (joint (vertex_span_at f s a (corner s j 0)) (vertex_span_at f s a (corner s j 1))) (vertex_span_at f s a (corner s j 2))

-- of a pair: its first part and its second
unfoldable pub first_span_at : Frame → Scene → Kind → Axis → ℕ → Span
first_span_at f s PointTriangle a i = vertex_span_at f s a i
first_span_at f s EdgeEdge a i = edge_span_at f s a i

unfoldable pub second_span_at : Frame → Scene → Kind → Axis → ℕ → Span
second_span_at f s PointTriangle a j = triangle_span_at f s a j
second_span_at f s EdgeEdge a j = edge_span_at f s a j

-- strictly below
abbrev pub under : Span → Span → Bool
under p q = lt_z p.high q.low

-- one below the other at both times, the same one
abbrev pub far_on : Scene → Kind → ℕ → ℕ → Axis → Bool
far_on s kind i j a =
    (under (first_span_at Start s kind a i) (second_span_at Start s kind a j) && under (first_span_at End s kind a i) (second_span_at End s kind a j))
    || (under (second_span_at Start s kind a j) (first_span_at Start s kind a i) && under (second_span_at End s kind a j) (first_span_at End s kind a i))

abbrev pub far : Scene → Kind → ℕ → ℕ → Bool
far s kind i j = far_on s kind i j x_axis || far_on s kind i j y_axis || far_on s kind i j z_axis

abbrev pub near : Scene → Kind → ℕ → ℕ → Bool
near s kind i j = listed s kind i j && not (far s kind i j)
