-- 'The list' of document 01: swept boxes, when two meet, and which pairs are listed and which are culled.
use Rattle.std.specs.Prelude.{ℕ, Bool, not, cond, ◌&&◌, ℤ}
use Rattle.std.specs.Int.Signed.{le_z}
use Rattle.whole.specs.Vector.{Vector}
use Rattle.meaning.specs.Scene.{Scene, start_of, end_of, edge_end, corner}
use Rattle.meaning.specs.Refusals.{shares}
use Rattle.meaning.specs.declared.Kind.{Kind}
use Rattle.meaning.specs.declared.Kind.TheVariants.{PointTriangle, EdgeEdge}

abbrev pub smaller : ℤ → ℤ → ℤ
smaller a b = cond (le_z a b) a b

abbrev pub larger : ℤ → ℤ → ℤ
larger a b = cond (le_z a b) b a

-- how far a box reaches on one axis
pub record Span : Type 0 where
  pub low : ℤ
  pub high : ℤ

-- an axis is the coordinate that it reads
abbrev pub Axis : Type 0
Axis = Vector → ℤ

abbrev pub x_axis : Axis
x_axis p = p.x

abbrev pub y_axis : Axis
y_axis p = p.y

abbrev pub z_axis : Axis
z_axis p = p.z

-- a vertex's box runs on each axis from the smaller to the larger of its start and end value
abbrev pub vertex_span : Scene → Axis → ℕ → Span
vertex_span s a v =
    record { low = smaller (a (start_of s v)) (a (end_of s v)); high = larger (a (start_of s v)) (a (end_of s v)) }

-- an edge's or triangle's box is the joint box of its vertices
abbrev pub joint : Span → Span → Span
joint p q = record { low = smaller p.low q.low; high = larger p.high q.high }

abbrev pub edge_span : Scene → Axis → ℕ → Span
edge_span s a j = joint (vertex_span s a (edge_end s j 0)) (vertex_span s a (edge_end s j 1))

abbrev pub triangle_span : Scene → Axis → ℕ → Span
triangle_span s a j =
    joint (joint (vertex_span s a (corner s j 0)) (vertex_span s a (corner s j 1))) (vertex_span s a (corner s j 2))

-- boxes meet on an axis, equal ends included
abbrev pub meet : Span → Span → Bool
meet p q = le_z p.low q.high && le_z q.low p.high

unfoldable pub meet_on : Scene → Kind → ℕ → ℕ → Axis → Bool
meet_on s PointTriangle i j a = meet (vertex_span s a i) (triangle_span s a j)
meet_on s EdgeEdge i j a = meet (edge_span s a i) (edge_span s a j)

abbrev pub boxes_meet : Scene → Kind → ℕ → ℕ → Bool
boxes_meet s kind i j = meet_on s kind i j x_axis && meet_on s kind i j y_axis && meet_on s kind i j z_axis

-- a pair is listed exactly when it shares no vertex and on all three axes the boxes meet, and culled when it shares no vertex and
-- isn't listed
abbrev pub listed : Scene → Kind → ℕ → ℕ → Bool
listed s kind i j = not (shares s kind i j) && boxes_meet s kind i j

abbrev pub culled : Scene → Kind → ℕ → ℕ → Bool
culled s kind i j = not (shares s kind i j) && not (boxes_meet s kind i j)
