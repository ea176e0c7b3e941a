-- After a yes of `check_edges` the list has the ee pairs of all sides: two sides of triangles that share no vertex and whose swept boxes meet are an edge each,
-- and the pair of these edges stands in the list of the mesh, with the lower edge first, in one place and no other.
use Prim.Native.Nat.{ℕ, ◌<◌}
use Rattle.std.specs.Prelude.{Bool, ◌||◌, ◌&&◌, ◌⊎◌, ◌≡◌, get_or}
use mathlib.Core.List.{List}
use Rattle.std.proofs.Math.ListN.{length}
use Rattle.meaning.specs.Scene.{Scene, same}
use Rattle.meaning.specs.Boxes.{Axis, Span, x_axis, y_axis, z_axis, vertex_span, joint, meet}
use Rattle.meaning.specs.List.{Pair}
use Rattle.meaning.specs.declared.Kind.TheVariants.{EdgeEdge}
use Rattle.list_words.specs.Listed.{no_pair}
use Rattle.mesh_edges.specs.Sides.{Joins}

-- ---- two sides

-- two sides, from a to b and from c to d, share a vertex, by the vertices stood for
abbrev pub sides_share : Scene → (a b c d : ℕ) → Bool
sides_share s a b c d = same s a c || same s a d || same s b c || same s b d

-- the swept box of a side is the joint box of its two vertices
abbrev pub side_span : Scene → Axis → (a b : ℕ) → Span
side_span s x a b = joint (vertex_span s x a) (vertex_span s x b)

abbrev pub sides_meet_on : Scene → (a b c d : ℕ) → Axis → Bool
sides_meet_on s a b c d x = meet (side_span s x a b) (side_span s x c d)

abbrev pub sides_meet : Scene → (a b c d : ℕ) → Bool
sides_meet s a b c d = sides_meet_on s a b c d x_axis && sides_meet_on s a b c d y_axis && sides_meet_on s a b c d z_axis

-- an ee pair is theirs: one of its edges joins a and b, the other c and d
pub record OfSides (s : Scene) (a b c d : ℕ) (p : Pair) : Type 0 where
  pub is_ee : p.kind ≡ EdgeEdge
  pub joined : (Joins s p.first a b × Joins s p.second c d) ⊎ (Joins s p.first c d × Joins s p.second a b)

-- in a list there is one place, and no other, where such a pair stands
pub record StandsOnce (Is : Pair → Type 0) (l : List Pair) : Type 0 where
  pub place : ℕ
  pub inside : place < length l
  pub stands : Is (get_or l place no_pair)
  pub once : (k : ℕ) → k < length l → Is (get_or l k no_pair) → k ≡ place
