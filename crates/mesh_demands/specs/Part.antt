-- A part of a mesh: a scene whose vertices, edges and triangles stand somewhere in a whole of any length. What it takes for the part to speak for
-- the whole: positions, corners, the order of vertices and the order of edges are kept. Every condition is of the part's own range alone.
use Rattle.std.specs.Prelude.{ℕ, ◌<◌, List, map, ◌≡◌}
use Rattle.std.proofs.Common.{subst}
use Rattle.meaning.specs.Scene.{Scene, vertex_count, edge_count, triangle_count, start_of, end_of, before}
use Rattle.meaning.specs.List.{Pair, pair}
use Rattle.meaning.specs.declared.Kind.{Kind}
use Rattle.meaning.specs.declared.Kind.TheVariants.{PointTriangle, EdgeEdge}
use Rattle.theory.specs.Rearranged.{Rearranged, unmoved}
use Rattle.theory.specs.Written.{ends_written, corners_written}

-- where the part's vertices, edges and triangles stand in the whole
pub record Places : Type 0 where
  pub vertex : ℕ → ℕ
  pub edge : ℕ → ℕ
  pub triangle : ℕ → ℕ

-- p is a part of s, and stands there at m
pub record PartOf (m : Places) (p s : Scene) : Type 0 where
  -- what it stands at is there
  pub vertices_there : (v : ℕ) → v < vertex_count p → m.vertex v < vertex_count s
  pub edges_there : (j : ℕ) → j < edge_count p → m.edge j < edge_count s
  pub triangles_there : (j : ℕ) → j < triangle_count p → m.triangle j < triangle_count s
  -- a vertex starts and ends where it does in the whole
  pub starts : (v : ℕ) → v < vertex_count p → start_of s (m.vertex v) ≡ start_of p v
  pub ends : (v : ℕ) → v < vertex_count p → end_of s (m.vertex v) ≡ end_of p v
  -- two vertices are in the order that they have in the whole, in both by the vertex stood for
  pub order : (v w : ℕ) → v < vertex_count p → w < vertex_count p → before s (m.vertex v) (m.vertex w) ≡ before p v w
  -- an edge has the ends, and a triangle the corners, that it has in the whole, written in any order
  pub edges : (j : ℕ) → j < edge_count p → Rearranged (map m.vertex (ends_written p j)) (ends_written s (m.edge j))
  pub triangles : (j : ℕ) → j < triangle_count p → Rearranged (map m.vertex (corners_written p j)) (corners_written s (m.triangle j))
  -- two edges are in the order that they have in the whole
  pub edges_rise : (i j : ℕ) → i < j → j < edge_count p → m.edge i < m.edge j

-- where the two parts of a pair stand, and the pair of the whole that a pair of the part is
unfoldable pub first_place : Places → Kind → ℕ → ℕ
first_place m PointTriangle i = m.vertex i
first_place m EdgeEdge i = m.edge i

unfoldable pub second_place : Places → Kind → ℕ → ℕ
second_place m PointTriangle j = m.triangle j
second_place m EdgeEdge j = m.edge j

abbrev pub in_whole : Places → Pair → Pair
in_whole m q = pair q.kind (first_place m q.kind q.first) (second_place m q.kind q.second)

-- as they are written there is an order too
pub as_written : {k l : List ℕ} → k ≡ l → Rearranged k l
as_written {k} e = subst (λ (l : List ℕ). Rearranged k l) e unmoved
