-- The scratch that is lent with a mesh: the boxes of all vertices, edges and triangles, behind them the nodes of the tree over the edges, and behind
-- these the nodes of the tree over the triangles, six numbers each.
use Rattle.std.specs.Prelude.{ℕ, ◌+◌}
use Rattle.meaning.specs.Scene.{Scene, vertex_count, edge_count, triangle_count}
use Rattle.meaning.specs.MeshRows.{tree_room}

-- the box with which the nodes over the edges begin, and that with which those over the triangles do
abbrev pub edge_nodes : Scene → ℕ
edge_nodes s = vertex_count s + edge_count s + triangle_count s

abbrev pub triangle_nodes : Scene → ℕ
triangle_nodes s = edge_nodes s + tree_room (edge_count s)
