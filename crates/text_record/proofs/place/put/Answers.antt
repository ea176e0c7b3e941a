-- `text_record::place::put` meets its contract: each arm writes the numbers of its kind of record behind those that stand there.
use native.Mathlib.Omega.{arith}
use Rattle.text_record.specs.Putting.{VertexReady, EdgeReady, TriangleReady, SeamReady, ready_vertex, ready_edge, ready_triangle, ready_seam, puts_vertex, puts_edge, puts_triangle, puts_seam}
use Rattle.text_record.proofs.place.put.Goals as goal

vertex-at-After-struct_known-1 : (c : goal.After-struct_known-1) → VertexReady c.args.c c.args.sizes.now
vertex-at-After-struct_known-1 c = ready_vertex c.requires.ready c.in-Vertex.is

pub overflow_mul-c : goal.overflow_mul-c
overflow_mul-c c = omega (arith, (vertex-at-After-struct_known-1 c).place)

pub put_vertex-requires : goal.put_vertex-requires
put_vertex-requires c = let v = vertex-at-After-struct_known-1 c in record { at_in_bounds = omega (arith, v.place, c.requires.roomy.positions); in_bounds = c.requires.ready.sized; in_bounds_2 = c.requires.ready.signed; near = (v.start, v.finish) }

edge-at-After-struct_known-in-Edge-1 : (c : goal.After-struct_known-in-Edge-1) → EdgeReady c.args.c c.args.sizes.now
edge-at-After-struct_known-in-Edge-1 c = ready_edge c.requires.ready c.in-Edge.is

pub overflow_mul-c-in-Edge : goal.overflow_mul-c-in-Edge
overflow_mul-c-in-Edge c = omega (arith, (edge-at-After-struct_known-in-Edge-1 c).place)

edge-at-After-shared_slice_known-in-Edge-1 : (c : goal.After-shared_slice_known-in-Edge-1) → EdgeReady c.args.c c.args.sizes.now
edge-at-After-shared_slice_known-in-Edge-1 c = ready_edge c.requires.ready c.in-Edge.is

pub overflow_cast-sizes : goal.overflow_cast-sizes
overflow_cast-sizes c = omega (arith, (edge-at-After-shared_slice_known-in-Edge-1 c).first)

edge-at-After-shared_slice_known-in-Edge-2-1 : (c : goal.After-shared_slice_known-in-Edge-2-1) → EdgeReady c.args.c c.args.sizes.now
edge-at-After-shared_slice_known-in-Edge-2-1 c = ready_edge c.requires.ready c.in-Edge.is

pub overflow_cast-sizes-in-Edge : goal.overflow_cast-sizes-in-Edge
overflow_cast-sizes-in-Edge c = omega (arith, (edge-at-After-shared_slice_known-in-Edge-2-1 c).second)

pub put_two-requires : goal.put_two-requires
put_two-requires c = omega (arith, (edge-at-After-shared_slice_known-in-Edge-2-1 c).place, c.requires.roomy.edges)

triangle-at-After-struct_known-in-Triangle-1 : (c : goal.After-struct_known-in-Triangle-1) → TriangleReady c.args.c c.args.sizes.now
triangle-at-After-struct_known-in-Triangle-1 c = ready_triangle c.requires.ready c.in-Triangle.is

pub overflow_mul-c-in-Triangle : goal.overflow_mul-c-in-Triangle
overflow_mul-c-in-Triangle c = omega (arith, (triangle-at-After-struct_known-in-Triangle-1 c).place)

triangle-at-After-shared_slice_known-in-Triangle-1 : (c : goal.After-shared_slice_known-in-Triangle-1) → TriangleReady c.args.c c.args.sizes.now
triangle-at-After-shared_slice_known-in-Triangle-1 c = ready_triangle c.requires.ready c.in-Triangle.is

pub overflow_cast-sizes-in-Triangle : goal.overflow_cast-sizes-in-Triangle
overflow_cast-sizes-in-Triangle c = omega (arith, (triangle-at-After-shared_slice_known-in-Triangle-1 c).first)

triangle-at-After-shared_slice_known-in-Triangle-2-1 : (c : goal.After-shared_slice_known-in-Triangle-2-1) → TriangleReady c.args.c c.args.sizes.now
triangle-at-After-shared_slice_known-in-Triangle-2-1 c = ready_triangle c.requires.ready c.in-Triangle.is

pub overflow_cast-sizes-in-Triangle-2 : goal.overflow_cast-sizes-in-Triangle-2
overflow_cast-sizes-in-Triangle-2 c = omega (arith, (triangle-at-After-shared_slice_known-in-Triangle-2-1 c).second)

triangle-at-After-shared_slice_known-in-Triangle-3-1 : (c : goal.After-shared_slice_known-in-Triangle-3-1) → TriangleReady c.args.c c.args.sizes.now
triangle-at-After-shared_slice_known-in-Triangle-3-1 c = ready_triangle c.requires.ready c.in-Triangle.is

pub overflow_cast-sizes-in-Triangle-3 : goal.overflow_cast-sizes-in-Triangle-3
overflow_cast-sizes-in-Triangle-3 c = omega (arith, (triangle-at-After-shared_slice_known-in-Triangle-3-1 c).third)

pub put_triangle-requires : goal.put_triangle-requires
put_triangle-requires c = omega (arith, (triangle-at-After-shared_slice_known-in-Triangle-3-1 c).place, c.requires.roomy.triangles)

seam-at-After-struct_known-in-Seam-1 : (c : goal.After-struct_known-in-Seam-1) → SeamReady c.args.c c.args.sizes.now
seam-at-After-struct_known-in-Seam-1 c = ready_seam c.requires.ready c.in-Seam.is

pub overflow_mul-c-in-Seam : goal.overflow_mul-c-in-Seam
overflow_mul-c-in-Seam c = omega (arith, (seam-at-After-struct_known-in-Seam-1 c).place)

seam-at-After-shared_slice_known-in-Seam-1 : (c : goal.After-shared_slice_known-in-Seam-1) → SeamReady c.args.c c.args.sizes.now
seam-at-After-shared_slice_known-in-Seam-1 c = ready_seam c.requires.ready c.in-Seam.is

pub overflow_cast-sizes-in-Seam : goal.overflow_cast-sizes-in-Seam
overflow_cast-sizes-in-Seam c = omega (arith, (seam-at-After-shared_slice_known-in-Seam-1 c).first)

seam-at-After-shared_slice_known-in-Seam-2-1 : (c : goal.After-shared_slice_known-in-Seam-2-1) → SeamReady c.args.c c.args.sizes.now
seam-at-After-shared_slice_known-in-Seam-2-1 c = ready_seam c.requires.ready c.in-Seam.is

pub overflow_cast-sizes-in-Seam-2 : goal.overflow_cast-sizes-in-Seam-2
overflow_cast-sizes-in-Seam-2 c = omega (arith, (seam-at-After-shared_slice_known-in-Seam-2-1 c).second)

pub put_two-requires-in-Seam : goal.put_two-requires-in-Seam
put_two-requires-in-Seam c = omega (arith, (seam-at-After-shared_slice_known-in-Seam-2-1 c).place, c.requires.roomy.seams)

pub returns-in-Vertex : goal.returns-in-Vertex
returns-in-Vertex c = rw c.in-Vertex.is (puts_vertex _ _ _ _ c.put_vertex.ensures)

pub returns-in-Edge : goal.returns-in-Edge
returns-in-Edge c = rw c.in-Edge.is (puts_edge _ _ _ _ c.put_two.ensures)

pub returns-in-Triangle : goal.returns-in-Triangle
returns-in-Triangle c = rw c.in-Triangle.is (puts_triangle _ _ _ _ c.put_triangle.ensures)

pub returns-in-Seam : goal.returns-in-Seam
returns-in-Seam c = rw c.in-Seam.is (puts_seam _ _ _ _ c.put_two-in-Seam.ensures)
