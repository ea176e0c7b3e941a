-- `mend`: the vertex, its edges, its triangles.
use borrow.Author.Rules.{rules}
use native.Mathlib.Omega.{arith}
use Rattle.meaning.specs.Scene.{scene_of}
use Rattle.stored_mend.specs.Moved.{boxes_moved}
use Rattle.stored_mend.proofs.mend.Goals as goal

pub mend_edges-requires : goal.mend_edges-requires
mend_edges-requires c =
    let start = c in
    (record { drawn = start.requires.0; long = search rules; room = omega (arith, start.requires.3, c.store_vertex.ensures.same) }, omega (arith, start.requires.1, start.requires.2))

pub mend_triangles-requires : goal.mend_triangles-requires
mend_triangles-requires c =
    let start = c in
    let done = c.mend_edges.ensures in
    (record { drawn = start.requires.0; long = done.1; room = omega (arith, start.requires.3, c.store_vertex.ensures.same, done.0.behind.same) }, omega (arith, start.requires.1, start.requires.2))

pub returns : goal.returns
returns c =
    let start = c in
    let a = start.args in
    λ w. boxes_moved (scene_of a.positions.now a.edges.now a.triangles.now w) a.v start.requires.2 c.store_vertex.ensures c.mend_edges.ensures.0 c.mend_triangles.ensures
