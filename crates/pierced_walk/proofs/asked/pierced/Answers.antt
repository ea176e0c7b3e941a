-- The five vertices are the ends and the corners.
use Rattle.pierced_pair.specs.Parts.{five_there, five_told}
use Rattle.pierced_walk.proofs.asked.pierced.Goals as goal

pub vertices_in_common-requires : goal.vertices_in_common-requires
vertices_in_common-requires c =
    let start = c in
    let a = start.args in
    five_there a.positions.now a.edges.now a.triangles.now a.i a.j _ _ _ _ _
    (record {
      one_end = c.edge_end-p.ensures;
      other_end = c.edge_end-q.ensures;
      one_corner = c.corner-a.ensures;
      next_corner = c.corner-b.ensures;
      last_corner = c.corner-c.ensures;
    })
    start.requires

pub returns : goal.returns
returns c =
    let b = c in
    let a = b.args in
    five_told a.positions.now a.edges.now a.triangles.now a.i a.j _ _ _ _ _
    (record {
      one_end = b.edge_end-p.ensures;
      other_end = b.edge_end-q.ensures;
      one_corner = b.corner-a.ensures;
      next_corner = b.corner-b.ensures;
      last_corner = b.corner-c.ensures;
    })
    a.frame _ c.vertices_in_common.ensures
