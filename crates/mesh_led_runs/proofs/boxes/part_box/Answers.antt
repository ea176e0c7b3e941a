-- `part_box`: by the kind.
use Rattle.mesh_led_runs.specs.PartBoxes.{part_box}
use Rattle.mesh_led_runs.proofs.boxes.part_box.Goals as goal

pub triangle_box-requires : goal.triangle_box-requires
triangle_box-requires c =
    let pre = c.requires in
    let is = c.in-PointTriangle.is in
    (pre.0.triangle is, pre.0.corners is, pre.1)

pub edge_box-requires : goal.edge_box-requires
edge_box-requires c =
    let pre = c.requires in
    let is = c.in-EdgeEdge.is in
    (pre.0.edge is, pre.0.ends is, pre.1)

pub returns-in-PointTriangle : goal.returns-in-PointTriangle
unfolding part_box
returns-in-PointTriangle c = rw c.in-PointTriangle.is c.triangle_box.ensures

pub returns-in-EdgeEdge : goal.returns-in-EdgeEdge
unfolding part_box
returns-in-EdgeEdge c = rw c.in-EdgeEdge.is c.edge_box.ensures
