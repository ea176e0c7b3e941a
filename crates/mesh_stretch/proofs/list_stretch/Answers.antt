-- `list_stretch`: what was planted is what the walks go by.
use native.Mathlib.Omega.{arith}
use mathlib.Core.List.{[]}
use Rattle.scene_seams.specs.Table.{seams_of}
use Rattle.mesh_trees.specs.Forest.{planted_forest}
use Rattle.frame_boxes.specs.Grove.{other_seams}
use Rattle.near_trees.specs.Standing.{plantable_still}
use Rattle.near_either.specs.Ready.{nodes_ready}
use Rattle.mesh_stretch.proofs.list_stretch.Goals as goal

pub plant_nodes-shift-requires : goal.plant_nodes-shift-requires
plant_nodes-shift-requires c = other_seams [] c.requires.plantable.0

pub plant-tops-requires : goal.plant-tops-requires
plant-tops-requires c = let lent = c.requires.orders_lent in record { plantable = (plantable_still c.plant_nodes-shift.ensures.1 (other_seams [] c.requires.plantable.0), omega arith, omega arith); order_lent = (lent.edges, lent.triangles) }

pub list_grown-requires : goal.list_grown-requires
list_grown-requires c =
    let start = c in
    let lent = start.requires.orders_lent in
    let w = seams_of start.args.stands.now in
    let nodes = c.plant_nodes-shift.ensures in
    let can = plantable_still nodes.1 start.requires.plantable.0 in
    let planted = c.plant-tops.ensures w in record { forest = (planted_forest can (omega arith) (omega arith) lent.edges lent.triangles planted, start.requires.plantable.1, start.requires.plantable.2, nodes_ready can (omega arith) (omega arith) (nodes.0 w) planted); orders_lent = start.requires.orders_lent; room_in_bounds = start.requires.room_in_bounds }
