use native.Mathlib.Omega.{arith}
use mathlib.Core.List.{[]}
use mathlib.Core.Path.{refl}
use Rattle.meaning.specs.Scene.{scene_of}
use Rattle.list_boxes.specs.Filling.{holds_none, holds_kept, holds_more, holds_all, kept_all, kept_wider, kept_more}
use Rattle.mesh_boxes.specs.Led.{part_of, part_inside}
use Rattle.mesh_boxes.specs.Joining.{edge_stored_as, stands_itself}
use Rattle.mesh_boxes.proofs.join_edges.Goals as goal

pub loop-k-init : goal.loop-k-init
loop-k-init c = (kept_all _ _, stands_itself _ _, holds_none _ _ _)

pub store_edge-requires : goal.store_edge-requires
store_edge-requires c = let start = c in record { k_bound = (omega arith, start.requires.edges_value.1); joinable = record { known = start.requires.edges_value.0; behind = omega arith; room = omega (arith, start.requires.edges_in_bounds) } }

pub loop-k-preserved : goal.loop-k-preserved
loop-k-preserved c =
    let start = c in
    let inv = c.loop-k.invariant in
    let s = scene_of start.args.positions.now start.args.edges.now [] [] in
    let k = c.loop-k.k in
    let stored = edge_stored_as s start.requires.edges_value.0 (part_of start.args.order.now k) (part_inside start.requires.edges_value.1 k (omega arith)) inv.1 c.store_edge.ensures in (
      kept_more inv.0 stored (omega arith) (omega arith),
      holds_kept inv.1 stored (omega arith),
      holds_more inv.2 refl stored,
    )

pub returns : goal.returns
returns c =
    let inv = c.loop-k.invariant in
    (inv.1, holds_all (omega arith) inv.2, kept_wider (omega arith) inv.0)
