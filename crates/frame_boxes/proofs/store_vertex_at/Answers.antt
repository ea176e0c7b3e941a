-- `store_vertex_at`: span by span, from where the vertex stands at that time.
use borrow.Author.Rules.{rules}
use native.Mathlib.Omega.{arith}
use Rattle.scene_seams.specs.Alone.{only_positions}
use Rattle.pierced_pair.specs.Vertices.{offset_room}
use Rattle.frame_boxes.specs.Spots.{spot_stored}
use Rattle.frame_boxes.proofs.store_vertex_at.Goals as goal

pub store_spot-requires : goal.store_spot-requires
store_spot-requires c =
    let start = c in
    let a = start.args in
    omega (arith, offset_room a.positions.now a.frame a.v start.requires.0, c.place_of-from.ensures, start.requires.2)

pub overflow_add-from : goal.overflow_add-from
overflow_add-from c =
    let start = c in
    let a = start.args in
    omega (arith, offset_room a.positions.now a.frame a.v start.requires.0, c.place_of-from.ensures)

pub store_spot-requires-2 : goal.store_spot-requires-2
store_spot-requires-2 c =
    let start = c in
    let a = start.args in
    omega (arith, offset_room a.positions.now a.frame a.v start.requires.0, c.place_of-from.ensures, start.requires.2)

pub overflow_add-from-2 : goal.overflow_add-from-2
overflow_add-from-2 c =
    let start = c in
    let a = start.args in
    omega (arith, offset_room a.positions.now a.frame a.v start.requires.0, c.place_of-from.ensures)

pub store_spot-requires-3 : goal.store_spot-requires-3
store_spot-requires-3 c =
    let start = c in
    let a = start.args in
    omega (arith, offset_room a.positions.now a.frame a.v start.requires.0, c.place_of-from.ensures, start.requires.2)

pub returns : goal.returns
returns c =
    let start = c in
    let a = start.args in
    spot_stored a.frame (only_positions a.positions.now) _ a.v _ c.place_of-from.ensures c.store_spot.ensures c.store_spot-2.ensures c.store_spot-3.ensures
    (omega (arith, start.requires.2))
