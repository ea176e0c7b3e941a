-- `widen`: the vertex's place is the third box, and joined.
use native.Mathlib.Omega.{arith}
use Rattle.meaning.specs.Scene.{scene_of}
use Rattle.pierced_pair.specs.Vertices.{offset_room}
use Rattle.near_runs.specs.Held.{widened_place}
use Rattle.near_runs.proofs.widen.Goals as goal

pub store_place-requires : goal.store_place-requires
store_place-requires c =
    let start = c in
    let a = start.args in
    (omega (arith, c.place_of-from.ensures, offset_room a.positions.now a.frame a.v start.requires.0), omega (arith, start.requires.3))

pub store_joint_box-requires : goal.store_joint_box-requires
store_joint_box-requires c =
    let start = c in
    let same = c.store_place.ensures.same in
    (omega (arith, start.requires, same), omega (arith, start.requires, same), omega (arith, start.requires, same))

pub returns : goal.returns
returns c =
    λ e t w.
    let start = c in
    let a = start.args in
    widened_place a.frame (scene_of a.positions.now e t w) a.v c.place_of-from.result a.to c.place_of-from.ensures start.requires.2 c.store_place.ensures c.store_joint_box.ensures
