-- `reach_of`: level 1 of the tree is there.
use native.Mathlib.Omega.{arith}
use Rattle.mesh_tree.specs.Grown.{fewer_nodes}
use Rattle.mesh_led_runs.proofs.ends.reach_of.Goals as goal

pub near_share-requires : goal.near_share-requires
near_share-requires c =
    let start = c in
    let tree = start.requires.0 in
    let high = c.if-top-lt1.false in
    let told = tree.counts 1 high in
    (omega (arith, told, tree.inside 1 high), omega (arith, told, fewer_nodes start.args.parts 1, start.requires.1))

pub bounds-levels-2 : goal.bounds-levels-2
bounds-levels-2 c = omega (arith, c.requires.0.room)

pub bounds-levels-3 : goal.bounds-levels-3
bounds-levels-3 c = omega (arith, c.requires.0.room)
