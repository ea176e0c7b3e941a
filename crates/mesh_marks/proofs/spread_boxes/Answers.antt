use native.Mathlib.Omega.{arith}
use mathlib.Core.Path.{◌≡◌}
use Rattle.mesh_marks.specs.Marked.{spreading_starts, spreading_next}
use Rattle.mesh_marks.proofs.spread_boxes.Goals as goal

pub loop-q-init : goal.loop-q-init
loop-q-init c = spreading_starts _ _ _ _

pub overflow_add-base : goal.overflow_add-base
overflow_add-base c =
    let start = c in
    let q = c.loop-q.q in
    omega (arith, start.ranges, c.wide.ensures, start.requires.0.reach q c.loop-q-test.true)

pub spread_box-requires : goal.spread_box-requires
spread_box-requires c =
    let start = c in
    let loop = c.loop-q in
    let below = c.loop-q-test.true in
    (omega (arith, c.wide.ensures, start.requires.0.reach loop.q below), omega (arith, start.requires.1), omega (arith, start.requires.2, loop.invariant.same))

pub loop-q-preserved : goal.loop-q-preserved
loop-q-preserved c =
    let below = c.loop-q-test.true in
    let start = c in
    let loop = c.loop-q in
    rw c.spread_box.ensures (spreading_next (omega (arith, start.requires.1)) start.requires.2 c.wide.ensures loop.invariant)

pub shape_of-six : goal.shape_of-six
shape_of-six c = c.loop-q.invariant.same

pub returns : goal.returns
returns c =
    let a = c.args in
    let loop = c.loop-q in
    let all : loop.q ≡ a.count = omega arith in
    rw all at loop.invariant.done
