use native.Mathlib.Omega.{arith}
use Rattle.mesh_marks.specs.Copying.{copying_starts, copying_next, copying_boxes}
use Rattle.mesh_marks.proofs.copy_boxes.Goals as goal

pub loop-n-init : goal.loop-n-init
loop-n-init c = copying_starts _ _ _

pub copy_number-requires : goal.copy_number-requires
copy_number-requires c =
    let below = c.loop-n-test.true in
    let start = c in
    (omega (arith, start.requires.0), omega (arith, start.requires.1, c.loop-n.invariant.same))

pub loop-n-preserved : goal.loop-n-preserved
loop-n-preserved c =
    let below = c.loop-n-test.true in
    let inv = c.loop-n.invariant in
    let start = c in
    rw c.copy_number.ensures (copying_next (omega (arith, start.requires.1, inv.same)) inv)

pub shape_of-own : goal.shape_of-own
shape_of-own c = c.loop-n.invariant.same

pub returns : goal.returns
returns c =
    let past = c.loop-n-test.false in
    let a = c.args in
    copying_boxes a.first a.count c.loop-n.n (omega arith) c.loop-n.invariant
