use native.Mathlib.Omega.{arith}
use mathlib.Core.Path.{refl, ◌∙◌}
use Rattle.mesh_walk.specs.Places.{up_same, up_test}
use Rattle.mesh_walk.proofs.climb.Goals as goal

pub loop-v-init : goal.loop-v-init
loop-v-init c = (omega arith, refl)

pub overflow_add-v : goal.overflow_add-v
overflow_add-v c = omega arith

pub loop-v-smaller : goal.loop-v-smaller
loop-v-smaller c =
    let loop = c.loop-v in
    let (low, first) = up_test loop.v c.args.top loop.r c.loop-v-test.true in
    omega arith

pub loop-v-preserved : goal.loop-v-preserved
loop-v-preserved c =
    let loop = c.loop-v in
    let (low, first) = up_test loop.v c.args.top loop.r c.loop-v-test.true in
    (omega arith, up_same loop.v loop.r first ∙ loop.invariant.1)

pub returns : goal.returns
returns c = (c.loop-v.invariant.0, c.loop-v.invariant.1, refl)
