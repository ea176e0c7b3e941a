use native.Mathlib.Omega.{arith}
use Rattle.obj_scene.specs.Between.{pair_starts, pair_goes, pair_ends}
use Rattle.obj_scene.proofs.copying.copy_positions.Goals as goal

pub loop-v-init : goal.loop-v-init
loop-v-init c = pair_starts _ _ _ _ c.requires.2

pub copy_three-requires : goal.copy_three-requires
copy_three-requires c = (
  omega (arith, c.loop-v-test.true, c.requires.0),
  omega (arith, c.loop-v-test.true, c.requires.2, c.loop-v.invariant.writing.same),
)

pub copy_three-requires-in-loop-v : goal.copy_three-requires-in-loop-v
copy_three-requires-in-loop-v c = (
  omega (arith, c.loop-v-test.true, c.requires.1),
  omega (arith, c.loop-v-test.true, c.requires.2, c.loop-v.invariant.writing.same, c.copy_three.ensures.same),
)

pub loop-v-preserved : goal.loop-v-preserved
loop-v-preserved c = pair_goes _ _ _ c.loop-v-test.true c.loop-v.invariant c.copy_three.ensures c.copy_three-in-loop-v.ensures

pub shape_of-lent : goal.shape_of-lent
shape_of-lent c = c.loop-v.invariant.writing.same

pub returns : goal.returns
returns c = pair_ends _ _ _ c.loop-v-test.false c.loop-v.invariant
