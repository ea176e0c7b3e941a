use mathlib.Core.Path.{refl, ◌∙◌}
use native.Mathlib.Omega.{arith}
use lib.ListN.{length-set}
use Rattle.mesh_held.specs.Held.{taken_none, taken_next, taken_all}
use Rattle.mesh_held.proofs.take_held.Goals as goal

pub loop-c-init : goal.loop-c-init
loop-c-init c = (refl, λ es long so. taken_none _ es)

pub loop-c-preserved : goal.loop-c-preserved
loop-c-preserved c =
    let loop = c.loop-c in
    (length-set loop.list loop.c c.of_halves.result ∙ loop.invariant.0, λ es long so. rw c.of_halves.ensures (taken_next so (omega arith) (omega arith) (loop.invariant.1 es long so)))

pub shape_of-list : goal.shape_of-list
shape_of-list c = c.loop-c.invariant.0

pub returns : goal.returns
returns c = λ es long so. taken_all es (omega arith) (c.loop-c.invariant.1 es long so)
