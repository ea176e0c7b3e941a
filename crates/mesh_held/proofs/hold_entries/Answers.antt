use mathlib.Core.Path.{◌≡◌}
use native.Mathlib.Omega.{arith}
use Rattle.mesh_held.specs.Held.{more_none, more_next}
use Rattle.mesh_held.proofs.hold_entries.Goals as goal

pub loop-c-init : goal.loop-c-init
loop-c-init c = more_none _ _ _

pub hold_entry-requires : goal.hold_entry-requires
hold_entry-requires c = omega (arith, c.loop-c.invariant.same)

pub loop-c-preserved : goal.loop-c-preserved
loop-c-preserved c =
    let loop = c.loop-c in
    more_next loop.invariant (omega arith) c.hold_entry.ensures

pub shape_of-places : goal.shape_of-places
shape_of-places c = c.loop-c.invariant.same

pub returns : goal.returns
returns c =
    let loop = c.loop-c in
    let all : loop.c ≡ c.args.count = omega arith in
    rw all at loop.invariant
