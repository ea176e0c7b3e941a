use native.Mathlib.Omega.{arith}
use borrow.Author.Rules.{sfits_of}
use lib.IntN.{pos}
use lib.ListN.{get_or}
use mir.Facts.{to_z-of_z}
use Rattle.list_walk.specs.Taking.{copied_none, copied_more, copied_all}
use Rattle.list_walk.proofs.skipping.copy_numbers.Goals as goal

pub loop-k-init : goal.loop-k-init
loop-k-init c = copied_none _ _

pub bounds-to-k : goal.bounds-to-k
bounds-to-k c = omega (arith, c.requires.1, c.loop-k.invariant.same)

pub loop-k-preserved : goal.loop-k-preserved
loop-k-preserved c =
    let start = c in
    let z = get_or start.args.from.now c.loop-k.k (pos 0) in
    rw (to_z-of_z {z = z} (sfits_of c.to-1.given)) (copied_more (omega (arith, start.requires.1)) c.loop-k.invariant)

pub shape_of-to : goal.shape_of-to
shape_of-to c = c.loop-k.invariant.same

pub returns : goal.returns
returns c = copied_all (omega arith) c.loop-k.invariant
