use borrow.Author.Rules.{sfits_of}
use lib.IntN.{pos}
use lib.ListN.{get_or}
use mir.Facts.{to_z-of_z}
use Rattle.text_scene.specs.Copying.{copy_starts, copy_room, copy_goes, copy_ends}
use Rattle.text_scene.proofs.copying.copy_positions.Goals as goal

pub loop-k-init : goal.loop-k-init
loop-k-init c = copy_starts (pos 0) _ _ c.requires.0 _ c.requires.1

pub bounds-lent-k : goal.bounds-lent-k
bounds-lent-k c =
    let start = c in
    copy_room (pos 0) start.args.own.now start.args.count start.requires.0 c.loop-k-test.true c.loop-k.invariant

pub loop-k-preserved : goal.loop-k-preserved
loop-k-preserved c =
    let start = c in
    let z = get_or start.args.own.now c.loop-k.k (pos 0) in
    rw (to_z-of_z {z = z} (sfits_of c.lent-1.given)) (copy_goes (pos 0) start.args.own.now start.args.count start.requires.0 c.loop-k-test.true c.loop-k.invariant)

pub shape_of-lent : goal.shape_of-lent
shape_of-lent c = c.loop-k.invariant.writing.same

pub returns : goal.returns
returns c =
    let start = c in
    copy_ends (pos 0) start.args.own.now start.args.count start.requires.0 c.loop-k-test.false c.loop-k.invariant
