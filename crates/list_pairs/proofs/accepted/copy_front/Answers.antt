use Rattle.list_pairs.specs.Own.{copy_starts, copy_room, copy_goes, copy_ends}
use Rattle.list_pairs.proofs.accepted.copy_front.Goals as goal

pub loop-k-init : goal.loop-k-init
loop-k-init c = copy_starts _ _ c.requires.0 _ c.requires.1

pub bounds-list-k : goal.bounds-list-k
bounds-list-k c =
    let start = c in
    copy_room start.args.own.now start.args.count start.requires.0 c.loop-k-test.true c.loop-k.invariant

pub loop-k-preserved : goal.loop-k-preserved
loop-k-preserved c =
    let start = c in
    copy_goes start.args.own.now start.args.count start.requires.0 c.loop-k-test.true c.loop-k.invariant

pub shape_of-list : goal.shape_of-list
shape_of-list c = c.loop-k.invariant.writing.same

pub returns : goal.returns
returns c =
    let start = c in
    copy_ends start.args.own.now start.args.count start.requires.0 c.loop-k-test.false c.loop-k.invariant
