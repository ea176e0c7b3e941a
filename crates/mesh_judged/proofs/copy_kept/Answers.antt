use Rattle.list_pairs.specs.Own.{copy_starts, copy_room, copy_goes, copy_ends}
use Rattle.mesh_judged.proofs.copy_kept.Goals as goal

pub loop-k-init : goal.loop-k-init
loop-k-init c = (copy_starts _ _ c.requires.0 _ c.requires.2, copy_starts _ _ c.requires.1 _ c.requires.3)

pub bounds-list-k : goal.bounds-list-k
bounds-list-k c =
    let start = c in
    copy_room start.args.own.now start.args.count start.requires.0 c.loop-k-test.true c.loop-k.invariant.0

pub bounds-words-k : goal.bounds-words-k
bounds-words-k c =
    let start = c in
    copy_room start.args.marks.now start.args.count start.requires.1 c.loop-k-test.true c.loop-k.invariant.1

pub loop-k-preserved : goal.loop-k-preserved
loop-k-preserved c =
    let start = c in
    let below = c.loop-k-test.true in
    let so = c.loop-k.invariant in
    (copy_goes start.args.own.now start.args.count start.requires.0 below so.0, copy_goes start.args.marks.now start.args.count start.requires.1 below so.1)

pub shape_of-list : goal.shape_of-list
shape_of-list c = c.loop-k.invariant.0.writing.same

pub shape_of-words : goal.shape_of-words
shape_of-words c = c.loop-k.invariant.1.writing.same

pub returns : goal.returns
returns c =
    let start = c in
    let over = c.loop-k-test.false in
    let so = c.loop-k.invariant in
    (copy_ends start.args.own.now start.args.count start.requires.0 over so.0, copy_ends start.args.marks.now start.args.count start.requires.1 over so.1)
