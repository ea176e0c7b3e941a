use native.Mathlib.Omega.{arith}
use Rattle.scene_seams.specs.Alone.{tabled}
use Rattle.scene_report.specs.FromCalls.{own_room, judged_list, no_room_lem}
use Rattle.scene_report.specs.Whole.{report_stands, room_refused}
use Rattle.scene_report.proofs.tabled_report.Goals as goal

-- src/lib.rt:50:37
pub pairs_report-requires : goal.pairs_report-requires
pairs_report-requires c = ((judged_list {m = c.in-Ok.count} c.requires.0 (omega arith) (omega (arith, own_room)) c.settle_accepted.ensures (search)).held, c.requires.1)

-- src/lib.rt:43:1
pub returns-in-Ok : goal.returns-in-Ok
returns-in-Ok c =
    let j = (judged_list {m = c.in-Ok.count} c.requires.0 (omega arith) (omega (arith, own_room)) c.settle_accepted.ensures (search)) in
    report_stands (tabled c.args.positions.now c.args.edges.now c.args.triangles.now c.args.stands.now) _ j.stands j.bytes j.counts j.few c.pairs_report.ensures

-- src/lib.rt:43:1
pub returns-in-Err : goal.returns-in-Err
returns-in-Err c =
    let n = no_room_lem c.settle_accepted.ensures c.in-Err.is in
    room_refused (tabled c.args.positions.now c.args.edges.now c.args.triangles.now c.args.stands.now) n.0 n.1 c.refused_line.ensures
