use mathlib.Core.Path.{◌≡◌}
use Rattle.std.proofs.Common.{arith, ◌≡◌}
use Rattle.sequences.specs.Gather.{gather_none, gather_last}
use Rattle.scene_seams.specs.Alone.{tabled}
use Rattle.list_candidates.specs.Rows.{first_count, row_of}
use Rattle.series_step.specs.Rows.{tells_none, tells_then}
use Rattle.series_step.proofs.tell_rows.Goals as goal

pub loop-i-init : goal.loop-i-init
loop-i-init c =
    let a = c.args in
    let s = tabled a.positions.now a.edges.now a.triangles.now a.stands.now in
    rw (gather_none (row_of s a.kind) 0 0 (omega arith)) (tells_none s a.step _)

pub tell_row-next-requires : goal.tell_row-next-requires
tell_row-next-requires c = (c.requires, omega (arith, c.first_count-end.ensures))

pub loop-i-preserved : goal.loop-i-preserved
loop-i-preserved c =
    let a = c.args in
    let s = tabled a.positions.now a.edges.now a.triangles.now a.stands.now in
    rw (gather_last (row_of s a.kind) 0 c.loop-i.i (omega arith)) (tells_then c.loop-i.invariant c.tell_row-next.ensures)

pub returns : goal.returns
returns c =
    let a = c.args in
    let s = tabled a.positions.now a.edges.now a.triangles.now a.stands.now in
    let all : c.loop-i.i ≡ first_count s a.kind = omega (arith, c.first_count-end.ensures) in
    rw all at c.loop-i.invariant
