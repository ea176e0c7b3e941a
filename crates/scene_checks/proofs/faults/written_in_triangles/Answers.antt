use Rattle.std.proofs.Common.{◌+◌, ◌*◌, ◌/◌, ◌≡◌, arith}
use Rattle.scene_checks.specs.InRows.{row_triangles, none_done, row_done, all_done}
use Rattle.scene_checks.proofs.faults.written_in_triangles.Goals as goal

pub loop-row-init : goal.loop-row-init
loop-row-init c = none_done _

pub loop-row-preserved : goal.loop-row-preserved
loop-row-preserved c =
    let row = c.loop-row.row in
    let next : row_triangles * (row + 1) ≡ row_triangles * row + row_triangles = omega arith in
    let place : 48 * row ≡ 3 * (row_triangles * row) = omega arith in
    rw next (row_done c.loop-row.invariant (omega arith) _ (rw place at c.written_in_row-found.ensures))

pub returns : goal.returns
returns c =
    let behind : 16 * (c.saturating_sub-rows.result / 48) ≡ row_triangles * c.loop-row.row = omega arith in
    all_done _ c.loop-row.invariant (omega arith) _ (rw behind at c.written_behind.ensures)
