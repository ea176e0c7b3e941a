-- `text_fields::read_row` meets its contract: it tests what was read as the definition does.
use mathlib.Core.Bool.{true, false}
use native.Mathlib.Omega.{arith}
use lib.Dec.{eqb}
use Rattle.text_fields.specs.Ended.{ended_inside, ended_by}
use Rattle.text_fields.proofs.read_row.Goals as goal

pub overflow_add-result : goal.overflow_add-result
overflow_add-result c =
    let read = c.read_fields-row.result in
    let a = c.args in
    omega (
      arith,
      ended_inside a.s.now read.next (eqb read.count a.count) c.byte_at-end.ensures c.if-found-count.true,
    )

pub returns-then-found-count : goal.returns-then-found-count
returns-then-found-count c = ended_by true c.read_fields-row.ensures c.byte_at-end.ensures c.if-found-count.true

pub returns-else-found-count : goal.returns-else-found-count
returns-else-found-count c = ended_by false c.read_fields-row.ensures c.byte_at-end.ensures c.if-found-count.false
