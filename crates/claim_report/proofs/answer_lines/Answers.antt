use native.Mathlib.Omega.{arith}
use lib.Dec.{eqb}
use lib.ListN.{get_or}
use Rattle.sequences.specs.Gather.{gather_first, gather_none}
use Rattle.sequences.specs.Writing.{writing_starts_front, writing_as, writing_steps, writing_ends}
use Rattle.claim_report.specs.Printed.{line_at, line_short, lines_short}
use Rattle.claim_report.proofs.answer_lines.Goals as goal

pub loop-k-init : goal.loop-k-init
loop-k-init c =
    let start = c in (
      omega arith,
      writing_starts_front _ _ (omega (arith, start.requires.1, start.requires.2, lines_short start.args.answers.now start.args.count)),
    )

pub answer_line-next-requires : goal.answer_line-next-requires
answer_line-next-requires c =
    let i = c.loop-k.invariant in
    let p = c.requires in
    omega (arith, i.0, i.1.same, p.1, p.2)

pub loop-k-preserved : goal.loop-k-preserved
loop-k-preserved c =
    let line = c in
    let turn = line in
    let i = turn.loop-k.invariant in
    let a = turn.args in
    let answers = a.answers.now in (
      omega (arith, line.answer_line-next.ensures.place, i.0, line_short (eqb (get_or answers turn.loop-k.k 0) 1)),
      writing_steps (writing_as (gather_first (line_at answers) turn.loop-k.k a.count line.loop-k-test.true) i.1)
          line.answer_line-next.ensures,
    )

pub shape_of-out : goal.shape_of-out
shape_of-out c = c.loop-k.invariant.1.same

pub returns : goal.returns
returns c =
    let i = c.loop-k.invariant in
    let a = c.args in
    writing_ends (omega arith) (writing_as (gather_none (line_at a.answers.now) c.loop-k.k a.count c.loop-k-test.false) i.1)
