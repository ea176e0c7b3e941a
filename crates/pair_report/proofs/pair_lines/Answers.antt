use native.Mathlib.Omega.{arith}
use Rattle.sequences.specs.Gather.{gather_first, gather_none}
use Rattle.sequences.specs.Writing.{writing_starts_front, writing_as, writing_steps, writing_ends}
use Rattle.pair_report.specs.Rendered.{line_at, line_short, lines_short}
use Rattle.pair_report.proofs.pair_lines.Goals as goal

pub loop-k-init : goal.loop-k-init
loop-k-init c = (
  omega arith,
  writing_starts_front _ _ (omega (arith, c.requires.0.few, c.requires.1, lines_short c.args.list.now c.args.verdicts.now c.args.count)),
)

pub entry_line-next-requires : goal.entry_line-next-requires
entry_line-next-requires c =
    let i = c.loop-k.invariant in
    let p = c.requires in (
      omega (arith, p.0.entries),
      omega (arith, p.0.judged.there),
      p.0.judged.at c.loop-k.k (omega arith),
      omega (arith, i.0, i.1.same, p.1, p.0.few),
    )

pub loop-k-preserved : goal.loop-k-preserved
loop-k-preserved c =
    let i = c.loop-k.invariant in
    let w = c.entry_line-next.ensures in (
      omega (arith, w.place, i.0, line_short c.args.list.now c.args.verdicts.now c.loop-k.k),
      writing_steps (writing_as (gather_first (line_at c.args.list.now c.args.verdicts.now) c.loop-k.k c.args.count c.loop-k-test.true) i.1) w,
    )

pub shape_of-out : goal.shape_of-out
shape_of-out c = c.loop-k.invariant.1.same

pub returns : goal.returns
returns c =
    let i = c.loop-k.invariant in (
      writing_ends (omega arith) (writing_as (gather_none (line_at c.args.list.now c.args.verdicts.now) c.loop-k.k c.args.count c.loop-k-test.false) i.1),
      omega (arith, i.0, c.requires.0.few),
    )
