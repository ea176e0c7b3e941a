-- `pairs::entry_line`: the entry is taken apart, and its line is that of its pair.
use Rattle.meaning.specs.List.{pair}
use Rattle.meaning.specs.Report.{pair_line}
use Rattle.report_words.specs.Lines.{wrote_as}
use Rattle.pair_report.proofs.entry_line.Goals as goal

pub returns : goal.returns
returns c =
    wrote_as
    (λ t. pair_line (pair (c.kind_of-kind.ensures t) (c.first_of-first.ensures t) (c.second_of-second.ensures t)) (c.verdict_at-verdict.ensures t))
    c.pair_line.ensures
