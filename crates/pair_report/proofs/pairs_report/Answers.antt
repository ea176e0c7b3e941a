use mathlib.Core.List.{[], ◌∷◌}
use Rattle.decimals.specs.Digits.{digits}
use Rattle.sequences.specs.Wrote.{wrote_then}
use Rattle.meaning.specs.Report.{report_line, total_word}
use Rattle.report_words.specs.Lines.{wrote_as}
use Rattle.pair_report.proofs.pairs_report.Goals as goal

pub returns : goal.returns
returns c =
    let t = c.tally_of-tally.ensures in
    wrote_then c.pair_lines-next.ensures.0
    (wrote_as
    (λ i. report_line total_word (digits (t.listed i) ∷ digits (t.hits i) ∷ digits (t.misses i) ∷ digits (t.touches i) ∷ digits (t.aparts i) ∷ []))
    c.total_line.ensures)
