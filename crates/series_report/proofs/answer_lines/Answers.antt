-- What is told, or a refusal with its number and its third field.
use Prim.Native.Nat.{ℕ}
use mathlib.Core.Path.{ap, ◌∙◌}
use Rattle.meaning.specs.Report.{refused_line}
use Rattle.meaning.specs.SeriesAnswers.{told_says}
use Rattle.report_words.specs.Lines.{wrote_as}
use Rattle.series_report.specs.Whole.{told_answer, refused_answer}
use Rattle.series_report.proofs.answer_lines.Goals as goal

pub returns-in-Ok : goal.returns-in-Ok
returns-in-Ok c = wrote_as (told_answer (told_says c.args.told) c.in-Ok.is) c.told_lines.ensures

pub returns-in-Err : goal.returns-in-Err
returns-in-Err c =
    let third = c.in-Err.refused.carries in
    wrote_as
    (ap (λ (n : ℕ). refused_line n third) c.number_of.ensures ∙ refused_answer (told_says c.args.told) c.in-Err.is)
    c.refused_line.ensures
