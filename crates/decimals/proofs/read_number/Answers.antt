use mathlib.Core.Path.{sym, ◌∙◌}
use Rattle.sequences.specs.Pick.{pick_true, pick_false}
use Rattle.decimals.specs.Number.{number_of_run}
use Rattle.decimals.proofs.read_number.Goals as goal

pub returns-then-count-first : goal.returns-then-count-first
returns-then-count-first c = sym (number_of_run c.run_from-run.ensures c.byte_at-first.ensures ∙ pick_true _ _ c.if-count-first.true)

pub returns-else-count-first : goal.returns-else-count-first
returns-else-count-first c = sym (number_of_run c.run_from-run.ensures c.byte_at-first.ensures ∙ pick_false _ _ c.if-count-first.false)
