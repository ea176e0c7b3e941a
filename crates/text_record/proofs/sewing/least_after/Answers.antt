-- `sewing::least_after` meets its contract: one more than the first vertex of the last seam, and 0 where there is none.
use mathlib.Core.Path.{◌∙◌}
use Rattle.text_record.specs.Holding.{least_none, least_some}
use Rattle.text_record.proofs.sewing.least_after.Goals as goal

pub returns-then-count-gt0 : goal.returns-then-count-gt0
returns-then-count-gt0 c = c.above.ensures ∙ least_some _ _ c.if-count-gt0.true c.requires

pub returns : goal.returns
returns c = least_none _ _ c.if-count-gt0.false
