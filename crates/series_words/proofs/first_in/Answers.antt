use Rattle.series_words.specs.Telling.{first_none, first_some}
use Rattle.series_words.proofs.first_in.Goals as goal

pub returns-then-log-eq0 : goal.returns-then-log-eq0
returns-then-log-eq0 c = first_none c.if-log-eq0.true

pub returns : goal.returns
returns c = first_some _ c.if-log-eq0.false
