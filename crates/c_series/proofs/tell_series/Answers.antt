-- `tell_series`: refused, or told and put into the arrays.
use borrow.Author.Rules.{rules}
use mathlib.Core.Path.{refl}
use Rattle.c_series.specs.Into.{told_few, into_refused, into_told}
use Rattle.c_series.proofs.tell_series.Goals as goal

pub put_log-requires : goal.put_log-requires
put_log-requires c = (search rules, told_few c.tell_series-all.result c.tell_series-all.ensures c.in-Ok.is)

pub returns-in-Err : goal.returns-in-Err
returns-in-Err c = into_refused c.tell_series-all.result c.tell_series-all.ensures c.in-Err.is c.refused.ensures

pub returns-in-Ok : goal.returns-in-Ok
returns-in-Ok c = into_told c.tell_series-all.result c.tell_series-all.ensures c.in-Ok.is refl c.put_counts.ensures c.put_log.ensures c.put_told.ensures
