use borrow.Author.Rules.{rules}
use Rattle.obj_report.specs.Asking.{shown_for}
use Rattle.obj_report.proofs.write_obj_report.Goals as goal

pub returns : goal.returns
unfolding shown_for
returns c = c.pair_shown.ensures
