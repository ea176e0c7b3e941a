use borrow.Author.Rules.{rules}
use Rattle.obj_report.specs.Asking.{shown_for}
use Rattle.obj_report.proofs.import_text_read.Goals as goal

pub returns : goal.returns
unfolding shown_for
returns c = c.front_shown.ensures
