use borrow.Author.Rules.{rules}
use Rattle.meaning.specs.Claims.{answer_line}
use Rattle.report_words.proofs.lines.answer_line.Goals as goal

-- src/lines.rt:93:1
pub returns-then-yes : goal.returns-then-yes
unfolding answer_line
returns-then-yes c = rw c.if-yes.true c.put_word.ensures

-- src/lines.rt:93:1
pub returns-else-yes : goal.returns-else-yes
unfolding answer_line
returns-else-yes c = rw c.if-yes.false c.put_word-else-yes.ensures
