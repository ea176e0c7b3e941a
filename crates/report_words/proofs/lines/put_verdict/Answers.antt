use borrow.Author.Rules.{rules}
use Rattle.meaning.specs.Report.{verdict_word}
use Rattle.report_words.proofs.lines.put_verdict.Goals as goal

-- src/lines.rt:27:1
pub returns-in-Hit : goal.returns-in-Hit
unfolding verdict_word
returns-in-Hit c = rw c.in-Hit.is c.put_word.ensures

-- src/lines.rt:27:1
pub returns-in-Miss : goal.returns-in-Miss
unfolding verdict_word
returns-in-Miss c = rw c.in-Miss.is c.put_word-in-Miss.ensures

-- src/lines.rt:27:1
pub returns-in-Touch : goal.returns-in-Touch
unfolding verdict_word
returns-in-Touch c = rw c.in-Touch.is c.put_word-in-Touch.ensures

pub returns-in-Apart : goal.returns-in-Apart
unfolding verdict_word
returns-in-Apart c = rw c.in-Apart.is c.put_word-in-Apart.ensures
