use borrow.Author.Rules.{rules}
use Rattle.meaning.specs.Report.{kind_word}
use Rattle.report_words.proofs.lines.put_kind.Goals as goal

-- src/lines.rt:17:1
pub returns-in-PointTriangle : goal.returns-in-PointTriangle
unfolding kind_word
returns-in-PointTriangle c = rw c.in-PointTriangle.is c.put_word.ensures

-- src/lines.rt:17:1
pub returns-in-EdgeEdge : goal.returns-in-EdgeEdge
unfolding kind_word
returns-in-EdgeEdge c = rw c.in-EdgeEdge.is c.put_word-in-EdgeEdge.ensures
