-- `kind_part`: by the kind.
use borrow.Author.Rules.{rules}
use Rattle.meaning.specs.List.{kind_part}
use Rattle.list_entries.proofs.kind_part.Goals as goal

pub returns-in-PointTriangle : goal.returns-in-PointTriangle
unfolding kind_part
returns-in-PointTriangle c = rw c.in-PointTriangle.is

pub returns-in-EdgeEdge : goal.returns-in-EdgeEdge
unfolding kind_part
returns-in-EdgeEdge c = rw c.in-EdgeEdge.is
