-- `series_block::closed_or` meets its contract: the test is the definition's.
use borrow.Author.Tests.{le-leb, lt-leb}
use Rattle.series_block.proofs.closed_or.Goals as goal

pub returns-then-vertices-k : goal.returns-then-vertices-k
returns-then-vertices-k c = rw (le-leb _ _ c.if-vertices-k.true)

pub returns-else-vertices-k : goal.returns-else-vertices-k
returns-else-vertices-k c = rw (lt-leb _ _ c.if-vertices-k.false)
