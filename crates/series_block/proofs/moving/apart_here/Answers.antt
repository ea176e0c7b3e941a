use borrow.Author.Tests.{le-leb, lt-leb}
use Rattle.series_block.proofs.moving.apart_here.Goals as goal

pub returns-then-positions-k : goal.returns-then-positions-k
returns-then-positions-k c = simp (le-leb _ _ c.if-positions-k.true, c.comes_apart.ensures)

pub returns : goal.returns
returns c = simp (lt-leb _ _ c.if-positions-k.false)
