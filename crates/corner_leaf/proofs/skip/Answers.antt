use borrow.Author.Rules.{rules}
use borrow.Author.Tests.{lt-ltb, le-ltb}
use Rattle.corner_laws.specs.Others.{skip_is}
use Rattle.corner_leaf.proofs.skip.Goals as goal

pub returns-then-k-i : goal.returns-then-k-i
returns-then-k-i c = rw (skip_is c.args.i c.args.k) (simp (lt-ltb _ _ c.if-k-i.true))

pub returns-else-k-i : goal.returns-else-k-i
returns-else-k-i c = rw (skip_is c.args.i c.args.k) (simp (le-ltb _ _ c.if-k-i.false))
