use borrow.Author.Rules.{rules}
use borrow.Author.Tests.{eq-eqb, ne_eqb}
use Rattle.obj_numbers.specs.Finding.{find_starts, find_here, find_goes, find_ends}
use Rattle.obj_numbers.proofs.place_of.Goals as goal

pub loop-k-init : goal.loop-k-init
loop-k-init c = find_starts _ _

pub returns-then-b-byte : goal.returns-then-b-byte
returns-then-b-byte c = find_here c.loop-k.invariant (search rules) (eq-eqb _ _ c.if-b-byte.true)

pub loop-k-preserved : goal.loop-k-preserved
loop-k-preserved c = find_goes c.loop-k.invariant (search rules) (ne_eqb _ _ c.if-b-byte.false)

pub returns : goal.returns
returns c = find_ends c.loop-k.invariant c.loop-k-test.false
