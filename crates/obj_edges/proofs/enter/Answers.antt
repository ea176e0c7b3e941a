-- `obj_edges::enter` meets its contract: four stores, one after the other.
use native.Mathlib.Omega.{arith}
use lib.ListN.{length-set}
use borrow.Author.Rules.{rules}
use Rattle.obj_edges.proofs.enter.Goals as goal

pub bounds-edges-last-2 : goal.bounds-edges-last-2
bounds-edges-last-2 c = simp length-set (omega (arith, c.requires.tabled.room, c.requires.b_bound))

pub bounds-edges-count-2 : goal.bounds-edges-count-2
bounds-edges-count-2 c = simp length-set (omega (arith, c.requires.tabled.room, c.requires.tabled.few))

pub bounds-edges-count-3 : goal.bounds-edges-count-3
bounds-edges-count-3 c = simp length-set (omega (arith, c.requires.tabled.room, c.requires.tabled.few))
