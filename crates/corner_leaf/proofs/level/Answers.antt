-- Five places beside the first.
use borrow.Author.Rules.{rules}
use Prim.Native.Nat.{ℕ, ◌+◌, ◌<◌}
use native.Mathlib.Omega.{arith}
use mathlib.Core.List.{List}
use lib.Dec.{lit<}
use lib.IntN.{ℤ}
use lib.ListN.{length, get_or}
use Rattle.corner_leaf.specs.Points.{Placed}
use Rattle.corner_leaf.proofs.level.Goals as goal

-- each coordinate of a place stands in the positions
inside : {ps : List ℤ} {at : List ℕ} {axis : ℕ} → Placed ps at → axis < 3 → (i : ℕ) → i < 6 → get_or at i 0 + axis < length ps
inside p h i k = omega (arith, p.room i k)

pub overflow_add-first : goal.overflow_add-first
overflow_add-first c = let h = inside c.requires.0 c.requires.1 0 (lit< tt) in search rules

pub overflow_add-at : goal.overflow_add-at
overflow_add-at c = let h = inside c.requires.0 c.requires.1 1 (lit< tt) in search rules

pub alike-requires : goal.alike-requires
alike-requires c = (inside c.requires.0 c.requires.1 0 (lit< tt), inside c.requires.0 c.requires.1 1 (lit< tt))

pub overflow_add-at-2 : goal.overflow_add-at-2
overflow_add-at-2 c = let h = inside c.requires.0 c.requires.1 2 (lit< tt) in search rules

pub alike-requires-2 : goal.alike-requires-2
alike-requires-2 c = (inside c.requires.0 c.requires.1 0 (lit< tt), inside c.requires.0 c.requires.1 2 (lit< tt))

pub overflow_add-at-3 : goal.overflow_add-at-3
overflow_add-at-3 c = let h = inside c.requires.0 c.requires.1 3 (lit< tt) in search rules

pub alike-requires-3 : goal.alike-requires-3
alike-requires-3 c = (inside c.requires.0 c.requires.1 0 (lit< tt), inside c.requires.0 c.requires.1 3 (lit< tt))

pub overflow_add-at-4 : goal.overflow_add-at-4
overflow_add-at-4 c = let h = inside c.requires.0 c.requires.1 4 (lit< tt) in search rules

pub alike-requires-4 : goal.alike-requires-4
alike-requires-4 c = (inside c.requires.0 c.requires.1 0 (lit< tt), inside c.requires.0 c.requires.1 4 (lit< tt))

pub overflow_add-at-5 : goal.overflow_add-at-5
overflow_add-at-5 c = let h = inside c.requires.0 c.requires.1 5 (lit< tt) in search rules

pub alike-requires-5 : goal.alike-requires-5
alike-requires-5 c = (inside c.requires.0 c.requires.1 0 (lit< tt), inside c.requires.0 c.requires.1 5 (lit< tt))

pub returns : goal.returns
returns c = rw (c.alike-5.ensures, c.alike-4.ensures, c.alike-3.ensures, c.alike-2.ensures, c.alike.ensures)
