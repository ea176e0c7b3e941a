-- By whether the corner is left.
use borrow.Author.Rules.{rules}
use Prim.Native.Nat.{ℕ}
use native.Mathlib.Omega.{arith}
use mathlib.Core.Path.{◌≡◌, refl, sym, subst}
use mathlib.Core.Bool.{Bool, true, false}
use mathlib.Core.List.{List}
use lib.IntN.{ℤ}
use lib.ListN.{get_or}
use Rattle.whole.specs.Vector.{Vector, axis}
use Rattle.exact.specs.Places.{apart}
use Rattle.exact.specs.Arrows.{Points}
use Rattle.exact.specs.declared.arrows.Arrow.{Arrow}
use Rattle.corner_laws.specs.Filled.{slot}
use Rattle.corner_leaf.proofs.arrow.Goals as goal

seen-stands : (ps : List ℤ) (at : List ℕ) (a : Arrow) (o from to f : ℕ) (c : Bool) → c ≡ true → from ≡ to → Points a (apart ps o (get_or at from 0)) → Points a (slot c (apart ps o (get_or at to 0)) f)
unfolding slot
seen-stands ps at a o from to f true e k p = subst (λ n. Points a (apart ps o (get_or at n 0))) k p
seen-stands ps at a o from to f false e k p = let z : ◌≡◌ {A = ℕ} 0 1 = cc in absurd (omega arith)

axis-stands : (a : Arrow) (d : Vector) (f : ℕ) (c : Bool) → c ≡ false → Points a (axis f) → Points a (slot c d f)
unfolding slot
axis-stands a d f true e p = let z : ◌≡◌ {A = ℕ} 0 1 = cc in absurd (omega arith)
axis-stands a d f false e p = p

pub arrow_between-requires : goal.arrow_between-requires
arrow_between-requires c =
    let p = c.requires in
    (record { place = p.0.room _ p.3; base = p.0.room _ c.base_of-from.ensures.1 }, p.0.bounded)

pub returns-then-left-i : goal.returns-then-left-i
returns-then-left-i c =
    let a = c.args in
    seen-stands a.positions.now a.at.now _ _ _ _ _ _ c.if-left-i.true c.base_of-from.ensures.0 c.arrow_between.ensures

pub returns-else-left-i : goal.returns-else-left-i
returns-else-left-i c = axis-stands _ _ _ _ c.if-left-i.false c.arrow_along.ensures
