-- One of the first simplex as it is seen, one of the second backwards.
use borrow.Author.Rules.{rules}
use borrow.Author.Tests.{lt-ltb, le-ltb}
use Prim.Native.Nat.{ℕ, ◌≤◌, ◌<◌}
use mathlib.Core.Path.{◌≡◌, sym, ◌∙◌, ap, subst}
use mathlib.Core.Bool.{Bool, false, cond}
use mathlib.Core.List.{List}
use lib.IntN.{ℤ}
use lib.ListN.{get_or}
use Rattle.exact.specs.Places.{apart}
use Rattle.exact.specs.Arrows.{vector_of, Points, points_same, points_short}
use Rattle.exact.specs.declared.arrows.Arrow.{Arrow}
use Rattle.corner_sides.specs.declared.Shadow.{Shadow}
use Rattle.corner_sides.specs.Shadows.{Shades}
use Rattle.corner_sides.specs.Parted.{facing_in}
use Rattle.corner_sides.proofs.shadow_of.Goals as goal

module _ (ps : List ℤ) (at : List ℕ) (ends : List Bool) (first s e i axis : ℕ) where
  abbrev o : ℕ
  o = get_or at i 0

  abbrev base : ℕ
  base = get_or at (cond (get_or ends i false) e s) 0

  of-first : {r : Shadow} {a : Arrow} {from : ℕ} → from ≡ cond (get_or ends i false) e s → i < first → Points a (apart ps o (get_or at from 0))
      → Shades r axis (vector_of a) → Shades r axis (facing_in ps at ends first s e i)
  of-first {r} is h p k =
      subst (Shades r axis)
      (points_same p ∙ ap (λ n. apart ps o (get_or at n 0)) is ∙ sym (ap (λ c. cond c (apart ps o base) (apart ps base o)) (lt-ltb i first h))) k

  of-second : {r : Shadow} {a : Arrow} {from : ℕ} → from ≡ cond (get_or ends i false) e s → first ≤ i → Points a (apart ps (get_or at from 0) o)
      → Shades r axis (vector_of a) → Shades r axis (facing_in ps at ends first s e i)
  of-second {r} is h p k =
      subst (Shades r axis)
      (points_same p ∙ ap (λ n. apart ps (get_or at n 0) o) is ∙ sym (ap (λ c. cond c (apart ps o base) (apart ps base o)) (le-ltb i first h))) k

pub arrow_between-requires : goal.arrow_between-requires
arrow_between-requires c = let p = c.requires in (record { place = p.0.room _ p.3; base = p.0.room _ c.base_of-from.ensures.1 }, p.0.bounded)

pub shade-requires : goal.shade-requires
shade-requires c = points_short c.arrow_between.ensures

pub arrow_between-requires-else-i-first : goal.arrow_between-requires-else-i-first
arrow_between-requires-else-i-first c = let p = c.requires in (record { place = p.0.room _ c.base_of-from.ensures.1; base = p.0.room _ p.3 }, p.0.bounded)

pub shade-requires-else-i-first : goal.shade-requires-else-i-first
shade-requires-else-i-first c = points_short c.arrow_between-else-i-first.ensures

pub returns-then-i-first : goal.returns-then-i-first
returns-then-i-first c =
    let a = c.args in
    of-first a.positions.now a.at.now a.ends.now _ _ _ _ _ c.base_of-from.ensures.0 c.if-i-first.true c.arrow_between.ensures c.shade.ensures

pub returns-else-i-first : goal.returns-else-i-first
returns-else-i-first c =
    let a = c.args in
    of-second a.positions.now a.at.now a.ends.now _ _ _ _ _ c.base_of-from.ensures.0 c.if-i-first.false c.arrow_between-else-i-first.ensures c.shade-else-i-first.ensures
