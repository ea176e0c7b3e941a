-- By the axis.
use Prim.Native.Nat.{ℕ, zero, suc}
use mathlib.Core.Path.{◌≡◌, refl}
use mathlib.Core.Logic.{◌≢◌}
use mir.Syntax.{w64}
use Rattle.whole.specs.Sizes.{Is}
use Rattle.whole.proofs.Sizes.{back}
use Rattle.exact.specs.Limits.{difference_limit}
use Rattle.exact.specs.Arrows.{vector_of}
use Rattle.exact.specs.declared.arrows.Arrow.{Arrow}
use Rattle.corner_sides.specs.declared.Shadow.{Shadow}
use Rattle.corner_sides.specs.Shadows.{Shades}
use Rattle.corner_sides.proofs.shade.Goals as goal

module _ {r : Shadow} (a : Arrow) (axis : ℕ) where
  across-x : axis ≡ 0 → Is difference_limit r.x a.y → Is difference_limit r.y a.z → Shades r axis (vector_of a)
  across-x e h k = rw e (record { is_x = h; is_y = k })

  across-y : axis ≡ 1 → Is difference_limit r.x a.z → Is difference_limit r.y a.x → Shades r axis (vector_of a)
  across-y e h k = rw e (record { is_x = h; is_y = k })

across-z : {r : Shadow} (a : Arrow) (axis : ℕ) → axis ≢ 0 → axis ≢ 1 → Is difference_limit r.x a.x → Is difference_limit r.y a.y → Shades r axis (vector_of a)
across-z a zero e f h k = absurd (e refl)
across-z a (suc zero) e f h k = absurd (f refl)
across-z a (suc (suc n)) e f h k = record { is_x = h; is_y = k }

pub returns-then-axis-eq0 : goal.returns-then-axis-eq0
returns-then-axis-eq0 c = let p = c.requires in across-x _ _ c.if-axis-eq0.true (back w64 p.is_y tt) (back w64 p.is_z tt)

pub returns-then-axis-eq1 : goal.returns-then-axis-eq1
returns-then-axis-eq1 c = let p = c.requires in across-y _ _ c.if-axis-eq1.true (back w64 p.is_z tt) (back w64 p.is_x tt)

pub returns-else-axis-eq1 : goal.returns-else-axis-eq1
returns-else-axis-eq1 c = let p = c.requires in across-z _ _ c.if-axis-eq0.false c.if-axis-eq1.false (back w64 p.is_x tt) (back w64 p.is_y tt)
