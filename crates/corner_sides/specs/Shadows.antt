-- The shadow of a vector along an axis, two of its coordinates; and the sides of four shadows, as the machine holds them.
use Rattle.std.specs.Prelude.{ℕ, zero, suc, ◌≡◌, refl, [], ◌∷◌, ℤ, pos, neg_ℤ, ◌-ℤ◌}
use Rattle.std.proofs.Common.{ap}
use Rattle.whole.specs.Vector.{Vector, origin, minus}
use Rattle.whole.specs.Quote.{quotes, ring}
use Rattle.whole.specs.Sizes.{Is, is_self}
use Rattle.whole.specs.Cramer.{Four, each, weigh, dot4}
use Rattle.exact.specs.Limits.{difference_limit}
use Rattle.corner_sides.specs.declared.Shadow.{Shadow}
use Rattle.corner_sides.specs.declared.Crosses.{Crosses}
use Rattle.corner_sides.specs.Pivot.{Sides, sides_of}

-- the coordinates along the two other axes, in their order round
abbrev pub shadow_x : ℕ → Vector → ℤ
shadow_x zero v = v.y
shadow_x (suc zero) v = v.z
shadow_x (suc (suc k)) v = v.x

abbrev pub shadow_y : ℕ → Vector → ℤ
shadow_y zero v = v.z
shadow_y (suc zero) v = v.x
shadow_y (suc (suc k)) v = v.y

-- the shadow is the vector's, which is as short as a difference of places
pub record Shades (r : Shadow) (axis : ℕ) (v : Vector) : Type 0 where
  pub is_x : Is difference_limit r.x (shadow_x axis v)
  pub is_y : Is difference_limit r.y (shadow_y axis v)

pub record ShortShadow (r : Shadow) : Type 0 where
  pub short_x : Is difference_limit r.x r.x
  pub short_y : Is difference_limit r.y r.y

pub shades_short : {r : Shadow} {axis : ℕ} {v : Vector} → Shades r axis v → ShortShadow r
shades_short h = record { short_x = is_self h.is_x; short_y = is_self h.is_y }

-- the six sides of four shadows
abbrev pub sides_in : Crosses → Sides
sides_in c = record { ab = c.ab; ac = c.ac; ad = c.ad; bc = c.bc; bd = c.bd; cd = c.cd }

pub record CrossesOf (c : Crosses) (a b d e : Shadow) : Type 0 where
  pub sides : sides_in c ≡ sides_of (record { v0 = a.x; v1 = b.x; v2 = d.x; v3 = e.x }) (record { v0 = a.y; v1 = b.y; v2 = d.y; v3 = e.y })

-- ---- a shadow is made of the vector's coordinates, each as it is

pub no_shadow_x : (axis : ℕ) (n : Four ℤ) (v : Four Vector) → weigh n v ≡ origin → dot4 n (each (shadow_x axis) v) ≡ pos 0
no_shadow_x zero n v h = ap (λ (v : Vector). v.y) h
no_shadow_x (suc zero) n v h = ap (λ (v : Vector). v.z) h
no_shadow_x (suc (suc k)) n v h = ap (λ (v : Vector). v.x) h

pub no_shadow_y : (axis : ℕ) (n : Four ℤ) (v : Four Vector) → weigh n v ≡ origin → dot4 n (each (shadow_y axis) v) ≡ pos 0
no_shadow_y zero n v h = ap (λ (v : Vector). v.z) h
no_shadow_y (suc zero) n v h = ap (λ (v : Vector). v.x) h
no_shadow_y (suc (suc k)) n v h = ap (λ (v : Vector). v.y) h

backwards : (a b : ℤ) → b -ℤ a ≡ neg_ℤ (a -ℤ b)
backwards a b = ring (a ∷ b ∷ []) (search quotes depth 40 fits 9000) refl

pub backwards_x : (axis : ℕ) (a b : Vector) → shadow_x axis (minus b a) ≡ neg_ℤ (shadow_x axis (minus a b))
backwards_x zero a b = backwards a.y b.y
backwards_x (suc zero) a b = backwards a.z b.z
backwards_x (suc (suc k)) a b = backwards a.x b.x

pub backwards_y : (axis : ℕ) (a b : Vector) → shadow_y axis (minus b a) ≡ neg_ℤ (shadow_y axis (minus a b))
backwards_y zero a b = backwards a.z b.z
backwards_y (suc zero) a b = backwards a.x b.x
backwards_y (suc (suc k)) a b = backwards a.y b.y
