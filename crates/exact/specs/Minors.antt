-- The minors of two vectors: what a determinant of three leaves of two of them for each coordinate of the third.
use Rattle.std.specs.Prelude.{ℕ, ◌*◌, ◌≡◌, ℤ, ◌-ℤ◌, ◌*ℤ◌}
use Rattle.whole.specs.Vector.{Vector, volume}
use Rattle.whole.proofs.VectorLaws.{cycle}
use Rattle.whole.specs.Sizes.{Is, is_self, is_equal}
use Rattle.exact.specs.Limits.{difference_limit, determinant_limit}
use Rattle.exact.specs.Places.{Short, along}
use Rattle.exact.specs.declared.Minors.{Minors}

-- two products of two differences
abbrev pub minor_limit : ℕ
minor_limit = 2 * (difference_limit * difference_limit)

-- of the coordinates along the axes i and j
abbrev pub minor_of : ℕ → ℕ → Vector → Vector → ℤ
minor_of i j a b = along i a *ℤ along j b -ℤ along j a *ℤ along i b

-- m holds the three minors of a and b, which are as short as differences of places
pub record MinorsOf (m : Minors) (a b : Vector) : Type 0 where
  pub former : Short difference_limit a
  pub latter : Short difference_limit b
  pub is_yz : Is minor_limit m.yz (minor_of 1 2 a b)
  pub is_xz : Is minor_limit m.xz (minor_of 0 2 a b)
  pub is_xy : Is minor_limit m.xy (minor_of 0 1 a b)

-- m holds numbers no larger than a minor
pub record SmallMinors (m : Minors) : Type 0 where
  pub small_yz : Is minor_limit m.yz m.yz
  pub small_xz : Is minor_limit m.xz m.xz
  pub small_xy : Is minor_limit m.xy m.xy

pub minors_small : {m : Minors} {a b : Vector} → MinorsOf m a b → SmallMinors m
minors_small h =
    record { small_yz = is_self h.is_yz; small_xz = is_self h.is_xz; small_xy = is_self h.is_xy }

-- r is the volume of c, standing first, with any two vectors that have the minors m
pub record VolumeWith (m : Minors) (c : Vector) (r : ℤ) : Type 0 where
  pub volume_of : (a b : Vector) → MinorsOf m a b → Is determinant_limit r (volume c a b)

module _ {m : Minors} {a b c : Vector} {r : ℤ} (h : VolumeWith m c r) (k : MinorsOf m a b) where
  pub standing_first : Is determinant_limit r (volume c a b)
  standing_first = h.volume_of a b k

  -- turned, it stands last
  pub standing_last : Is determinant_limit r (volume a b c)
  standing_last = is_equal (cycle c a b) standing_first
