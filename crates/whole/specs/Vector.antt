-- Vectors of three whole numbers, and the 3 by 3 determinant of three of them, here called their volume.
use Rattle.std.specs.Prelude.{ℕ, zero, suc, ℤ, pos, ◌+ℤ◌, ◌-ℤ◌, ◌*ℤ◌}

pub record Vector : Type 0 where
  pub x : ℤ
  pub y : ℤ
  pub z : ℤ

abbrev pub origin : Vector
origin = record { x = pos 0; y = pos 0; z = pos 0 }

abbrev pub minus : Vector → Vector → Vector
minus a b = record { x = a.x -ℤ b.x; y = a.y -ℤ b.y; z = a.z -ℤ b.z }

abbrev pub plus : Vector → Vector → Vector
plus a b = record { x = a.x +ℤ b.x; y = a.y +ℤ b.y; z = a.z +ℤ b.z }

abbrev pub scale : ℤ → Vector → Vector
scale k a = record { x = k *ℤ a.x; y = k *ℤ a.y; z = k *ℤ a.z }

-- the determinant with the rows a, b, c, expanded along the first
unfoldable pub volume : Vector → Vector → Vector → ℤ
volume a b c =
    a.x *ℤ (b.y *ℤ c.z -ℤ b.z *ℤ c.y)
    -ℤ a.y *ℤ (b.x *ℤ c.z -ℤ b.z *ℤ c.x)
    +ℤ a.z *ℤ (b.x *ℤ c.y -ℤ b.y *ℤ c.x)

-- the unit along x, y, z, and so round
unfoldable pub axis : ℕ → Vector
axis zero = record { x = pos 1; y = pos 0; z = pos 0 }
axis (suc zero) = record { x = pos 0; y = pos 1; z = pos 0 }
axis (suc (suc zero)) = record { x = pos 0; y = pos 0; z = pos 1 }
axis (suc (suc (suc k))) = axis k
