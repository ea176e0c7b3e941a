-- A place in the positions: three numbers from an offset on. What a coordinate's bound says of them all.
use Rattle.std.specs.Prelude.{List, ℕ, zero, suc, ◌+◌, ◌≤◌, length, get_or, ℤ, pos}
use Rattle.whole.specs.Vector.{Vector, minus}
use Rattle.whole.specs.Sizes.{Within}

abbrev pub place_at : List ℤ → ℕ → Vector
place_at ps i =
    record { x = get_or ps i (pos 0); y = get_or ps (i + 1) (pos 0); z = get_or ps (i + 2) (pos 0) }

-- the place at o, seen from the place at b
abbrev pub apart : List ℤ → ℕ → ℕ → Vector
apart ps o b = minus (place_at ps o) (place_at ps b)

-- a vector's coordinate along axis 0, 1 or 2
abbrev pub along : ℕ → Vector → ℤ
along zero v = v.x
along (suc zero) v = v.y
along (suc (suc k)) v = v.z

-- every number of the list is at most B in size (past its end, the 0 is)
pub record Bounded (B : ℕ) (ps : List ℤ) : Type 0 where
  pub at : (i : ℕ) → Within B (get_or ps i (pos 0))

abbrev pub vector : ℤ → ℤ → ℤ → Vector
vector a b c = record { x = a; y = b; z = c }

-- each coordinate of the vector is at most B in size
pub record Short (B : ℕ) (v : Vector) : Type 0 where
  pub in_x : Within B v.x
  pub in_y : Within B v.y
  pub in_z : Within B v.z

-- both offsets have a whole place in the list
pub record Room (ps : List ℤ) (o b : ℕ) : Type 0 where
  pub place : o + 3 ≤ length ps
  pub base : b + 3 ≤ length ps
