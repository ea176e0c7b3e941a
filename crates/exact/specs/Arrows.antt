-- A vector for a determinant, as the machine holds it: a difference of places, or a unit axis.
use Rattle.std.specs.Prelude.{◌≡◌, ℤ}
use Rattle.whole.specs.Vector.{Vector}
use Rattle.whole.specs.Sizes.{Is, is_self}
use Rattle.whole.specs.Cramer.{Four, each, volumes}
use Rattle.exact.specs.Limits.{difference_limit}
use Rattle.exact.specs.Places.{Short}
use Rattle.exact.specs.declared.arrows.Arrow.{Arrow}

abbrev pub vector_of : Arrow → Vector
vector_of a = record { x = a.x; y = a.y; z = a.z }

-- the arrow is the vector, which is as short as a difference of places
pub record Points (a : Arrow) (v : Vector) : Type 0 where
  pub is_x : Is difference_limit a.x v.x
  pub is_y : Is difference_limit a.y v.y
  pub is_z : Is difference_limit a.z v.z

abbrev pub ShortArrow : Arrow → Type 0
ShortArrow a = Points a (vector_of a)

abbrev pub arrow_volumes : Four Arrow → Four ℤ
arrow_volumes a = volumes (each vector_of a)

module _ {a : Arrow} {v : Vector} (h : Points a v) where
  pub points_short : ShortArrow a
  points_short = record { is_x = is_self h.is_x; is_y = is_self h.is_y; is_z = is_self h.is_z }

  pub points_same : vector_of a ≡ v
  points_same = λ i. record { x = h.is_x.same i; y = h.is_y.same i; z = h.is_z.same i }

pub arrow_short : {a : Arrow} → ShortArrow a → Short difference_limit (vector_of a)
arrow_short h = record { in_x = h.is_x.within; in_y = h.is_y.within; in_z = h.is_z.within }
