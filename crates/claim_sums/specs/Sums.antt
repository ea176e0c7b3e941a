-- The sums of a claim as code forms them: the weighted sum over the points from one place to another, in a row of the equations.
use Rattle.std.specs.Prelude.{ℕ, zero, suc, ◌+◌, ◌*◌, ◌-◌, ◌≤◌, ◌<◌, Bool, ◌||◌, ◌&&◌, List, ltb, ℤ, pos, take, drop}
use Rattle.std.specs.Int.Signed.{le_z, lt_z}
use Rattle.meaning.specs.Limits.{coordinate_limit, weight_limit}
use Rattle.meaning.specs.Pieces.{Event}
use Rattle.meaning.specs.Equations.{one, x_of, y_of, z_of, time_of, total}
use Rattle.meaning.specs.Claims.{weight_at}
use Rattle.exact.specs.Places.{place_at}
use Rattle.exact_signs.specs.BySignsLaws.{clock}
use Rattle.corner_leaf.specs.declared.SixPoints.{SixPoints}
use Rattle.corner_leaf.specs.Points.{six_events}

-- a weight times a coordinate, and six of these; a time and the number one are no larger than a coordinate can be
abbrev pub share_limit : ℕ
share_limit = weight_limit * coordinate_limit

abbrev pub side_limit : ℕ
side_limit = 6 * share_limit

-- one of the six weights is above its limit
abbrev pub heavy : List ℕ → Bool
heavy ws =
    ltb weight_limit (weight_at ws 0) || ltb weight_limit (weight_at ws 1) || ltb weight_limit (weight_at ws 2)
    || ltb weight_limit (weight_at ws 3) || ltb weight_limit (weight_at ws 4) || ltb weight_limit (weight_at ws 5)

-- none is
pub record Light (ws : List ℕ) : Type 0 where
  pub at : (i : ℕ) → i < 6 → weight_at ws i ≤ weight_limit

-- x, y, z, time, and the plain sum of the weights
unfoldable pub reading : ℕ → Event → ℤ
reading zero e = x_of e
reading (suc zero) e = y_of e
reading (suc (suc zero)) e = z_of e
reading (suc (suc (suc zero))) e = time_of e
reading (suc (suc (suc (suc row)))) e = one e

abbrev pub point_at : List ℤ → ℕ → Bool → Event
point_at ps at end = record { place = place_at ps at; time = clock end }

-- the points from one place to another, and their weighted sum
abbrev pub from_to : {A : Type 0} → ℕ → ℕ → List A → List A
from_to i j l = take (j - i) (drop i l)

unfoldable pub side : List ℤ → SixPoints → List ℕ → ℕ → ℕ → ℕ → ℤ
side ps six ws i j row = total (reading row) (λ k. pos (weight_at ws (i + k))) (from_to i j (six_events ps six))

unfoldable pub agrees : List ℤ → SixPoints → List ℕ → ℕ → Bool
agrees ps six ws row =
    le_z (side ps six ws 0 six.first row) (side ps six ws six.first 6 row)
    && le_z (side ps six ws six.first 6 row) (side ps six ws 0 six.first row)

-- x, y, z, time and the sums agree, and the first sum is above 0
abbrev pub passes : List ℤ → SixPoints → List ℕ → Bool
passes ps six ws =
    agrees ps six ws 0 && agrees ps six ws 1 && agrees ps six ws 2 && agrees ps six ws 3 && agrees ps six ws 4
    && lt_z (pos 0) (side ps six ws 0 six.first 4)
