-- A difference is at most 1,048,574. "Each determinant still fits in 64 bits, under 6 x 2^60, but a sum of several need not": two do, and three need not.
use Rattle.std.specs.Prelude.{List, ℕ, ◌+◌, ◌*◌, ◌^◌, ◌<◌, ℤ, nat_abs, ◌+ℤ◌}
use Rattle.std.proofs.Common.{lt_of_le_of_lt, lit<, lit≤}
use Rattle.whole.specs.Vector.{Vector, volume}
use Rattle.whole.specs.Sizes.{Within}
use Rattle.whole.proofs.Sizes.{within_add, within_sub, within_wider}
use Rattle.meaning.specs.Limits.{contact_limit}
use Rattle.exact.specs.Limits.{difference_limit, determinant_limit}
use Rattle.exact.specs.Places.{Bounded, Short, apart}
use Rattle.exact.specs.Largest.{largest}

-- a difference is at most twice the bound of a coordinate
pub apart_short : {B : ℕ} {ps : List ℤ} → Bounded B ps → (o b : ℕ) → Short (B + B) (apart ps o b)
apart_short h o b =
    record { in_x = within_sub (h.at _) (h.at _); in_y = within_sub (h.at _) (h.at _); in_z = within_sub (h.at _) (h.at _) }

pub volume_within : {a b c : Vector} → Short difference_limit a → Short difference_limit b → Short difference_limit c → Within determinant_limit (volume a b c)
volume_within p q r = within_wider (lit≤ tt) (largest difference_limit p q r)

pub determinant_small : {z : ℤ} → Within determinant_limit z → nat_abs z < 6 * 2 ^ 60
determinant_small h = lt_of_le_of_lt h.size (lit< tt)

-- a signed number of 64 bits holds the sum of any two
pub two_small : {a b : ℤ} → Within determinant_limit a → Within determinant_limit b → nat_abs (a +ℤ b) < 2 ^ 63
two_small p q = lt_of_le_of_lt (within_add p q).size (lit< tt)

-- ---- in the range that coordinates had at first: "stays under 6 x 2^57 in size; four of them under 2^62"

abbrev pub first_difference : ℕ
first_difference = contact_limit + contact_limit

pub first_volume_small : {a b c : Vector} → Short first_difference a → Short first_difference b → Short first_difference c → nat_abs (volume a b c) < 6 * 2 ^ 57
first_volume_small p q r = lt_of_le_of_lt (largest first_difference p q r).size (lit< tt)

pub first_four_small : {a b c d : ℤ} → Within (4 * first_difference ^ 3) a → Within (4 * first_difference ^ 3) b → Within (4 * first_difference ^ 3) c → Within (4 * first_difference ^ 3) d → nat_abs (a +ℤ b +ℤ c +ℤ d) < 2 ^ 62
first_four_small p q r s = lt_of_le_of_lt (within_add (within_add (within_add p q) r) s).size (lit< tt)
