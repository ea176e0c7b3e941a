-- Four volumes in the range that coordinates had at first, a part of them and a whole.
use Rattle.std.specs.Prelude.{ℕ, ◌*◌, ◌^◌, ◌≤◌, ◌<◌, Bool, true, false, ◌≢◌, ℤ, pos, nat_abs}
use Rattle.std.proofs.Common.{lit≤}
use Rattle.whole.specs.Vector.{Vector}
use Rattle.whole.specs.Sizes.{Within, within_neg}
use Rattle.whole.specs.Cramer.{Four, volumes}
use Rattle.exact.specs.Bounds.{first_difference, first_four_small}
use Rattle.exact.specs.Places.{Short}
use Rattle.exact.specs.Largest.{largest}
use Rattle.exact_signs.specs.BySigns.{sum, keep, kept}

-- a determinant of differences in that range
abbrev pub first_volume : ℕ
first_volume = 4 * first_difference ^ 3

pub record InRange (e : Four ℤ) : Type 0 where
  pub in0 : Within first_volume e.v0
  pub in1 : Within first_volume e.v1
  pub in2 : Within first_volume e.v2
  pub in3 : Within first_volume e.v3

-- the whole is not 0, and the part no larger in size
pub record Part (part whole : Four Bool) (e : Four ℤ) : Type 0 where
  pub some : sum (kept whole e) ≢ pos 0
  pub fits : nat_abs (sum (kept part e)) ≤ nat_abs (sum (kept whole e))

keep_within : (t : Bool) {e : ℤ} → Within first_volume e → Within first_volume (keep t e)
unfolding keep
keep_within true h = h
keep_within false h = record { size = lit≤ tt }

module _ {e : Four ℤ} (h : InRange e) where
  pub kept_in_range : (t : Four Bool) → InRange (kept t e)
  kept_in_range t =
      record {
        in0 = keep_within t.v0 h.in0;
        in1 = keep_within t.v1 h.in1;
        in2 = keep_within t.v2 h.in2;
        in3 = keep_within t.v3 h.in3;
      }

  pub sum_small : nat_abs (sum e) < 2 ^ 62
  sum_small = first_four_small h.in0 h.in1 h.in2 h.in3

-- the volumes of short differences are
pub volumes_in_range : (d : Four Vector) → Short first_difference d.v0 → Short first_difference d.v1 → Short first_difference d.v2 → Short first_difference d.v3 → InRange (volumes d)
volumes_in_range d p q r s =
    record {
      in0 = largest first_difference q r s;
      in1 = within_neg (largest first_difference p r s);
      in2 = largest first_difference p q s;
      in3 = within_neg (largest first_difference p q r);
    }
