-- The two tests of a signed number are the one of its size.
use Prim.Native.Nat.{ℕ, suc, ◌-◌}
use mathlib.Core.Bool.{◌||◌, or-false}
use mathlib.Core.Path.{◌≡◌, refl, sym, ◌∙◌}
use lib.Dec.{ltb, leb-suc-suc}
use lib.IntN.{ℤ, pos, negsuc, nat_abs}
use lib.Signed.{lt_z}
use mir.Facts.{to_z-of_z}
use Rattle.meaning.specs.Limits.{coordinate_limit}
use Rattle.scene_checks.proofs.faults.outside.Goals as goal

-- below -(b + 1), or above b + 1
either_side : (b : ℕ) (z : ℤ) → lt_z z (negsuc b) || lt_z (pos (suc b)) z ≡ ltb (suc b) (nat_abs z)
either_side b (pos n) = refl
either_side b (negsuc n) = or-false (ltb b n) ∙ sym (leb-suc-suc (suc b) n)

pub returns : goal.returns
returns c =
    let z = c.args.coordinate in
    rw (to_z-of_z {z = z} c.ranges.coordinate) (either_side (coordinate_limit - 1) z)
