-- A share cut by one division, and by two.
use Rattle.std.specs.Prelude.{ℕ, ◌+◌, ◌*◌, ◌/◌, ◌%◌, ◌≤◌, ◌<◌, ◌≡◌}
use Rattle.std.proofs.Common.{mod-lt, div-add-mod', add-mul, mul_comm, mul_right_comm, arith, ◌∙◌}
use Rattle.std.proofs.Math.Nat.{div-le_of_le-mul}
use Rattle.cutting.specs.Cut.{unit, CutTo}

-- what goes into 2^20 times the part, and a rest below the whole
cut_with : (part whole n r : ℕ) → n * whole + r ≡ unit * part → r < whole → CutTo part whole n
cut_with part whole n r e h =
    let m : (n + 1) * whole ≡ n * whole + 1 * whole = add-mul n 1 whole in
    record { not_above = omega arith; near = omega arith }

pub cut_once : (part whole : ℕ) → 0 < whole → CutTo part whole (part * unit / whole)
cut_once part whole h =
    cut_with part whole (part * unit / whole) (part * unit % whole) (div-add-mod' (part * unit) whole ∙ mul_comm part unit) (mod-lt (part * unit) h)

-- a digit of 2^10 and then another
pub cut_twice : (part whole : ℕ) → 0 < whole → CutTo part whole (part * 1024 / whole * 1024 + part * 1024 % whole * 1024 / whole)
cut_twice part whole h =
    let a : ℕ = part * 1024 / whole in
    let r : ℕ = part * 1024 % whole in
    let b : ℕ = r * 1024 / whole in
    let first : a * whole + r ≡ part * 1024 = div-add-mod' (part * 1024) whole in
    let second : b * whole + r * 1024 % whole ≡ r * 1024 = div-add-mod' (r * 1024) whole in
    let apart : (a * 1024 + b) * whole ≡ a * 1024 * whole + b * whole = add-mul (a * 1024) b whole in
    let moved : a * 1024 * whole ≡ a * whole * 1024 = mul_right_comm a 1024 whole in
    cut_with part whole (a * 1024 + b) (r * 1024 % whole) (omega arith) (mod-lt (r * 1024) h)

-- a digit is no larger than its base
pub digit_at_most : (rest whole : ℕ) → rest ≤ whole → 0 < whole → rest * 1024 / whole ≤ 1024
digit_at_most rest whole h w = div-le_of_le-mul whole (rw (mul_comm whole 1024) (omega arith))
