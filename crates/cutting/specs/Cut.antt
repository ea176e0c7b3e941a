-- Document 02: each number over 2^20 is at most the exact value and short of it by less than 1 in 2^20, said by multiplying out.
use Rattle.std.specs.Prelude.{ℕ, ◌+◌, ◌*◌, ◌≤◌, ◌<◌, ◌≡◌}
use Rattle.std.proofs.Common.{mul_assoc, mul_right_comm, mul-le-mul_left, mul-le-mul_right, le_of_mul-le-mul_right, lt_of_mul-lt-mul_right, le_trans, lt_of_le_of_lt, mul-lt-mul_of_pos_right, arith}

-- 2^20
abbrev pub unit : ℕ
unit = 1_048_576

-- n is the whole part of 2^20 times part / whole
pub record CutTo (part whole n : ℕ) : Type 0 where
  pub not_above : n * whole ≤ unit * part
  pub near : unit * part < (n + 1) * whole

-- ---- one number, and the same for every way of writing the same share

-- two numbers that cut one share are one
not_above_lem : (part whole m n : ℕ) → CutTo part whole m → CutTo part whole n → m ≤ n
not_above_lem part whole m n p q =
    let h : m * whole < (n + 1) * whole = lt_of_le_of_lt p.not_above q.near in
    let k : m < n + 1 = lt_of_mul-lt-mul_right whole h in
    omega arith

pub cut_one : (part whole m n : ℕ) → CutTo part whole m → CutTo part whole n → m ≡ n
cut_one part whole m n p q =
    let a : m ≤ n = not_above_lem part whole m n p q in
    let b : n ≤ m = not_above_lem part whole n m q p in
    omega arith

-- a share that is written with other numbers is cut to the same
pub cut_again : (part whole part' whole' n : ℕ) → 0 < whole → 0 < whole' → part * whole' ≡ part' * whole → CutTo part whole n
    → CutTo part' whole' n
cut_again part whole part' whole' n w w' same c =
    record {
      not_above =
          le_of_mul-le-mul_right {k = whole}
          (rw (mul_right_comm n whole' whole, mul_assoc unit part' whole, ← same, ← mul_assoc unit part whole') (mul-le-mul_right whole' c.not_above))
          w;
      near =
          lt_of_mul-lt-mul_right whole
          (rw (mul_right_comm (n + 1) whole' whole, mul_assoc unit part' whole, ← same, ← mul_assoc unit part whole') (mul-lt-mul_of_pos_right c.near w'));
    }

-- a part is at most its whole, and so is its number
pub cut_at_most : (part whole n : ℕ) → 0 < whole → part ≤ whole → CutTo part whole n → n ≤ unit
cut_at_most part whole n w h c =
    le_of_mul-le-mul_right {k = whole} (le_trans c.not_above (mul-le-mul_left unit h)) w
