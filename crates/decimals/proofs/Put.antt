-- The loops that count the digits of a number and write them, the last one first.
use mathlib.Core.List.{List, [], ◌∷◌, ◌++◌}
use mathlib.Core.Path.{◌≡◌, refl, sym, ap, ◌∙◌, subst}
use Prim.Native.Nat.{ℕ, zero, suc, ◌+◌, ◌-◌, ◌/◌, ◌%◌, ◌≤◌, ◌<◌}
use native.Mathlib.Omega.{arith}
use lib.ListN.{length, drop, set, length-append}
use Rattle.sequences.specs.Writing.{WritingDown, down_starts, down_step, down_ends, down_as}
use Rattle.sequences.specs.Wrote.{Wrote}
use Rattle.decimals.specs.Digits.{digit_byte, digits, digits_small, digits_large, by_tens}

-- the last k digits of a number
unfoldable pub last_digits : ℕ → ℕ → List ℕ
last_digits zero n = []
last_digits (suc k) n = last_digits k (n / 10) ++ (digit_byte (n % 10) ∷ [])

last_length : (k n : ℕ) → length (last_digits k n) ≡ k
unfolding last_digits
last_length zero n = refl
last_length (suc k) n = omega (arith, length-append (last_digits k (n / 10)) (digit_byte (n % 10) ∷ []), last_length k (n / 10))

-- as many as the number has are all of them
last_all : (n : ℕ) → last_digits (length (digits n)) n ≡ digits n
unfolding last_digits
last_all =
    by_tens (λ n. last_digits (length (digits n)) n ≡ digits n)
    (λ n h. let one : n % 10 ≡ n = omega arith in rw (digits_small n h) (ap (λ (d : ℕ). digit_byte d ∷ []) one))
    (λ n h next.
    let more : length (digits n) ≡ suc (length (digits (n / 10))) =
    omega (arith, ap length (digits_large n h), length-append (digits (n / 10)) (digit_byte (n % 10) ∷ [])) in
    cc (digits_large n h, next))

-- ---- counting

pub length_small : (n : ℕ) → n < 10 → length (digits n) ≡ 1
length_small n h = ap length (digits_small n h)

pub length_large : (n : ℕ) → 10 ≤ n → length (digits n) ≡ length (digits (n / 10)) + 1
length_large n h = ap length (digits_large n h) ∙ length-append (digits (n / 10)) (digit_byte (n % 10) ∷ [])

pub two_digits : (n : ℕ) → 10 ≤ n → n < 100 → length (digits n) ≡ 2
two_digits n h k = omega (arith, length_large n h, length_small (n / 10) (omega arith))

pub three_digits : (n : ℕ) → 100 ≤ n → n < 1_000 → length (digits n) ≡ 3
three_digits n h k = omega (arith, length_large n (omega arith), two_digits (n / 10) (omega arith) (omega arith))

pub four_digits : (n : ℕ) → 1_000 ≤ n → n < 10_000 → length (digits n) ≡ 4
four_digits n h k = omega (arith, length_large n (omega arith), three_digits (n / 10) (omega arith) (omega arith))

pub five_digits : (n : ℕ) → 10_000 ≤ n → n < 100_000 → length (digits n) ≡ 5
five_digits n h k = omega (arith, length_large n (omega arith), four_digits (n / 10) (omega arith) (omega arith))

pub six_digits : (n : ℕ) → 100_000 ≤ n → n < 1_000_000 → length (digits n) ≡ 6
six_digits n h k = omega (arith, length_large n (omega arith), five_digits (n / 10) (omega arith) (omega arith))

-- ---- writing

-- the buffer was o₀ and is o: the digits from next on are written, and those that are left are the last digits of rest
pub record Putting (o₀ : List ℕ) (at n : ℕ) (o : List ℕ) (next rest : ℕ) : Type 0 where
  pub started : at ≤ next
  pub down : WritingDown o₀ (digits n ++ drop (at + length (digits n)) o₀) o next (last_digits (next - at) rest)

pub put_starts : (o : List ℕ) (at : ℕ) {n count : ℕ} → count ≡ length (digits n) → at + length (digits n) ≤ length o → Putting o at n o (at + count) n
put_starts o at {n} {count} e room =
    let many : at + count - at ≡ length (digits n) = omega arith in
    record {
      started = omega arith;
      down = down_as (sym (ap (λ (k : ℕ). last_digits k n) many ∙ last_all n))
          (rw e (down_starts o (at + length (digits n)) (digits n) (omega arith) room));
    }

module _ {o₀ o : List ℕ} {at n next rest : ℕ} (c : Putting o₀ at n o next rest) where
  -- the place of the last digit that is left lies inside
  pub put_room : at < next → next - 1 < length o
  put_room h = omega (arith, c.down.room)

  pub put_step : at < next → Putting o₀ at n (set o (next - 1) (digit_byte (rest % 10))) (next - 1) (rest / 10)
  unfolding last_digits
  put_step h =
      let one : next - at ≡ suc (next - 1 - at) = omega arith in
      record {
        started = omega arith;
        down = down_step (last_digits (next - 1 - at) (rest / 10)) (digit_byte (rest % 10)) (down_as (ap (λ (k : ℕ). last_digits k rest) one) c.down);
      }

  pub put_ends : {count : ℕ} → count ≡ length (digits n) → next ≤ at → Wrote o₀ at (digits n) o (at + count)
  unfolding last_digits
  put_ends e h =
      let here : next ≡ at = omega (arith, c.started) in
      let none : next - at ≡ 0 = omega arith in
      rw e
      (down_ends refl
      (subst (λ (k : ℕ). WritingDown o₀ (digits n ++ drop (at + length (digits n)) o₀) o k []) here
      (down_as (ap (λ (k : ℕ). last_digits k rest) none) c.down)))
