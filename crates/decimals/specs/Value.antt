-- What a list of digits is worth; the lists that are digits of some number; and that each of the two gives back the other.
use mathlib.Core.List.Memᴰ
use mathlib.Core.List.{List, [], ◌∷◌, ◌++◌, append_assoc, append-nil, Memᴰ}
use Rattle.std.proofs.Common.{⊎_elim, sym, ap, ◌∙◌, subst, pow-suc, div-lt_iff_lt-mul, arith, length-append}
use Rattle.std.specs.Prelude.{◌↔◌, ◌≡◌, refl, ℕ, zero, suc, ◌+◌, ◌-◌, ◌*◌, ◌/◌, ◌%◌, ◌^◌, ◌≤◌, ◌<◌, length, get_or}
use Rattle.std.proofs.Math.Nat.{pow-le-pow_right}
use Rattle.std.proofs.Math.ListN.{get_or-append}
use Rattle.sequences.specs.Range.{le_or_lt}
use Rattle.decimals.specs.Byte.{IsDigit}
use Rattle.decimals.specs.Digits.{digit_byte, digits, digits_small, digits_large, by_tens}

-- ten times what stands before, and the digit: from the left, with v before the list
unfoldable pub value_on : ℕ → List ℕ → ℕ
value_on v [] = v
value_on v (b ∷ l) = value_on (v * 10 + (b - 48)) l

unfoldable pub value : List ℕ → ℕ
unfolding value_on
value l = value_on 0 l

-- one digit or more, and no leading zero but 0 itself
pub record Canonical (l : List ℕ) : Type 0 where
  pub each : (b : ℕ) → Memᴰ b l → IsDigit b
  pub some : 0 < length l
  pub plain : 1 < length l → 48 < get_or l 0 0

value_append : (v : ℕ) (l k : List ℕ) → value_on v (l ++ k) ≡ value_on (value_on v l) k
unfolding value_on
value_append v [] k = refl
value_append v (b ∷ l) k = value_append (v * 10 + (b - 48)) l k

-- reading what was written gives the number back
pub value_digits : (n : ℕ) → value (digits n) ≡ n
unfolding value
value_digits =
    by_tens (λ n. value (digits n) ≡ n)
    (λ n h. rw (digits_small n h) (omega arith))
    (λ n h next.
    rw (digits_large n h, value_append 0 (digits (n / 10)) (digit_byte (n % 10) ∷ []), next) (omega arith))

pub digits_unique : (n m : ℕ) → digits n ≡ digits m → n ≡ m
digits_unique n m e = sym (value_digits n) ∙ ap value e ∙ value_digits m

-- ---- the digits of a number are canonical

each_digit : (n b : ℕ) → Memᴰ b (digits n) → IsDigit b
each_digit n b =
    by_tens (λ n. Memᴰ b (digits n) → IsDigit b)
    (λ n h m. one n h (rw (digits_small n h) at m))
    (λ n h next m. ⊎_elim next (one (n % 10) (omega arith)) (Memᴰ.append_cases (digits (n / 10)) (rw (digits_large n h) at m)))
    n
  where
    one : (d : ℕ) → d < 10 → Memᴰ b (digit_byte d ∷ []) → IsDigit b
    one d h m = let e : b ≡ digit_byte d = Memᴰ.eq_of_singleton m in record { low = omega arith; high = omega arith }

pub digits_some : (n : ℕ) → 0 < length (digits n)
digits_some =
    by_tens (λ n. 0 < length (digits n))
    (λ n h. rw (digits_small n h) (omega arith))
    (λ n h next. rw (digits_large n h, length-append) (omega arith))

digits_first : (n : ℕ) → 0 < n → 48 < get_or (digits n) 0 0
digits_first =
    by_tens (λ n. 0 < n → 48 < get_or (digits n) 0 0)
    (λ n h p. rw (digits_small n h) (omega arith))
    (λ n h next p.
    rw (digits_large n h, get_or-append (digits (n / 10)) (digit_byte (n % 10) ∷ []) 0 0 (digits_some (n / 10)))
    (next (omega arith)))

pub digits_canonical : (n : ℕ) → Canonical (digits n)
digits_canonical n =
    record {
      each = each_digit n;
      some = digits_some n;
      plain = ⊎_elim
          (λ large some. digits_first n (omega arith))
          (λ small some. absurd (omega (arith, ap length (digits_small n small))))
          (le_or_lt 10 n);
    }

-- ---- what was read, if it was canonical, writes the same bytes

next_digit : (v b : ℕ) → 0 < v → IsDigit b → digits (v * 10 + (b - 48)) ≡ digits v ++ (b ∷ [])
next_digit v b some d =
    let tens : (v * 10 + (b - 48)) / 10 ≡ v = omega (arith, d.low, d.high) in
    let last : digit_byte ((v * 10 + (b - 48)) % 10) ≡ b = omega (arith, d.low, d.high) in
    cc (digits_large (v * 10 + (b - 48)) (omega arith))

digits_on : (v : ℕ) (l : List ℕ) → 0 < v → ((b : ℕ) → Memᴰ b l → IsDigit b) → digits (value_on v l) ≡ digits v ++ l
unfolding value_on
digits_on v [] some each = sym (append-nil (digits v))
digits_on v (b ∷ l) some each =
    digits_on (v * 10 + (b - 48)) l (omega arith) (λ c m. each c (Memᴰ.tail m))
    ∙ cc (next_digit v b some (each b (Memᴰ.head refl)), append_assoc (digits v) (b ∷ []) l)

first_digit : (b : ℕ) → IsDigit b → digits (0 + (b - 48)) ≡ b ∷ []
first_digit b d =
    let same : digit_byte (0 + (b - 48)) ≡ b = omega (arith, d.low) in
    digits_small (0 + (b - 48)) (omega (arith, d.high)) ∙ ap (λ (c : ℕ). c ∷ []) same

pub digits_value : (l : List ℕ) → Canonical l → digits (value l) ≡ l
unfolding value
digits_value [] c = absurd (omega (arith, c.some))
digits_value (b ∷ []) c = first_digit b (c.each b (Memᴰ.head refl))
digits_value (b ∷ d ∷ l) c =
    digits_on (0 + (b - 48)) (d ∷ l) (omega (arith, c.plain (omega arith))) (λ x m. c.each x (Memᴰ.tail m))
    ∙ ap (λ (k : List ℕ). k ++ (d ∷ l)) (first_digit b (c.each b (Memᴰ.head refl)))

-- the canonical lists are the digits of numbers, each of one
pub canonical_is : (l : List ℕ) → Canonical l ↔ ((n : ℕ) × (l ≡ digits n))
canonical_is l = (
  λ c. (value l, sym (digits_value l c)),
  λ p. subst Canonical (sym p.1) (digits_canonical p.0),
)

-- ---- how many

pub digits_length : (k n : ℕ) → 0 < k → n < 10 ^ k → length (digits n) ≤ k
digits_length zero n some h = absurd (omega arith)
digits_length (suc zero) n some h = rw (digits_small n h) (omega arith)
digits_length (suc (suc k)) n some h =
    ⊎_elim
    (λ large.
    rw (digits_large n large, length-append)
    (omega (arith, digits_length (suc k) (n / 10) (omega arith) ((div-lt_iff_lt-mul {k = 10} (omega arith)).1 (rw (pow-suc 10 (suc k)) at h)))))
    (λ small. rw (digits_small n small) (omega arith))
    (le_or_lt 10 n)

-- a number of 64 bits has at most twenty
pub digits_length_u64 : (n : ℕ) → n < 2 ^ 64 → length (digits n) ≤ 20
digits_length_u64 n h = digits_length 20 n (omega arith) (omega arith)

pub digits_below : (n k : ℕ) → length (digits n) ≤ k → n < 10 ^ k
digits_below =
    by_tens (λ n. (k : ℕ) → length (digits n) ≤ k → n < 10 ^ k)
    (λ n small k h.
    let some : 1 ≤ k = omega (arith, ap length (digits_small n small)) in
    omega (arith, pow-le-pow_right {n = 10} (omega arith) {i = 1} {j = k} some))
    (λ n large next k h.
    let one : suc (k - 1) ≡ k = omega (arith, simp length-append at (ap length (digits_large n large))) in
    let fewer : length (digits (n / 10)) ≤ k - 1 = omega (arith, simp length-append at (ap length (digits_large n large))) in
    subst (λ (j : ℕ). n < 10 ^ j) one (rw (pow-suc 10 (k - 1)) ((div-lt_iff_lt-mul {k = 10} (omega arith)).0 (next (k - 1) fewer))))
