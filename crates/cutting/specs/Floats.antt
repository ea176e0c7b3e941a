-- The number handed out for n: n turned into an f64 and divided by 2^20. Nothing is lost.
use Rattle.std.specs.Prelude.{ℕ, ◌*◌, ◌^◌, ◌≤◌, ◌<◌, Bool, false, ◌≡◌, pos, Float}
use Rattle.std.proofs.Common.{mul_assoc, mul_comm, one-mul, mul-pos, mul-le-mul_right, mul_right_comm, lt_of_le_of_lt, le_trans, lit<, lit≤, sym, ap, ◌∙◌, subst}
use Rattle.std.proofs.Math.Nat.{eq_of_mul-eq-mul_right}
use Rattle.std.specs.Float.{nan, inf, fin, binary64}
use Rattle.std.specs.Float.Ieee.{of_int, div, round, up, down}
use Rattle.std.specs.Float.Ieee.Exact.{HasValue, round_exact}
use Rattle.std.specs.Float.Ieee.Back.{round_whole}
use Rattle.std.specs.Float.Ieee.Fits.{down_pos}
use Rattle.cutting.specs.Cut.{unit}

unfoldable pub handed_out : ℕ → Float
handed_out n = div binary64 (of_int binary64 (pos n)) (of_int binary64 (pos unit))

-- ---- its value is n over 2^20

spread : (n d a b : ℕ) → n * d * (a * b) ≡ n * a * (b * d)
spread n d a b =
    mul_assoc n d (a * b) ∙ ap (λ (x : ℕ). n * x) (mul_comm d (a * b) ∙ mul_assoc a b d) ∙ sym (mul_assoc n a (b * d))

-- a quotient by 2^20 of what is worth n: the fraction (m up) / (2^20 down), which the format holds
quotient_exact : (n m u d : ℕ) → n ≤ unit → 0 < d → m * u * 1 ≡ n * d
    → HasValue (round binary64 false (m * u * 1) (1 * unit * d)) false (m * u * 1) (1 * unit * d)
quotient_exact n m u d h p e =
    round_exact binary64 false (m * u * 1) (1 * unit * d) n 1054
    (mul-pos (lit< tt) p)
    (lt_of_le_of_lt h (lit< tt))
    (lt_of_le_of_lt (mul-le-mul_right (2 ^ 1054) h) (lit< tt))
    (ap (λ (x : ℕ). x * 2 ^ 1074) e ∙ spread n d (2 ^ 1054) unit ∙ ap (λ (x : ℕ). n * 2 ^ 1054 * (x * d)) (sym (one-mul unit)))

-- the same value over 2^20 alone
reduced : (x : Float) (n d num den : ℕ) → 0 < d → num ≡ n * d → den ≡ unit * d → HasValue x false num den → HasValue x false n unit
reduced nan n d num den p a b v = v
reduced (inf t) n d num den p a b v = v
reduced (fin t m e) n d num den p a b v = (
  v.0,
  eq_of_mul-eq-mul_right d p (m * up e * unit) (n * down e)
      (mul_assoc (m * up e) unit d
      ∙ ap (λ (x : ℕ). m * up e * x) (sym b)
      ∙ v.1
      ∙ ap (λ (x : ℕ). x * down e) a
      ∙ mul_right_comm n d (down e)),
)

divided : (n : ℕ) (x : Float) → n ≤ unit → HasValue x false n 1 → HasValue (div binary64 x (of_int binary64 (pos unit))) false n unit
unfolding div of_int
divided n nan h v = absurd v
divided n (inf t) h v = absurd v
divided n (fin t m e) h v =
    subst (λ (s : Bool). HasValue (div binary64 (fin s m e) (of_int binary64 (pos unit))) false n unit) (sym v.0)
    (reduced (round binary64 false (m * up e * 1) (1 * unit * down e)) n (down e) (m * up e * 1) (1 * unit * down e) (down_pos e) v.1
    (ap (λ (x : ℕ). x * down e) (one-mul unit))
    (quotient_exact n m (up e) (down e) h (down_pos e) v.1))

pub handed_out_exact : (n : ℕ) → n ≤ unit → HasValue (handed_out n) false n unit
unfolding handed_out of_int
handed_out_exact n h = divided n (round binary64 false n 1) h (round_whole binary64 false n (le_trans h (lit≤ tt)))

-- equal numbers handed out are of equal numbers
same_value : (x : Float) (m n : ℕ) → HasValue x false m unit → HasValue x false n unit → m ≡ n
same_value nan m n v w = absurd v
same_value (inf t) m n v w = absurd v
same_value (fin t k e) m n v w = eq_of_mul-eq-mul_right (down e) (down_pos e) m n (sym v.1 ∙ w.1)

pub handed_out_one : (m n : ℕ) → m ≤ unit → n ≤ unit → handed_out m ≡ handed_out n → m ≡ n
handed_out_one m n h k e =
    same_value (handed_out n) m n (subst (λ (x : Float). HasValue x false m unit) e (handed_out_exact m h)) (handed_out_exact n k)
