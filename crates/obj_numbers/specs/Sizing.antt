-- A decimal by its parts: the digits before_first the point, and those behind it.
use Rattle.std.specs.Prelude.{Bool, true, false, List, [], ◌≡◌, refl, ℕ, ◌+◌, ◌-◌, ◌*◌, ◌^◌, ◌≤◌, ◌<◌, ltb, eqb, length, take, drop, None, Option, Some}
use Rattle.std.proofs.Math.Path.{sym, ap}
use Rattle.std.proofs.Common.{◌∙◌, arith, length-drop, take_all, lt-ltb, le-ltb, ltb-false, eq-eqb, ne_eqb}
use Rattle.sequences.specs.Pick.{pick, pick_true, pick_false}
use Rattle.meaning.specs.Limits.{digit_limit}
use Rattle.meaning.specs.Text.{minus_sign}
use Rattle.decimals.specs.Byte.{byte_at}
use Rattle.meaning.specs.ObjLine.{place_of, has, before_first, behind, point, whole_of, with_part, on_whole, size_of, decimal_of, signed_as, vertex_number_of, zero_digit}
use Rattle.obj_numbers.specs.Worth.{whole_below}
use Rattle.meaning.specs.declared.Hundredths.{Hundredths}

-- a part that goes to the end
pub to_the_end : (k : ℕ) (s : List ℕ) → take (length s - k) (drop k s) ≡ drop k s
to_the_end k s = take_all (length s - k) (drop k s) (omega (arith, length-drop k s))

-- ---- the digits behind the point

module _ (n : ℕ) (s : List ℕ) {w : Option ℕ} (is : w ≡ whole_of 2 s) where
  part_at : whole_of 2 s ≡ w
  part_at = sym is

  pub part_bad : w ≡ None → None ≡ with_part n (length s) (whole_of 2 s)
  unfolding with_part
  part_bad e = sym (ap (with_part n (length s)) (part_at ∙ e))

  module _ {m : ℕ} (e : w ≡ Some m) where
    pub part_small : m < 100
    part_small = whole_below 2 s (part_at ∙ e)

    pub part_tenths : length s ≡ 1 → Some (n * 100 + m * 10) ≡ with_part n (length s) (whole_of 2 s)
    unfolding with_part
    part_tenths one =
        sym (ap (with_part n (length s)) (part_at ∙ e) ∙ ap (λ (t : Bool). Some (n * 100 + pick t (m * 10) m)) (eq-eqb (length s) 1 one))

    pub part_hundredths : (length s ≡ 1 → ⊥) → Some (n * 100 + m) ≡ with_part n (length s) (whole_of 2 s)
    unfolding with_part
    part_hundredths more =
        sym (ap (with_part n (length s)) (part_at ∙ e) ∙ ap (λ (t : Bool). Some (n * 100 + pick t (m * 10) m)) (ne_eqb (length s) 1 more))

-- ---- a decimal without a sign

on_pick : (w : Option ℕ) (t : Bool) (f g : ℕ → Option ℕ) → pick t (on_whole w f) (on_whole w g) ≡ on_whole w (λ n. pick t (f n) (g n))
unfolding on_whole
on_pick (Some n) t f g = refl
on_pick None true f g = refl
on_pick None false f g = refl

abbrev pub sized : List ℕ → Bool → ℕ → Option ℕ
sized s t n = pick t (with_part n (length (behind point s)) (whole_of 2 (behind point s))) (Some (n * 100))

pub sized_as : (s : List ℕ) → size_of s ≡ on_whole (whole_of digit_limit (before_first point s)) (sized s (has point s))
sized_as s = go (has point s) refl
  where
    f : ℕ → Option ℕ
    f n = with_part n (length (behind point s)) (whole_of 2 (behind point s))

    all : has point s ≡ false → before_first point s ≡ s
    all e = take_all (place_of point s) s (ltb-false (place_of point s) (length s) e)

    go : (t : Bool) → has point s ≡ t
        → pick t (on_whole (whole_of digit_limit (before_first point s)) (λ n. with_part n (length (behind point s)) (whole_of 2 (behind point s)))) (on_whole (whole_of digit_limit s) (λ n. Some (n * 100)))
        ≡ on_whole (whole_of digit_limit (before_first point s)) (sized s t)
    go true e = refl
    go false e = ap (λ (l : List ℕ). on_whole (whole_of digit_limit l) (λ n. Some (n * 100))) (sym (all e))

module _ (s : List ℕ) {place : ℕ} {w : Option ℕ} (p : place ≡ place_of point s) (is : w ≡ whole_of digit_limit (take place s)) where
  front : whole_of digit_limit (before_first point s) ≡ w
  front = ap (λ (k : ℕ). whole_of digit_limit (take k s)) (sym p) ∙ sym is

  pub size_bad : w ≡ None → None ≡ size_of s
  unfolding on_whole
  size_bad e = sym (sized_as s ∙ ap (λ (x : Option ℕ). on_whole x (sized s (has point s))) (front ∙ e))

  module _ {n : ℕ} (e : w ≡ Some n) where
    pub size_small : n < 1_000_000_000
    size_small = whole_below digit_limit (before_first point s) (front ∙ e)

    worth : size_of s ≡ sized s (has point s) n
    unfolding on_whole
    worth = sized_as s ∙ ap (λ (x : Option ℕ). on_whole x (sized s (has point s))) (front ∙ e)

    pub size_plain : length s ≤ place → Some (n * 100) ≡ size_of s
    size_plain h = sym (worth ∙ pick_false _ _ (le-ltb (place_of point s) (length s) (rw p at h)))

    pub size_pointed : {r : Option ℕ} → place < length s
        → r ≡ with_part n (length (take (length s - (place + 1)) (drop (place + 1) s))) (whole_of 2 (take (length s - (place + 1)) (drop (place + 1) s)))
        → r ≡ size_of s
    size_pointed {r} h q =
        let same : take (length s - (place + 1)) (drop (place + 1) s) ≡ behind point s =
        to_the_end (place + 1) s ∙ ap (λ (k : ℕ). drop (k + 1) s) p in
        q ∙ ap (λ (l : List ℕ). with_part n (length l) (whole_of 2 l)) same
        ∙ sym (worth ∙ pick_true _ _ (lt-ltb (place_of point s) (length s) (rw p at h)))

-- ---- a sign, and a number without one

module _ (s : List ℕ) {b : ℕ} (is : b ≡ byte_at s 0) where
  pub decimal_minus : {w : Option ℕ} {r : Option Hundredths} → b ≡ minus_sign → w ≡ size_of (take (length s - 1) (drop 1 s)) → r ≡ signed_as true w → r ≡ decimal_of s
  decimal_minus e p q =
      q ∙ ap (signed_as true) (p ∙ ap (λ (l : List ℕ). size_of l) (to_the_end 1 s))
      ∙ sym (pick_true _ _ (eq-eqb (byte_at s 0) minus_sign (sym is ∙ e)))

  pub decimal_plain : {w : Option ℕ} {r : Option Hundredths} → (b ≡ minus_sign → ⊥) → w ≡ size_of s → r ≡ signed_as false w → r ≡ decimal_of s
  decimal_plain n p q = q ∙ ap (signed_as false) p ∙ sym (pick_false _ _ (ne_eqb (byte_at s 0) minus_sign (λ e. n (is ∙ e))))

  pub number_zero : b ≡ zero_digit → None ≡ vertex_number_of s
  number_zero e = sym (pick_true _ _ (eq-eqb (byte_at s 0) zero_digit (sym is ∙ e)))

  pub number_plain : {r : Option ℕ} → (b ≡ zero_digit → ⊥) → r ≡ whole_of digit_limit s → r ≡ vertex_number_of s
  number_plain n p = p ∙ sym (pick_false _ _ (ne_eqb (byte_at s 0) zero_digit (λ e. n (is ∙ e))))
