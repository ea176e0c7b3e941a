-- The loop that reads digits: what it has read, with the digits that are left, is worth what all are.
use Rattle.std.specs.Prelude.{Bool, ◌&&◌, ◌||◌, ◌≡◌, refl, leb, ltb, eqb, length, take, None, Some}
use Rattle.std.proofs.Math.Bool.{true, false}
use Rattle.std.proofs.lemmas.Bool.{false≢true, lt-leb}
use mathlib.Core.List.{List, [], ◌∷◌}
use Rattle.std.proofs.Common.{⊎_elim, ◌∙◌, pow-suc, mul-le-mul_right, mul_assoc, mul_comm, lt-ltb, le-ltb, le-leb, ltb-false, leb-true, leb-false, ltb-true}
use Rattle.std.proofs.Math.Path.{sym, ap}
use Prim.Native.Nat.{ℕ, suc, ◌+◌, ◌-◌, ◌*◌, ◌^◌, ◌≤◌, ◌<◌}
use Rattle.std.proofs.Math.Nat.{pow-le-pow_right}
use native.Mathlib.Omega.{arith}
use Rattle.std.proofs.Math.ListN.{get_or, drop, drop_of_length-le}
use Rattle.sequences.specs.Parts.{drop_next}
use Rattle.sequences.specs.Pick.{pick, both, neither, pick_true, pick_false, pick_gave}
use Rattle.decimals.specs.Byte.{IsDigit, digit_test, digit_passed}
use Rattle.decimals.specs.Value.{value, value_on}
use Rattle.meaning.specs.ObjLine.{place_of, whole_of, digits_alone}

pub record Reading (s : List ℕ) (worth k : ℕ) : Type 0 where
  pub counts : value_on worth (drop k s) ≡ value s
  pub alone : digits_alone s ≡ digits_alone (drop k s)
  pub small : worth < 10 ^ k
  pub within : k ≤ length s

pub read_starts : (s : List ℕ) → Reading s 0 0
unfolding value
read_starts s = record { counts = refl; alone = refl; small = omega arith; within = omega arith }

-- there are one or more, and not too many
pub record Counted (s : List ℕ) (most : ℕ) : Type 0 where
  pub some : 0 < length s
  pub few : length s ≤ most

module _ {s : List ℕ} {worth k : ℕ} (r : Reading s worth k) where
  pub read_fits : k < length s → length s ≤ 9 → worth < 10 ^ 9
  read_fits h few = omega (arith, r.small, pow-le-pow_right {n = 10} (omega arith) {i = k} {j = 9} (omega arith))

  pub read_goes : k < length s → digit_test (get_or s k 0) ≡ true → Reading s (worth * 10 + (get_or s k 0 - 48)) (k + 1)
  unfolding value_on digits_alone
  read_goes h t =
      let d : IsDigit (get_or s k 0) = digit_passed (get_or s k 0) t in
      let e : drop k s ≡ get_or s k 0 ∷ drop (k + 1) s = drop_next s k 0 h in
      let one : k + 1 ≡ suc k = omega arith in
      record {
        counts = ap (value_on worth) (sym e) ∙ r.counts;
        alone = r.alone ∙ ap digits_alone e ∙ rw t;
        small = rw (one, pow-suc) (omega (arith, r.small, d.high));
        within = omega arith;
      }

  module _ {most : ℕ} (c : Counted s most) where
    counted : ltb 0 (length s) && leb (length s) most && digits_alone s ≡ digits_alone s
    counted = cc (lt-ltb 0 (length s) c.some, le-leb (length s) most c.few)

    pub read_stops : k < length s → digit_test (get_or s k 0) ≡ false → None ≡ whole_of most s
    unfolding digits_alone
    read_stops h f =
        let e : drop k s ≡ get_or s k 0 ∷ drop (k + 1) s = drop_next s k 0 h in
        let none : digits_alone s ≡ false = r.alone ∙ ap digits_alone e ∙ rw f in
        sym (pick_false _ _ (counted ∙ none))

    pub read_ends : length s ≤ k → Some worth ≡ whole_of most s
    unfolding value_on digits_alone
    read_ends h =
        let e : drop k s ≡ [] = drop_of_length-le s h in
        let all : digits_alone s ≡ true = r.alone ∙ ap digits_alone e in
        let is : worth ≡ value s = ap (value_on worth) (sym e) ∙ r.counts in
        ap Some is ∙ sym (pick_true _ _ (counted ∙ all))

module _ (s : List ℕ) (most : ℕ) where
  pub none_or_many : leb (length s) 0 || ltb most (length s) ≡ true → None ≡ whole_of most s
  none_or_many e = sym (pick_false _ _ (go (leb (length s) 0) refl (ltb most (length s)) refl e))
    where
      go : (t : Bool) → leb (length s) 0 ≡ t → (u : Bool) → ltb most (length s) ≡ u → t || u ≡ true
          → ltb 0 (length s) && leb (length s) most && digits_alone s ≡ false
      go true a u b q = rw (le-ltb 0 (length s) (leb-true (length s) 0 a))
      go false a true b q =
          cc (lt-ltb 0 (length s) (leb-false (length s) 0 a), lt-leb (length s) most (ltb-true most (length s) b))
      go false a false b q = let z : ◌≡◌ {A = Bool} false true = q in absurd (false≢true z)

  pub counted_so : leb (length s) 0 || ltb most (length s) ≡ false → Counted s most
  counted_so e =
      let (a, b) = neither (leb (length s) 0) (ltb most (length s)) e in
      record { some = leb-false (length s) 0 a; few = ltb-false most (length s) b }

-- digits are worth less than a one behind as many zeros
value_small : (v : ℕ) (l : List ℕ) → digits_alone l ≡ true → value_on v l < (v + 1) * 10 ^ length l
unfolding value_on digits_alone
value_small v [] e = omega arith
value_small v (b ∷ l) e =
    let (t, rest) = both (digit_test b) (digits_alone l) e in
    let d : IsDigit b = digit_passed b t in
    let step : value_on (v * 10 + (b - 48)) l < (v * 10 + (b - 48) + 1) * 10 ^ length l = value_small (v * 10 + (b - 48)) l rest in
    let ten : 10 ^ suc (length l) ≡ 10 ^ length l * 10 = pow-suc 10 (length l) in
    let wide : (v * 10 + (b - 48) + 1) * 10 ^ length l ≤ (v + 1) * 10 * 10 ^ length l =
    mul-le-mul_right (10 ^ length l) (omega (arith, d.high)) in
    let same : (v + 1) * 10 * 10 ^ length l ≡ (v + 1) * (10 ^ length l * 10) =
    mul_assoc (v + 1) 10 (10 ^ length l) ∙ ap (λ (x : ℕ). (v + 1) * x) (mul_comm 10 (10 ^ length l)) in
    rw ten (omega (arith, step, wide, same))

pub whole_below : (most : ℕ) (l : List ℕ) {n : ℕ} → whole_of most l ≡ Some n → n < 10 ^ most
unfolding value
whole_below most l {n} e =
    ⊎_elim
    (λ g.
    let (counted, alone) = both (ltb 0 (length l) && leb (length l) most) (digits_alone l) g.0 in
    let (some, few) = both (ltb 0 (length l)) (leb (length l) most) counted in
    let is : value l ≡ n = cc g.1 in
    omega (
      arith,
      is,
      value_small 0 l alone,
      pow-le-pow_right {n = 10} (omega arith) {i = length l} {j = most} (leb-true (length l) most few),
    ))
    (λ g. let z : ◌≡◌ {A = ℕ} 0 1 = cc g.1 in absurd (omega arith))
    (pick_gave (λ x. x ≡ Some n) (ltb 0 (length l) && leb (length l) most && digits_alone l) e)
