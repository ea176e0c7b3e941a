-- What reading a number finds: the longest run of digits from a place on, of at most so many, which is a number if it is canonical.
use Rattle.std.specs.Prelude.{false, ◌⊎◌, ◌≡◌, refl, ℕ, zero, suc, ◌+◌, ◌≤◌, length, get_or, drop}
use mathlib.Core.List.Memᴰ
use mathlib.Core.List.{List, [], ◌∷◌, ◌++◌, Memᴰ, nil≢cons, head-eq_of_cons-eq, tail-eq_of_cons-eq}
use Rattle.std.proofs.Common.{inl, inr, ⊎_elim, sym, ap, subst, arith}
use Rattle.std.proofs.Math.Nat.{suc_inj}
use Rattle.sequences.specs.Pick.{pick, pick_has}
use Rattle.decimals.specs.Byte.{IsDigit, digit_test, digit_passes, digit_passed}
use Rattle.decimals.specs.Value.{value}

-- the longest run of digits in front of a list, of at most so many
unfoldable pub run : ℕ → List ℕ → List ℕ
run zero l = []
run (suc most) [] = []
run (suc most) (b ∷ l) = pick (digit_test b) (b ∷ run most l) []

-- what a run is: digits in front of a list, at most so many, up to the limit or to a byte that is no digit
pub record Run (most : ℕ) (l r : List ℕ) : Type 0 where
  pub each : (b : ℕ) → Memᴰ b r → IsDigit b
  pub short : length r ≤ most
  pub front : l ≡ r ++ drop (length r) l
  pub stops : (length r ≡ most) ⊎ (digit_test (get_or l (length r) 0) ≡ false)

longer : {most : ℕ} {l r : List ℕ} (b : ℕ) → IsDigit b → Run most l r → Run (suc most) (b ∷ l) (b ∷ r)
longer b d s =
    record {
      each = λ c m. ⊎_elim (λ e. subst IsDigit (sym e) d) (s.each c) (Memᴰ.cases_cons m);
      short = omega (arith, s.short);
      front = ap (λ (k : List ℕ). b ∷ k) s.front;
      stops = ⊎_elim (λ e. inl (ap suc e)) inr s.stops;
    }

pub run_none : (most : ℕ) (l : List ℕ) → (0 ≡ most) ⊎ (digit_test (get_or l 0 0) ≡ false) → Run most l []
run_none most l stops =
    record { each = λ b m. absurd (Memᴰ.not-nil m); short = omega arith; front = refl; stops = stops }

-- the computed run is one, and the only one
pub run_has : (most : ℕ) (l : List ℕ) → Run most l (run most l)
unfolding run
run_has zero l = run_none 0 l (inl refl)
run_has (suc most) [] = run_none (suc most) [] (inr refl)
run_has (suc most) (b ∷ l) =
    pick_has (Run (suc most) (b ∷ l)) (digit_test b)
    (λ t. longer b (digit_passed b t) (run_has most l))
    (λ f. run_none (suc most) (b ∷ l) (inr f))

pub run_is : (most : ℕ) (l r : List ℕ) → Run most l r → run most l ≡ r
unfolding run
run_is zero l [] s = refl
run_is zero l (x ∷ r) s = absurd (omega (arith, s.short))
run_is (suc most) [] [] s = refl
run_is (suc most) [] (x ∷ r) s = absurd (nil≢cons s.front)
run_is (suc most) (b ∷ l) [] s =
    ⊎_elim (λ e. absurd (omega (arith, e))) (λ f. rw f) s.stops
run_is (suc most) (b ∷ l) (x ∷ r) s =
    let same : b ≡ x = head-eq_of_cons-eq s.front in
    let rest : Run most l r =
    record {
      each = λ c m. s.each c (Memᴰ.tail m);
      short = omega (arith, s.short);
      front = tail-eq_of_cons-eq s.front;
      stops = ⊎_elim (λ e. inl (suc_inj e)) inr s.stops;
    } in
    cc (digit_passes (s.each x (Memᴰ.head refl)), run_is most l r rest)

-- what the run from a place on is worth, and the place behind it
pub record RunFrom (s : List ℕ) (at limit worth next : ℕ) : Type 0 where
  pub counts : worth ≡ value (run limit (drop at s))
  pub place : next ≡ at + length (run limit (drop at s))
