-- What the computed `some_below` says: some number below n passes the test, or none does.
use Rattle.std.specs.Prelude.{ℕ, zero, suc, ◌+◌, ◌<◌, Bool, true, false, ◌||◌, ◌≡◌, refl}
use Rattle.std.proofs.Math.Bool.{or_assoc, or-false}
use Rattle.std.proofs.Common.{⊎_elim, sym, ◌∙◌, ap, not-suc-le-zero, le_of_suc-le-suc, eq-or-lt_of_le, add-one, arith}
use Rattle.meaning.specs.Scene.{some_below}

-- a number below n that passes
pub record Found (n : ℕ) (test : ℕ → Bool) : Type 0 where
  pub which : ℕ
  pub there : which < n
  pub passes : test which ≡ true

pub or_left : (a b : Bool) → a || b ≡ false → a ≡ false
or_left true b e = e
or_left false b e = refl

pub or_rest : (a b : Bool) → a || b ≡ false → b ≡ false
or_rest true b e = cc
or_rest false b e = e

pub some_more : (test : ℕ → Bool) (n : ℕ) → some_below (n + 1) test ≡ some_below n test || test n
unfolding some_below
some_more test n = rw add-one

pub found_below : (test : ℕ → Bool) (n : ℕ) → some_below n test ≡ true → Found n test
unfolding some_below
found_below test zero e = let z : ◌≡◌ {A = ℕ} 0 1 = cc in absurd (omega arith)
found_below test (suc n) e = later (some_below n test) (found_below test n) e
  where
    later : (b : Bool) → (b ≡ true → Found n test) → b || test n ≡ true → Found (suc n) test
    later true p e = let q = p refl in record { which = q.which; there = omega arith; passes = q.passes }
    later false p e = record { which = n; there = omega arith; passes = e }

pub none_passes : (test : ℕ → Bool) (n : ℕ) → some_below n test ≡ false → (i : ℕ) → i < n → test i ≡ false
unfolding some_below
none_passes test zero e i h = absurd (not-suc-le-zero h)
none_passes test (suc n) e i h =
    ⊎_elim (λ q. rw q (or_rest (some_below n test) (test n) e))
    (λ l. none_passes test n (or_left (some_below n test) (test n) e) i l)
    (eq-or-lt_of_le (le_of_suc-le-suc h))

pub none_below : (test : ℕ → Bool) (n : ℕ) → ((i : ℕ) → i < n → test i ≡ false) → some_below n test ≡ false
unfolding some_below
none_below test zero all = refl
none_below test (suc n) all = rw (none_below test n (λ i h. all i (omega arith)), all n (omega arith))

pub some_passes : (test : ℕ → Bool) (n i : ℕ) → i < n → test i ≡ true → some_below n test ≡ true
some_passes test n i h e = by_cases (some_below n test) refl
  where
    by_cases : (b : Bool) → some_below n test ≡ b → b ≡ true
    by_cases true q = refl
    by_cases false q = sym (none_passes test n q i h) ∙ e

-- tests that agree below n
pub some_alike : (f g : ℕ → Bool) (n : ℕ) → ((i : ℕ) → i < n → f i ≡ g i) → some_below n f ≡ some_below n g
unfolding some_below
some_alike f g zero all = refl
some_alike f g (suc n) all = rw (some_alike f g n (λ i h. all i (omega arith)), all n (omega arith))

-- the first test split off
pub some_first : (test : ℕ → Bool) (n : ℕ) → some_below (suc n) test ≡ test 0 || some_below n (λ i. test (suc i))
unfolding some_below
some_first test zero = sym (or-false (test 0))
some_first test (suc n) =
    ap (λ b. b || test (suc n)) (some_first test n) ∙ or_assoc (test 0) (some_below n (λ i. test (suc i))) (test (suc n))
