-- The first number below n that passes a test, or n where none does; and a loop that finds it from the last to the first.
use Rattle.std.specs.Prelude.{ℕ, ◌+◌, ◌-◌, ◌≤◌, ◌<◌, Bool, true, false, ◌≡◌, refl}
use Rattle.std.proofs.Common.{true≢false, sym, ◌∙◌, arith}
use Rattle.std.proofs.Math.Decide.{dec_lt}
use Rattle.sequences.specs.Pick.{pick}

pub record FirstWith (n : ℕ) (test : ℕ → Bool) (r : ℕ) : Type 0 where
  pub within : r ≤ n
  pub before : (i : ℕ) → i < r → test i ≡ false
  pub passes : r < n → test r ≡ true

-- only one number is the first
no_later : {n : ℕ} {test : ℕ → Bool} {r r' : ℕ} → FirstWith n test r → FirstWith n test r' → r < r' → ⊥
no_later {n} {test} {r} {r'} p q h = true≢false (sym (p.passes (omega (arith, q.within))) ∙ q.before r h)

pub one_first : {n : ℕ} {test : ℕ → Bool} {r r' : ℕ} → FirstWith n test r → FirstWith n test r' → r ≡ r'
one_first {n} {test} {r} {r'} p q = by_place (dec_lt r r') (dec_lt r' r)
  where
    by_place : Dec (r < r') → Dec (r' < r) → r ≡ r'
    by_place (yes h) d = absurd (no_later p q h)
    by_place (no h) (yes k) = absurd (no_later q p k)
    by_place (no h) (no k) = omega arith

-- where it is n, none passes; and it is n where none passes
pub none_first : {n : ℕ} {test : ℕ → Bool} → FirstWith n test n → (i : ℕ) → i < n → test i ≡ false
none_first f = f.before

pub first_none : {n : ℕ} {test : ℕ → Bool} {r : ℕ} → FirstWith n test r → ((i : ℕ) → i < n → test i ≡ false) → r ≡ n
first_none {n} {test} {r} f none = by_place (dec_lt r n)
  where
    by_place : Dec (r < n) → r ≡ n
    by_place (yes h) = absurd (true≢false (sym (f.passes h) ∙ none r h))
    by_place (no h) = omega (arith, f.within)

-- the numbers from k on are tried
pub record FirstFrom (n : ℕ) (test : ℕ → Bool) (first k : ℕ) : Type 0 where
  pub behind : k ≤ first
  pub within : first ≤ n
  pub before : (i : ℕ) → k ≤ i → i < first → test i ≡ false
  pub passes : first < n → test first ≡ true

pub from_starts : (n : ℕ) (test : ℕ → Bool) → FirstFrom n test n n
from_starts n test =
    record { behind = omega arith; within = omega arith; before = λ i h l. absurd (omega arith); passes = λ h. absurd (omega arith) }

pub from_goes : {n : ℕ} {test : ℕ → Bool} {first k : ℕ} → FirstFrom n test first k → 0 < k → (found : Bool) → found ≡ test (k - 1) → FirstFrom n test (pick found (k - 1) first) (k - 1)
from_goes {n} {test} {first} {k} f h true e =
    record {
      behind = omega arith;
      within = omega (arith, f.behind, f.within);
      before = λ i low high. absurd (omega arith);
      passes = λ l. sym e;
    }
from_goes {n} {test} {first} {k} f h false e =
    record {
      behind = omega (arith, f.behind);
      within = f.within;
      before = λ i low high. by_place i low high (dec_lt i k);
      passes = f.passes;
    }
  where
    by_place : (i : ℕ) → k - 1 ≤ i → i < first → Dec (i < k) → test i ≡ false
    by_place i low high (yes l) = let q : i ≡ k - 1 = omega arith in rw q (sym e)
    by_place i low high (no l) = f.before i (omega arith) high

pub from_ends : {n : ℕ} {test : ℕ → Bool} {first k : ℕ} → FirstFrom n test first k → k ≤ 0 → FirstWith n test first
from_ends f h = record { within = f.within; before = λ i l. f.before i (omega arith) l; passes = f.passes }
