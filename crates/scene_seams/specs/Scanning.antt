-- A loop that tries every number below n in turn and keeps whether one has passed.
use Rattle.std.specs.Prelude.{ℕ, ◌+◌, ◌≤◌, ◌<◌, Bool, false, ◌||◌, ◌≡◌, refl}
use Rattle.std.proofs.Common.{arith}
use Rattle.meaning.specs.Scene.{some_below}
use Rattle.answers.specs.Below.{some_more}

-- the numbers below i are tried, and `found` is what was found
pub record Scanned (n : ℕ) (test : ℕ → Bool) (found : Bool) (i : ℕ) : Type 0 where
  pub within : i ≤ n
  pub finds : found ≡ some_below i test

pub scan_starts : (n : ℕ) (test : ℕ → Bool) → Scanned n test false 0
unfolding some_below
scan_starts n test = record { within = omega arith; finds = refl }

pub scan_goes : {n : ℕ} {test : ℕ → Bool} {found : Bool} {i : ℕ} → Scanned n test found i → i < n → (now : Bool) → now ≡ test i → Scanned n test (found || now) (i + 1)
scan_goes {n} {test} {found} {i} s h now e =
    record { within = omega arith; finds = rw (s.finds, e, some_more test i) }

pub scan_ends : {n : ℕ} {test : ℕ → Bool} {found : Bool} {i : ℕ} → Scanned n test found i → n ≤ i → found ≡ some_below n test
scan_ends {n} {test} {found} {i} s h = let e : i ≡ n = omega arith in rw e at s.finds

-- the same by equations alone, for the check to use by itself at a loop over a range: nothing is found below 0, and below n + 1 what is found
-- below n or at n
pub none_yet : (test : ℕ → Bool) → some_below 0 test ≡ false
unfolding some_below
none_yet test = refl

pub ruleset scans = (none_yet, some_more)
