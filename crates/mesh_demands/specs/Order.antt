-- Numbers under a map that rises below a bound: the lower of two goes to the lower, and two are the same where neither is below the other.
use Rattle.std.specs.Prelude.{ℕ, ◌<◌, min, max, Bool, true, false, not, ◌&&◌, cond, ◌≡◌, refl, ltb, eqb}
use Rattle.std.proofs.Common.{ap, arith, lt-ltb, le-ltb, eq-eqb, ne_eqb}
use Rattle.std.proofs.Math.Decide.{dec_lt}

-- the same: neither is below the other
pub neither_below : (x y : ℕ) → eqb x y ≡ not (ltb x y) && not (ltb y x)
neither_below x y = go (dec_lt x y) (dec_lt y x)
  where
    go : Dec (x < y) → Dec (y < x) → eqb x y ≡ not (ltb x y) && not (ltb y x)
    go (yes h) k = rw (lt-ltb x y h, ne_eqb x y (λ e. omega arith)) refl
    go (no h) (yes k) = rw (le-ltb x y (omega arith), lt-ltb y x k, ne_eqb x y (λ e. omega arith)) refl
    go (no h) (no k) = rw (le-ltb x y (omega arith), le-ltb y x (omega arith), eq-eqb x y (omega arith)) refl

-- a choice taken before or after a map
pub cond_sent : {A B : Type 0} (g : A → B) (c : Bool) (x y : A) → cond c (g x) (g y) ≡ g (cond c x y)
cond_sent g true x y = refl
cond_sent g false x y = refl

module _ (g : ℕ → ℕ) (n : ℕ) (rises : (i j : ℕ) → i < j → j < n → g i < g j) where
  pub sent_min : (i j : ℕ) → i < n → j < n → min (g i) (g j) ≡ g (min i j)
  sent_min i j h k = go (dec_lt i j) (dec_lt j i)
    where
      go : Dec (i < j) → Dec (j < i) → min (g i) (g j) ≡ g (min i j)
      go (yes l) d = let e : min i j ≡ i = omega arith in rw e (omega (arith, rises i j l k))
      go (no l) (yes r) = let e : min i j ≡ j = omega arith in rw e (omega (arith, rises j i r h))
      go (no l) (no r) = let e : i ≡ j = omega arith in let f : min j j ≡ j = omega arith in rw (e, f) (omega arith)

  pub sent_max : (i j : ℕ) → i < n → j < n → max (g i) (g j) ≡ g (max i j)
  sent_max i j h k = go (dec_lt i j) (dec_lt j i)
    where
      go : Dec (i < j) → Dec (j < i) → max (g i) (g j) ≡ g (max i j)
      go (yes l) d = let e : max i j ≡ j = omega arith in rw e (omega (arith, rises i j l k))
      go (no l) (yes r) = let e : max i j ≡ i = omega arith in rw e (omega (arith, rises j i r h))
      go (no l) (no r) = let e : i ≡ j = omega arith in let f : max j j ≡ j = omega arith in rw (e, f) (omega arith)

  -- and back: what is lower after it was lower before
  pub lower_before : (i j : ℕ) → i < n → j < n → g i < g j → i < j
  lower_before i j h k l = go (dec_lt i j) (dec_lt j i)
    where
      go : Dec (i < j) → Dec (j < i) → i < j
      go (yes a) d = a
      go (no a) (yes b) = absurd (omega (arith, rises j i b h))
      go (no a) (no b) = let e : i ≡ j = omega arith in absurd (omega (arith, ap g e))
