-- The six equations with rational weights, as document 01 first says them, and what they have to do with whole weights: with the
-- denominators cleared they are the same, so nonnegative rational weights exist exactly when whole ones do.
use Rattle.std.specs.Prelude.{◌≡◌, refl, ◌↔◌, List, [], ◌∷◌, ℕ, ◌*◌, ◌<◌, ℤ, pos, negsuc, nat_abs, ◌*ℤ◌, length, ◌≤ℤ◌, ◌<ℤ◌}
use Rattle.std.proofs.Common.{sym, ◌∙◌, mul-pos, ltb→lt, lt→ltb}
use Rattle.std.proofs.Math.IntN.{*ℤ_comm}
use Rattle.std.specs.Int.Signed.{lt_z_yes}
use Rattle.whole.specs.Quote.{quotes, combine, times}
use Rattle.whole.specs.Signs.{sign_transfer}
use Rattle.meaning.specs.Pieces.{Event}
use Rattle.meaning.specs.Equations.{one, x_of, y_of, z_of, time_of, total, Balanced, Touch}
use Rattle.theory.specs.Fractions.{Fraction, ◌≃◌, whole, total_of, Over, total_over, Cleared, cleared, equal_over, nonzero}
use Rattle.theory.specs.Solved.{AllAgree, nonneg, touch_of_sizes}

-- the weights of each simplex sum to 1; the weighted x, y, z and time agree
pub record Solves (a b : List Event) (u v : ℕ → Fraction) : Type 0 where
  pub first_sum : total_of one u a ≃ whole (pos 1)
  pub second_sum : total_of one v b ≃ whole (pos 1)
  pub xs : total_of x_of u a ≃ total_of x_of v b
  pub ys : total_of y_of u a ≃ total_of y_of v b
  pub zs : total_of z_of u a ≃ total_of z_of v b
  pub times : total_of time_of u a ≃ total_of time_of v b

-- nonnegative rational weights that solve them
pub record RationalTouch (a b : List Event) : Type 0 where
  pub u : ℕ → Fraction
  pub v : ℕ → Fraction
  pub solves : Solves a b u v
  pub first : (i : ℕ) → i < length a → pos 0 ≤ℤ (u i).over
  pub second : (i : ℕ) → i < length b → pos 0 ≤ℤ (v i).over

-- ---- over one denominator

-- the weights of both lists are whole numbers over N
pub record Common (a b : List Event) (N : ℕ) (s t : ℕ → ℤ) (u v : ℕ → Fraction) : Type 0 where
  pub positive : 0 < N
  pub first : Over N s u (length a)
  pub second : Over N t v (length b)

-- they solve the equations exactly when the whole numbers balance and sum to N
module _ {a b : List Event} {N : ℕ} {s t : ℕ → ℤ} {u v : ℕ → Fraction} (c : Common a b N s t u v) where
  sum_is : (f : Event → ℤ) → (total_of f u a ≃ total_of f v b) ↔ (total f s a ≡ total f t b)
  sum_is f =
      equal_over (total_of f u a) (total_of f v b) (total f s a) (total f t b) c.positive (total_over f a c.first) (total_over f b c.second)

  first_is : (total_of one u a ≃ whole (pos 1)) ↔ (total one s a ≡ pos N)
  first_is =
      equal_over (total_of one u a) (whole (pos 1)) (total one s a) (pos N) c.positive (total_over one a c.first) (*ℤ_comm (pos 1) (pos N))

  second_is : (total_of one v b ≃ whole (pos 1)) ↔ (total one t b ≡ pos N)
  second_is =
      equal_over (total_of one v b) (whole (pos 1)) (total one t b) (pos N) c.positive (total_over one b c.second) (*ℤ_comm (pos 1) (pos N))

  pub balanced_of : Solves a b u v → Balanced a b s t
  balanced_of e = record {
    sums = first_is.0 e.first_sum ∙ sym (second_is.0 e.second_sum);
    xs = (sum_is x_of).0 e.xs;
    ys = (sum_is y_of).0 e.ys;
    zs = (sum_is z_of).0 e.zs;
    times = (sum_is time_of).0 e.times;
  }

  pub sum_of : Solves a b u v → total one s a ≡ pos N
  sum_of e = first_is.0 e.first_sum

  pub solves_of : Balanced a b s t → total one s a ≡ pos N → Solves a b u v
  solves_of e g = record {
    first_sum = first_is.1 g;
    second_sum = second_is.1 (sym e.sums ∙ g);
    xs = (sum_is x_of).1 e.xs;
    ys = (sum_is y_of).1 e.ys;
    zs = (sum_is z_of).1 e.zs;
    times = (sum_is time_of).1 e.times;
  }

-- whole numbers over N, as fractions
abbrev pub fraction : (N : ℕ) → 0 < N → ℤ → Fraction
fraction N n z = record { over = z; under = N; positive = n }

pub fractions_common : {a b : List Event} {N : ℕ} {s t : ℕ → ℤ} (n : 0 < N) → Common a b N s t (λ i. fraction N n (s i)) (λ i. fraction N n (t i))
fractions_common n = record { positive = n; first = record { each = λ i h. refl }; second = record { each = λ i h. refl } }

-- any weights of two lists have a denominator in common
pub record AnyCommon (a b : List Event) (u v : ℕ → Fraction) : Type 0 where
  pub N : ℕ
  pub s : ℕ → ℤ
  pub t : ℕ → ℤ
  pub common : Common a b N s t u v

pub any_common : (a b : List Event) (u v : ℕ → Fraction) → AnyCommon a b u v
any_common a b u v = record {
  N = c.common * d.common;
  s = λ i. c.shares i *ℤ pos d.common;
  t = λ i. d.shares i *ℤ pos c.common;
  common = record {
    positive = mul-pos c.positive d.positive;
    first = record { each = λ i h. widen (c.shares i) (pos d.common) (pos (u i).under) (u i).over (pos c.common) (c.is.each i h) };
    second = record { each = λ i h. widen' (d.shares i) (pos c.common) (pos (v i).under) (v i).over (pos d.common) (d.is.each i h) };
  };
}
  where
    c : Cleared u (length a)
    c = cleared u (length a)

    d : Cleared v (length b)
    d = cleared v (length b)

    widen : (s k d o C : ℤ) → s *ℤ d ≡ o *ℤ C → s *ℤ k *ℤ d ≡ o *ℤ (C *ℤ k)
    widen s k d o C h = combine (s ∷ k ∷ d ∷ o ∷ C ∷ []) (times k h ∷ []) (search quotes depth 40 fits 9000) refl

    widen' : (s k d o C : ℤ) → s *ℤ d ≡ o *ℤ C → s *ℤ k *ℤ d ≡ o *ℤ (k *ℤ C)
    widen' s k d o C h = combine (s ∷ k ∷ d ∷ o ∷ C ∷ []) (times k h ∷ []) (search quotes depth 40 fits 9000) refl

-- ---- nonnegative rational weights exist exactly when whole ones do

size_of : (z : ℤ) → pos 0 <ℤ z → z ≡ pos (nat_abs z)
size_of (pos n) h = refl
size_of (negsuc n) h = absurd h.lt

size_positive : (z : ℤ) → pos 0 <ℤ z → 0 < nat_abs z
size_positive (pos n) h = ltb→lt 0 n h.lt
size_positive (negsuc n) h = absurd h.lt

rational_of_touch : {a b : List Event} → Touch a b → RationalTouch a b
rational_of_touch {a} {b} t = record {
  u = λ i. fraction N n (pos (t.u i));
  v = λ i. fraction N n (pos (t.v i));
  solves = solves_of (fractions_common n) t.balanced (size_of (total one (λ i. pos (t.u i)) a) t.some);
  first = λ i h. nonneg (t.u i);
  second = λ i h. nonneg (t.v i);
}
  where
    N : ℕ
    N = nat_abs (total one (λ i. pos (t.u i)) a)

    n : 0 < N
    n = size_positive (total one (λ i. pos (t.u i)) a) t.some

-- the whole weights are not negative either
over_agrees : {N : ℕ} {s : ℕ → ℤ} {w : ℕ → Fraction} (l : List Event) → 0 < N → Over N s w (length l) → ((i : ℕ) → i < length l → pos 0 ≤ℤ (w i).over) → AllAgree (pos N) s l
over_agrees {N} {s} {w} l n h k = record { each = λ i g. (sign_transfer (w i).over (pos N) (pos (w i).under) (s i) (sym (h.each i g) ∙ *ℤ_comm (s i) (pos (w i).under)) (above (w i).positive) (nonzero n)).0 (k i g) }
  where
    above : {m : ℕ} → 0 < m → pos 0 <ℤ pos m
    above {m} h = lt_z_yes (lt→ltb 0 m h)

touch_of_rational : {a b : List Event} → RationalTouch a b → Touch a b
touch_of_rational {a} {b} r = touch_of_sizes
    (over_agrees a c.common.positive c.common.first r.first) (over_agrees b c.common.positive c.common.second r.second)
    (nonzero c.common.positive) (balanced_of c.common r.solves) (sum_of c.common r.solves)
  where
    c : AnyCommon a b r.u r.v
    c = any_common a b r.u r.v

pub touch_rational : (a b : List Event) → Touch a b ↔ RationalTouch a b
touch_rational a b = (rational_of_touch, touch_of_rational)
