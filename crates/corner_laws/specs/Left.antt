-- A corner is left out where its weight is 0, so nothing is renumbered: the corners of both simplices are counted in one run. Leaving a corner out never makes weights, and with every corner left there are weights exactly as before.
use Rattle.std.specs.Prelude.{ℕ, zero, suc, ◌+◌, ◌<◌, ◌≡◌, refl, ◌↔◌, ◌⊎◌, Bool, true, false, cond, List, ℤ, pos, T, eqb, length, ◌<ℤ◌}
use Rattle.std.proofs.Common.{zero-add, suc-add, arith, sym, ◌∙◌, ap, subst, inl, inr, eqb→eq}
use Rattle.std.proofs.Math.Dec.{eqb_refl}
use Rattle.meaning.specs.Pieces.{Event}
use Rattle.meaning.specs.Equations.{one, total, Touch}
use Rattle.theory.specs.Totals.{weights_same}
use Rattle.theory.specs.Solved.{weights_there}
use Rattle.corner_laws.specs.Level.{Level, balanced_by, sum_of, read}

-- weights with 0 for every corner that is not left
pub record TouchIn (a b : List Event) (left : ℕ → Bool) : Type 0 where
  pub w : ℕ → ℕ
  pub level : Level a b (λ i. pos (w i))
  pub some : pos 0 <ℤ total one (λ i. pos (w i)) a
  pub out : (i : ℕ) → i < length a + length b → left i ≡ false → w i ≡ 0

-- left without the corner i
abbrev pub without : ℕ → (ℕ → Bool) → ℕ → Bool
without i left j = cond (eqb j i) false (left j)

pub without_out : (i : ℕ) (left : ℕ → Bool) (j : ℕ) → without i left j ≡ false → (j ≡ i) ⊎ (left j ≡ false)
without_out i left j = go (eqb j i) refl
  where
    go : (c : Bool) → eqb j i ≡ c → cond c false (left j) ≡ false → (j ≡ i) ⊎ (left j ≡ false)
    go true e h = inl (eqb→eq j i (subst T (sym e) tt))
    go false e h = inr h

pub still_out : (i : ℕ) (left : ℕ → Bool) (j : ℕ) → left j ≡ false → without i left j ≡ false
still_out i left j e = kept (eqb j i)
  where
    kept : (c : Bool) → cond c false (left j) ≡ false
    kept true = refl
    kept false = e

pub now_out : (i : ℕ) (left : ℕ → Bool) → without i left i ≡ false
now_out i left = ap (λ c. cond c false (left i)) (T_true (eqb i i) (eqb_refl i))
  where
    T_true : (c : Bool) → T c → c ≡ true
    T_true true t = refl
    T_true false t = absurd t

-- ---- leaving a corner out never makes weights

module _ {a b : List Event} where
  pub fewer : {left more : ℕ → Bool} → ((i : ℕ) → i < length a + length b → more i ≡ false → left i ≡ false) → TouchIn a b left → TouchIn a b more
  fewer h t = record { w = t.w; level = t.level; some = t.some; out = λ i k e. t.out i k (h i k e) }

  pub never_makes : (i : ℕ) (left : ℕ → Bool) → TouchIn a b (without i left) → TouchIn a b left
  never_makes i left = fewer (λ j k. still_out i left j)

-- ---- with every corner left

-- u for the first m, v for those behind
unfoldable joined : ℕ → (ℕ → ℕ) → (ℕ → ℕ) → ℕ → ℕ
joined zero u v i = v i
joined (suc m) u v zero = u zero
joined (suc m) u v (suc i) = joined m (λ j. u (suc j)) v i

joined_first : (m : ℕ) (u v : ℕ → ℕ) (i : ℕ) → i < m → joined m u v i ≡ u i
unfolding joined
joined_first zero u v i h = absurd (omega arith)
joined_first (suc m) u v zero h = refl
joined_first (suc m) u v (suc i) h = joined_first m (λ j. u (suc j)) v i (omega arith)

joined_second : (m : ℕ) (u v : ℕ → ℕ) (i : ℕ) → joined m u v (m + i) ≡ v i
unfolding joined
joined_second zero u v i = ap v (zero-add i)
joined_second (suc m) u v i = ap (joined (suc m) u v) (suc-add m i) ∙ joined_second m (λ j. u (suc j)) v i

module _ {a b : List Event} where
  touch_in : Touch a b → TouchIn a b (λ i. true)
  touch_in t = record {
    w = w;
    level = balanced_by (λ m. same (read m) (sum_of t.balanced m));
    some = rw (front one) t.some;
    out = λ i k e. absurd (subst T e tt);
  }
    where
      w : ℕ → ℕ
      w = joined (length a) t.u t.v

      front : (f : Event → ℤ) → total f (λ i. pos (w i)) a ≡ total f (λ i. pos (t.u i)) a
      front f = weights_there f (λ i. pos (w i)) (λ i. pos (t.u i)) a (λ i h. ap pos (joined_first (length a) t.u t.v i h))

      same : (f : Event → ℤ) → total f (λ i. pos (t.u i)) a ≡ total f (λ i. pos (t.v i)) b → total f (λ i. pos (w i)) a ≡ total f (λ i. pos (w (length a + i))) b
      same f e =
          front f ∙ e
          ∙ weights_same f (λ i. pos (t.v i)) (λ i. pos (w (length a + i))) b (λ i. ap pos (sym (joined_second (length a) t.u t.v i)))

  pub touch_in_is : Touch a b ↔ TouchIn a b (λ i. true)
  touch_in_is = (
    touch_in,
    λ t. record { u = t.w; v = λ i. t.w (length a + i); balanced = t.level; some = t.some },
  )
