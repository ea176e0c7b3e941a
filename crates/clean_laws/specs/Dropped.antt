-- A point whose weight is 0 may be left out, or another put in its place.
use Rattle.std.specs.Prelude.{ℕ, zero, suc, ◌+◌, ◌<◌, ◌≡◌, refl, true, List, [], ◌∷◌, ℤ, pos, ◌+ℤ◌, ◌*ℤ◌, length, ◌<ℤ◌}
use Rattle.std.proofs.Common.{arith, sym, ◌∙◌, ap, subst}
use Rattle.whole.specs.Quote.{quotes, combine, times}
use Rattle.meaning.specs.Pieces.{Event}
use Rattle.meaning.specs.Equations.{one, total, Balanced, Touch}
use Rattle.theory.specs.NoCrack as Faces
use Rattle.corner_laws.specs.Level.{read, balanced_by, sum_of}
use Rattle.corner_laws.specs.Left.{TouchIn, without, now_out}

-- ---- left out

-- the weights without the k-th
unfoldable pub skip : ℕ → (ℕ → ℕ) → ℕ → ℕ
skip zero w i = w (suc i)
skip (suc k) w zero = w zero
skip (suc k) w (suc i) = skip k (λ n. w (suc n)) i

pub skip_total : (f : Event → ℤ) (k : ℕ) (w : ℕ → ℕ) (l : List Event) → w k ≡ 0 → total f (λ i. pos (skip k w i)) (Faces.without k l) ≡ total f (λ i. pos (w i)) l
unfolding total skip Faces.without
skip_total f zero w [] h = refl
skip_total f (suc k) w [] h = refl
skip_total f zero w (e ∷ l) h = gone (pos (w 0)) (f e) (total f (λ i. pos (w (suc i))) l) (ap pos h)
  where
    gone : (x y t : ℤ) → x ≡ pos 0 → t ≡ x *ℤ y +ℤ t
    gone x y t h = combine (x ∷ y ∷ t ∷ []) (times y (sym h) ∷ []) (search quotes depth 40 fits 9000) refl
skip_total f (suc k) w (e ∷ l) h = ap (λ n. pos (w 0) *ℤ f e +ℤ n) (skip_total f k (λ n. w (suc n)) l h)

module _ (a b : List Event) where
  pub drop_first : (k : ℕ) → k < length a → TouchIn a b (without k (λ i. true)) → Touch (Faces.without k a) b
  drop_first k h t = record {
    u = skip k t.w;
    v = λ i. t.w (length a + i);
    balanced = balanced_by (λ m. skip_total (read m) k t.w a none ∙ sum_of t.level m);
    some = subst (λ z. pos 0 <ℤ z) (sym (skip_total one k t.w a none)) t.some;
  }
    where
      none : t.w k ≡ 0
      none = t.out k (omega arith) (now_out k (λ i. true))

  pub drop_second : (k : ℕ) → k < length b → TouchIn a b (without (length a + k) (λ i. true)) → Touch a (Faces.without k b)
  drop_second k h t = record {
    u = t.w;
    v = skip k (λ i. t.w (length a + i));
    balanced = balanced_by (λ m. sum_of t.level m ∙ sym (skip_total (read m) k (λ i. t.w (length a + i)) b none));
    some = t.some;
  }
    where
      none : t.w (length a + k) ≡ 0
      none = t.out (length a + k) (omega arith) (now_out (length a + k) (λ i. true))

-- ---- another in its place

-- the same points but for the k-th
pub data SameBut : ℕ → List Event → List Event → Type 0 where
  changed : {e g : Event} {l : List Event} → SameBut zero (e ∷ l) (g ∷ l)
  behind : {k : ℕ} {e : Event} {l m : List Event} → SameBut k l m → SameBut (suc k) (e ∷ l) (e ∷ m)

same_length : {k : ℕ} {l m : List Event} → SameBut k l m → length l ≡ length m
same_length changed = refl
same_length (behind s) = ap suc (same_length s)

total_changed : (f : Event → ℤ) (w : ℕ → ℕ) {k : ℕ} {l m : List Event} → SameBut k l m → w k ≡ 0 → total f (λ i. pos (w i)) l ≡ total f (λ i. pos (w i)) m
unfolding total
total_changed f w (changed {e} {g} {l}) h = any (pos (w 0)) (f e) (f g) (total f (λ i. pos (w (suc i))) l) (ap pos h)
  where
    any : (x y z t : ℤ) → x ≡ pos 0 → x *ℤ y +ℤ t ≡ x *ℤ z +ℤ t
    any x y z t h = combine (x ∷ y ∷ z ∷ t ∷ []) (times y h ∷ times z (sym h) ∷ []) (search quotes depth 40 fits 9000) refl
total_changed f w (behind {e = e} s) h = ap (λ n. pos (w 0) *ℤ f e +ℤ n) (total_changed f (λ i. w (suc i)) s h)

pub changed_first : (k : ℕ) {a a' : List Event} (b : List Event) → SameBut k a a' → k < length a → TouchIn a b (without k (λ i. true)) → TouchIn a' b (without k (λ i. true))
changed_first k {a} {a'} b s h t = record {
  w = t.w;
  level = subst (λ (n : ℕ). Balanced a' b (λ i. pos (t.w i)) (λ i. pos (t.w (n + i)))) (same_length s)
      (balanced_by (λ m. sym (total_changed (read m) t.w s none) ∙ sum_of t.level m));
  some = subst (λ z. pos 0 <ℤ z) (total_changed one t.w s none) t.some;
  out = λ i below e. t.out i (subst (λ (n : ℕ). i < n + length b) (sym (same_length s)) below) e;
}
  where
    none : t.w k ≡ 0
    none = t.out k (omega arith) (now_out k (λ i. true))

pub changed_second : (k : ℕ) (a : List Event) {b b' : List Event} → SameBut k b b' → k < length b → TouchIn a b (without (length a + k) (λ i. true)) → TouchIn a b' (without (length a + k) (λ i. true))
changed_second k a {b} {b'} s h t = record {
  w = t.w;
  level = balanced_by (λ m. sum_of t.level m ∙ total_changed (read m) (λ i. t.w (length a + i)) s none);
  some = t.some;
  out = λ i below e. t.out i (subst (λ (n : ℕ). i < length a + n) (sym (same_length s)) below) e;
}
  where
    none : t.w (length a + k) ≡ 0
    none = t.out (length a + k) (omega arith) (now_out (length a + k) (λ i. true))
