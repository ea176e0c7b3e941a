-- Weights that can be moved: where numbers that balance have 0 at one of the corners left and are not all 0, the weights are moved along
-- them until the first other weight becomes 0. All stay whole, since the weights are scaled first. So some corner can be left out.
use Rattle.std.specs.Prelude.{ℕ, zero, suc, ◌+◌, ◌*◌, ◌≤◌, ◌<◌, ◌-◌, ◌≡◌, refl, ◌≢◌, ◌⊎◌, Bool, true, false, List, [], ◌∷◌, ℤ, pos, negsuc, neg_ℤ, nat_abs, ◌+ℤ◌, ◌*ℤ◌, length, ◌≤ℤ◌, ◌<ℤ◌}
use Rattle.std.proofs.Common.{zero-le, mul-pos, arith, ◌∙◌, ap, subst, inl, inr, ⊎_elim, lt→ltb, le→leb}
use Rattle.std.proofs.Math.Decide.{dec_lt}
use Rattle.whole.specs.Laws.{negℤ_*ℤ}
use Rattle.whole.specs.Quote.{quotes, ring}
use Rattle.whole.specs.Order.{P, ord, le}
use Rattle.meaning.specs.Pieces.{Event}
use Rattle.meaning.specs.Equations.{one, total}
use Rattle.corner_laws.specs.Level.{Level, level_times, level_plus, level_same}
use Rattle.corner_laws.specs.Left.{TouchIn, without, without_out, still_out, now_out}
use Rattle.corner_laws.specs.Tightest.{Tightest, tightest}

-- numbers that balance, 0 for every corner that is not left, and not all 0
pub record Kernel (a b : List Event) (left : ℕ → Bool) : Type 0 where
  pub k : ℕ → ℤ
  pub level : Level a b k
  pub out : (i : ℕ) → i < length a + length b → left i ≡ false → k i ≡ pos 0
  pub place : ℕ
  pub there : place < length a + length b
  pub some : k place ≢ pos 0

-- some corner that is left can be left out
pub record Leaves (a b : List Event) (left : ℕ → Bool) : Type 0 where
  pub place : ℕ
  pub there : place < length a + length b
  pub was : left place ≡ true
  pub touch : TouchIn a b (without place left)

-- ---- weights above 0 somewhere

weight_of : (ℕ → ℕ) → List Event → ℕ
weight_of w [] = 0
weight_of w (e ∷ l) = w 0 + weight_of (λ i. w (suc i)) l

total_weight : (w : ℕ → ℕ) (l : List Event) → total one (λ i. pos (w i)) l ≡ pos (weight_of w l)
unfolding total weight_of
total_weight w [] = refl
total_weight w (e ∷ l) = ap (λ z. pos (w 0) *ℤ pos 1 +ℤ z) (total_weight (λ i. w (suc i)) l) ∙ ap pos (omega arith)

counts : (w : ℕ → ℕ) (l : List Event) (i : ℕ) → i < length l → w i ≤ weight_of w l
unfolding weight_of
counts w [] i h = absurd (omega arith)
counts w (e ∷ l) zero h = omega arith
counts w (e ∷ l) (suc i) h = omega (arith, counts (λ j. w (suc j)) l i (omega arith))

module _ {a b : List Event} (w : ℕ → ℕ) (h : Level a b (λ i. pos (w i))) where
  pub some_weight : (i : ℕ) → i < length a + length b → 0 < w i → pos 0 <ℤ total one (λ j. pos (w j)) a
  some_weight i k p = go (dec_lt i (length a))
    where
      above : (l : List Event) (v : ℕ → ℕ) (j : ℕ) → j < length l → 0 < v j → pos 0 <ℤ total one (λ j. pos (v j)) l
      above l v j k p = rw (total_weight v l) (record { lt = lt→ltb 0 (weight_of v l) (omega (arith, counts v l j k)) })

      go : Dec (i < length a) → pos 0 <ℤ total one (λ j. pos (w j)) a
      go (yes l) = above a w i l p
      go (no n) = rw h.sums (above b (λ j. w (length a + j)) (i - length a) (omega arith) (subst (λ j. 0 < w j) (omega arith) p))

-- ---- moving

-- the weight at j, moved along k until the weight at i is 0
abbrev moved : (ℕ → ℕ) → (ℕ → ℤ) → ℕ → ℕ → ℤ
moved w k i j = k i *ℤ pos (w j) +ℤ neg_ℤ (pos (w i)) *ℤ k j

less : (p q : ℤ) → q ≤ℤ p → pos 0 ≤ℤ (p +ℤ neg_ℤ q)
less p q h = le (p ∷ q ∷ []) (search quotes depth 40 fits 9000) (omega (arith, ord))

below : (m n : ℕ) → neg_ℤ (pos m) ≤ℤ pos n
below zero n = record { le = le→leb 0 n zero-le }
below (suc m) n = record { le = tt }

-- the move keeps a weight from falling below 0 where the tightest place falls first
not_below_lem : (w v c : ℕ) (k : ℤ) → v * P k ≤ w * c → pos 0 ≤ℤ (pos c *ℤ pos w +ℤ neg_ℤ (pos v) *ℤ k)
not_below_lem w v c k h = rw negℤ_*ℤ (less (pos c *ℤ pos w) (pos v *ℤ k) (go k h))
  where
    go : (k : ℤ) → v * P k ≤ w * c → (pos v *ℤ k) ≤ℤ (pos c *ℤ pos w)
    go (pos k) h = record { le = le→leb (v * k) (c * w) (omega arith) }
    go (negsuc k) h = below (v * suc k) (c * w)

size : (z : ℤ) → pos 0 ≤ℤ z → pos (nat_abs z) ≡ z
size (pos n) h = refl
size (negsuc n) h = absurd h.le

itself : (c w : ℤ) → c *ℤ w +ℤ neg_ℤ w *ℤ c ≡ pos 0
itself c w = ring (c ∷ w ∷ []) (search quotes depth 40 fits 9000) refl

none : (c v : ℤ) → c *ℤ pos 0 +ℤ neg_ℤ v *ℤ pos 0 ≡ pos 0
none c v = ring (c ∷ v ∷ []) (search quotes depth 40 fits 9000) refl

unmoved : (c w v : ℤ) → c *ℤ w +ℤ neg_ℤ v *ℤ pos 0 ≡ c *ℤ w
unmoved c w v = ring (c ∷ w ∷ v ∷ []) (search quotes depth 40 fits 9000) refl

whole : (z : ℤ) → 0 < P z → z ≡ pos (P z)
whole (pos n) h = refl
whole (negsuc n) h = absurd (omega arith)

module _ {a b : List Event} {left : ℕ → Bool} (t : TouchIn a b left) (l : ℕ) (there : l < length a + length b) (was : left l ≡ true) where
  -- along numbers that are above 0 somewhere
  along : (k : ℕ → ℤ) → Level a b k → ((i : ℕ) → i < length a + length b → without l left i ≡ false → k i ≡ pos 0) → Tightest (length a + length b) t.w (λ i. P (k i)) → 0 < t.w l → Leaves a b left
  along k h out m above = record {
    place = i;
    there = m.there;
    was = is_left (left i) refl;
    touch = record {
      w = w';
      level = moved_level;
      some = some_weight w' moved_level l there still_above;
      out = λ j k e. now_none j k (without_out i left j e);
    };
  }
    where
      i : ℕ
      i = m.place

      w' : ℕ → ℕ
      w' j = nat_abs (moved t.w k i j)

      is : (j : ℕ) → j < length a + length b → pos (w' j) ≡ moved t.w k i j
      is j h = size (moved t.w k i j) (rw (whole (k i) m.shares) (not_below_lem (t.w j) (t.w i) (P (k i)) (k j) (m.least j h)))

      moved_level : Level a b (λ j. pos (w' j))
      moved_level = level_same (λ j. pos (w' j)) is (level_plus (level_times (k i) t.level) (level_times (neg_ℤ (pos (t.w i))) h))

      still_above : 0 < w' l
      still_above = rw (out l there (now_out l left), unmoved (k i) (pos (t.w l)) (pos (t.w i)), whole (k i) m.shares) (mul-pos m.shares above)

      now_none : (j : ℕ) → j < length a + length b → (j ≡ i) ⊎ (left j ≡ false) → w' j ≡ 0
      now_none j h (inl e) = ap nat_abs (ap (moved t.w k i) e ∙ itself (k i) (pos (t.w i)))
      now_none j h (inr e) = rw (t.out j h e, out j h (still_out l left j e)) (ap nat_abs (none (k i) (pos (t.w i))))

      is_left : (c : Bool) → left i ≡ c → c ≡ true
      is_left true e = refl
      is_left false e = absurd (never (out i m.there (still_out l left i e)))
        where
          never : k i ≡ pos 0 → ⊥
          never z = let p = m.shares in let q = ap P z in omega arith

  pub leave : Kernel a b (without l left) → Leaves a b left
  leave K = go (t.w l) refl (K.k K.place) refl
    where
      other : ℕ → ℤ
      other i = negsuc 0 *ℤ K.k i

      along_or_other : (n : ℕ) → t.w l ≡ suc n → (z : ℤ) → K.k K.place ≡ z → Leaves a b left
      along_or_other n e (pos zero) f = absurd (K.some f)
      along_or_other n e (pos (suc m)) f = let p = ap P f in
          along K.k K.level K.out (tightest (length a + length b) t.w (λ i. P (K.k i)) K.place K.there (omega arith)) (omega arith)
      along_or_other n e (negsuc m) f = let p = ap (λ z. P (negsuc 0 *ℤ z)) f in
          along other (level_times (negsuc 0) K.level) (λ i h o. ap (λ z. negsuc 0 *ℤ z) (K.out i h o))
          (tightest (length a + length b) t.w (λ i. P (other i)) K.place K.there (omega arith)) (omega arith)

      go : (n : ℕ) → t.w l ≡ n → (z : ℤ) → K.k K.place ≡ z → Leaves a b left
      go zero e z f = record {
        place = l;
        there = there;
        was = was;
        touch = record { w = t.w; level = t.level; some = t.some; out = λ j h o. ⊎_elim (λ i. ap t.w i ∙ e) (t.out j h) (without_out l left j o) };
      }
      go (suc n) e z f = along_or_other n e z f
