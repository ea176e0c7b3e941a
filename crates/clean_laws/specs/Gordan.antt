-- Gordan's theorem: vectors have nonnegative weights, not all 0, that take them to nothing, or all of them lie strictly on one side; never both. By
-- how many they are: a side of all but the first that the first is not on tips the others over the first, and what is then said of these is said
-- of all.
use Prim.Native.Nat.{ℕ, zero, suc, ◌+◌, ◌*◌}
use Rattle.std.specs.Prelude.{◌≡◌, Bool, true, false, ℤ, negsuc, neg_ℤ, nat_abs, ◌+ℤ◌, ◌-ℤ◌, ◌*ℤ◌, length, ◌≤ℤ◌, ◌<ℤ◌}
use Rattle.std.proofs.Math.Path.{refl, ap, ap₂, subst}
use Rattle.std.proofs.Common.{sym, ◌∙◌, arith}
use mathlib.Core.List.{List, [], ◌∷◌, map}
use Rattle.std.proofs.Math.IntN.{pos}
use Rattle.std.proofs.lemmas.List.{length-map}
use Rattle.std.specs.Int.Signed.{le_z}
use Rattle.whole.specs.Quote.{quotes, ring}
use Rattle.whole.specs.Order.{M, P, parts, ord, le, lt, of_le, of_lt, of_eq, nn_mul, parts_le, parts_lt}
use Rattle.meaning.specs.Equations.{total}
use Rattle.theory.specs.Totals.{total_same, total_plus, total_times, total_map, weights_times}
use Rattle.theory.specs.Bounds.{Every, every_imp, above}
use Rattle.theory.specs.Spans.{Compared, compared, ordered, reversed}

-- vectors that are added and stretched, and measured against one another
pub record Space (E : Type 0) : Type 0 where
  pub dot : E → E → ℤ
  pub nothing : E
  pub plus : E → E → E
  pub scale : ℤ → E → E
  pub dot_plus : (a b c : E) → dot (plus a b) c ≡ dot a c +ℤ dot b c
  pub dot_scale : (k : ℤ) (a c : E) → dot (scale k a) c ≡ k *ℤ dot a c
  pub either : (a b : E) → dot a b ≡ dot b a
  pub only_nothing : (a : E) → dot a a ≤ℤ pos 0 → (y : E) → dot y a ≡ pos 0

module _ {E : Type 0} (s : Space E) where
  -- weights that take the vectors to nothing
  pub record Null (l : List E) : Type 0 where
    pub w : ℕ → ℕ
    pub none : (y : E) → total (s.dot y) (λ i. pos (w i)) l ≡ pos 0
    pub some : pos 0 <ℤ total (λ c. pos 1) (λ i. pos (w i)) l

  -- a direction that all of them go along
  pub record Side (l : List E) : Type 0 where
    pub y : E
    pub along : Every (λ c. pos 0 <ℤ s.dot y c) l

  pub data Gordan (l : List E) : Type 0 where
    null : Null l → Gordan l
    side : Side l → Gordan l

-- ---- on plain numbers

at_least_one : (x : ℤ) → pos 0 <ℤ x → pos 1 ≤ℤ x
at_least_one x h = le (x ∷ []) (search quotes depth 40 fits 9000) (omega (arith, ord))

pub size_of : (z : ℤ) → pos 0 ≤ℤ z → pos (nat_abs z) ≡ z
size_of (pos n) h = refl
size_of (negsuc n) h = absurd h.le

-- stretched so far that what is beside it does not matter
pub outgrows : (k f g : ℤ) → pos 0 <ℤ f → pos 0 ≤ℤ k → pos 0 <ℤ (k +ℤ g) → pos 0 <ℤ (k *ℤ f +ℤ g)
outgrows k f g h i j =
    let e : List ℤ = k ∷ f ∷ g ∷ [] in
    let d : pos 0 ≤ℤ (f -ℤ pos 1) = le e (search quotes depth 40 fits 9000) (omega (arith, ord)) in
    let m = of_le e (search quotes depth 40 fits 9000) (nn_mul k (f -ℤ pos 1) i d) in
    let n = of_lt e (search quotes depth 40 fits 9000) j in
    lt e (search quotes depth 40 fits 9000) (omega arith)

pub still_outgrows : (k j f g : ℤ) → pos 0 <ℤ f → pos 0 ≤ℤ j → pos 0 <ℤ (k *ℤ f +ℤ g) → pos 0 <ℤ ((j +ℤ k) *ℤ f +ℤ g)
still_outgrows k j f g h i p =
    let e : List ℤ = k ∷ j ∷ f ∷ g ∷ [] in
    let d : pos 0 ≤ℤ f = omega (arith, ord) in
    let m = of_le e (search quotes depth 40 fits 9000) (nn_mul j f i d) in
    let n = of_lt e (search quotes depth 40 fits 9000) p in
    lt e (search quotes depth 40 fits 9000) (omega arith)

pub above_its_minus : (g m p j : ℤ) → g +ℤ m ≡ p → pos 0 ≤ℤ p → pos 0 <ℤ j → pos 0 <ℤ (m +ℤ j +ℤ g)
above_its_minus g m p j e h i =
    let l : List ℤ = g ∷ m ∷ p ∷ j ∷ [] in
    lt l (search quotes depth 40 fits 9000) (omega (arith, ord, of_eq l (search quotes depth 40 fits 9000) e))

pub nat_le : (n : ℕ) → pos 0 ≤ℤ pos n
nat_le n = parts_le (omega arith)

pub nat_lt : (n : ℕ) → pos 0 <ℤ pos (suc n)
nat_lt n = parts_lt (omega arith)

module _ {E : Type 0} where
  pub every_both : (P Q R : E → Type 0) → ((c : E) → P c → Q c → R c) → (l : List E) → Every P l → Every Q l → Every R l
  every_both P Q R f [] h k = tt
  every_both P Q R f (c ∷ l) h k = (f c h.0 k.0, every_both P Q R f l h.1 k.1)

  every_unmap : (P : E → Type 0) (g : E → E) (l : List E) → Every P (map g l) → Every (λ c. P (g c)) l
  every_unmap P g [] h = tt
  every_unmap P g (c ∷ l) h = (h.0, every_unmap P g l h.1)

  pub record Enough (f g : E → ℤ) (l : List E) : Type 0 where
    pub n : ℕ
    pub stretched : Every (λ c. pos 0 <ℤ (pos n *ℤ f c +ℤ g c)) l

  pub enough : (f g : E → ℤ) (l : List E) → Every (λ c. pos 0 <ℤ f c) l → Enough f g l
  enough f g [] h = record { n = 0; stretched = tt }
  enough f g (c ∷ l) h = more (enough f g l h.1)
    where
      more : Enough f g l → Enough f g (c ∷ l)
      more r = record { n = M (g c) + suc r.n; stretched = (first, rest) }
        where
          first : pos 0 <ℤ (pos (M (g c) + suc r.n) *ℤ f c +ℤ g c)
          first = outgrows (pos (M (g c) + suc r.n)) (f c) (g c) h.0 (nat_le (M (g c) + suc r.n))
              (above_its_minus (g c) (pos (M (g c))) (pos (P (g c))) (pos (suc r.n)) (parts (g c)) (nat_le (P (g c))) (nat_lt r.n))

          split : M (g c) + suc r.n ≡ suc (M (g c)) + r.n
          split = omega arith

          rest : Every (λ b. pos 0 <ℤ (pos (M (g c) + suc r.n) *ℤ f b +ℤ g b)) l
          rest = subst (λ (n : ℕ). Every (λ b. pos 0 <ℤ (pos n *ℤ f b +ℤ g b)) l) (sym split)
              (every_both (λ b. pos 0 <ℤ f b) (λ b. pos 0 <ℤ (pos r.n *ℤ f b +ℤ g b)) (λ b. pos 0 <ℤ (pos (suc (M (g c)) + r.n) *ℤ f b +ℤ g b))
              (λ b p q. still_outgrows (pos r.n) (pos (suc (M (g c)))) (f b) (g b) p (nat_le (suc (M (g c)))) q) l h.1 r.stretched)

  pub no_weights : (f : E → ℤ) (l : List E) → total f (λ i. pos 0) l ≡ pos 0
  unfolding total
  no_weights f [] = refl
  no_weights f (c ∷ l) = ap (λ n. pos 0 *ℤ f c +ℤ n) (no_weights f l) ∙ nought (f c)
    where
      nought : (x : ℤ) → pos 0 *ℤ x +ℤ pos 0 ≡ pos 0
      nought x = ring (x ∷ []) (search quotes depth 40 fits 9000) refl

-- ---- the first, and a side of the others that it is not on

module _ {E : Type 0} (s : Space E) where
  dot_right : (z a b c : E) (h k : ℤ) → s.dot z (s.plus (s.scale h a) (s.scale k b)) ≡ h *ℤ s.dot z a +ℤ k *ℤ s.dot z b
  dot_right z a b c h k =
      s.either z (s.plus (s.scale h a) (s.scale k b)) ∙ s.dot_plus (s.scale h a) (s.scale k b) z
      ∙ ap₂ ◌+ℤ◌ (s.dot_scale h a z ∙ ap (λ n. h *ℤ n) (s.either a z)) (s.dot_scale k b z ∙ ap (λ n. k *ℤ n) (s.either b z))

  dot_left : (a b c : E) (h k : ℤ) → s.dot (s.plus (s.scale h a) (s.scale k b)) c ≡ h *ℤ s.dot a c +ℤ k *ℤ s.dot b c
  dot_left a b c h k = s.dot_plus (s.scale h a) (s.scale k b) c ∙ ap₂ ◌+ℤ◌ (s.dot_scale h a c) (s.dot_scale k b c)

  module _ (c₀ : E) (l : List E) (y : E) (on : Every (λ c. pos 0 <ℤ s.dot y c) l) (off : s.dot y c₀ ≤ℤ pos 0) where
    abbrev down : ℤ
    down = neg_ℤ (s.dot y c₀)

    -- the others, tipped over the first until they are level with the side
    abbrev tip : E → E
    tip c = s.plus (s.scale (s.dot y c) c₀) (s.scale down c)

    not_down : pos 0 ≤ℤ down
    not_down = le (s.dot y c₀ ∷ []) (search quotes depth 40 fits 9000) (omega (arith, ord))

    -- weights of the tipped ones
    module _ (n : Null s (map tip l)) where
      abbrev w : ℕ → ℤ
      w i = pos (n.w i)

      abbrev T : ℤ
      T = total (s.dot y) w l

      tipped_sum : (z : E) → T *ℤ s.dot z c₀ +ℤ down *ℤ total (s.dot z) w l ≡ pos 0
      tipped_sum z =
          exchange T (s.dot z c₀) (down *ℤ total (s.dot z) w l)
          ∙ sym (total_plus (λ c. s.dot z c₀ *ℤ s.dot y c) (λ c. down *ℤ s.dot z c) w l
          ∙ ap₂ ◌+ℤ◌ (total_times (s.dot z c₀) (s.dot y) w l) (total_times down (s.dot z) w l))
          ∙ sym (total_same (λ c. s.dot z (tip c)) (λ c. s.dot z c₀ *ℤ s.dot y c +ℤ down *ℤ s.dot z c) w l
          (λ c. dot_right z c₀ c c (s.dot y c) down ∙ exchange (s.dot y c) (s.dot z c₀) (down *ℤ s.dot z c)))
          ∙ sym (total_map (s.dot z) tip w l) ∙ n.none z
        where
          exchange : (a b c : ℤ) → a *ℤ b +ℤ c ≡ b *ℤ a +ℤ c
          exchange a b c = ring (a ∷ b ∷ c ∷ []) (search quotes depth 40 fits 9000) refl

      some_here : pos 0 <ℤ total (λ (c : E). pos 1) w l
      some_here = subst (λ z. pos 0 <ℤ z) (total_map (λ (c : E). pos 1) tip w l) n.some

      T_above : pos 0 <ℤ T
      T_above =
          let low : (pos 1 *ℤ total (λ (c : E). pos 1) w l) ≤ℤ T = above (s.dot y) (pos 1) n.w l (every_imp (λ c. pos 0 <ℤ s.dot y c) (λ c. pos 1 ≤ℤ s.dot y c) (λ c. at_least_one (s.dot y c)) l on) in
          more (total (λ (c : E). pos 1) w l) T low some_here
        where
          more : (o t : ℤ) → (pos 1 *ℤ o) ≤ℤ t → pos 0 <ℤ o → pos 0 <ℤ t
          more o t h k = let g = of_le (o ∷ t ∷ []) (search quotes depth 40 fits 9000) h in omega (arith, ord)

      unfoldable weights : ℕ → ℕ
      weights zero = nat_abs T
      weights (suc i) = nat_abs down * n.w i

      rest_sum : (f : E → ℤ) → total f (λ i. pos (weights (suc i))) l ≡ down *ℤ total f w l
      unfolding weights
      rest_sum f =
          weights_times (pos (nat_abs down)) f w l ∙ ap (λ d. d *ℤ total f w l) (size_of down not_down)

      null_all : Null s (c₀ ∷ l)
      unfolding total weights
      null_all = record {
        w = weights;
        none = λ z. ap₂ (λ (a b : ℤ). a *ℤ s.dot z c₀ +ℤ b) (size_of T (weak T T_above)) (rest_sum (s.dot z)) ∙ tipped_sum z;
        some = subst (λ z. pos 0 <ℤ z) (sym (ap₂ (λ (a b : ℤ). a *ℤ pos 1 +ℤ b) (size_of T (weak T T_above)) (rest_sum (λ c. pos 1))))
            (sum T down (total (λ (c : E). pos 1) w l) T_above not_down some_here);
      }
        where
          weak : (x : ℤ) → pos 0 <ℤ x → pos 0 ≤ℤ x
          weak x h = omega (arith, ord)

          sum : (t d o : ℤ) → pos 0 <ℤ t → pos 0 ≤ℤ d → pos 0 <ℤ o → pos 0 <ℤ (t *ℤ pos 1 +ℤ d *ℤ o)
          sum t d o h i j =
              let e : List ℤ = t ∷ d ∷ o ∷ [] in
              let m = of_le e (search quotes depth 40 fits 9000) (nn_mul d o i (weak o j)) in
              lt e (search quotes depth 40 fits 9000) (omega (arith, ord))

    -- a side of the tipped ones
    module _ (z : E) (up : Every (λ c. pos 0 <ℤ s.dot z c) (map tip l)) where
      -- level with the first, and along the others
      abbrev level : E
      level = s.plus (s.scale (s.dot z c₀) y) (s.scale down z)

      level_first : s.dot level c₀ ≡ pos 0
      level_first = dot_left y z c₀ (s.dot z c₀) down ∙ gone (s.dot z c₀) (s.dot y c₀)
        where
          gone : (a b : ℤ) → a *ℤ b +ℤ neg_ℤ b *ℤ a ≡ pos 0
          gone a b = ring (a ∷ b ∷ []) (search quotes depth 40 fits 9000) refl

      level_along : Every (λ c. pos 0 <ℤ s.dot level c) l
      level_along = every_imp (λ c. pos 0 <ℤ s.dot z (tip c)) (λ c. pos 0 <ℤ s.dot level c) (λ c h. subst (λ x. pos 0 <ℤ x) (same c) h) l (every_unmap (λ c. pos 0 <ℤ s.dot z c) tip l up)
        where
          same : (c : E) → s.dot z (tip c) ≡ s.dot level c
          same c = dot_right z c₀ c c (s.dot y c) down ∙ exchange (s.dot y c) (s.dot z c₀) (down *ℤ s.dot z c) ∙ sym (dot_left y z c (s.dot z c₀) down)
            where
              exchange : (a b c : ℤ) → a *ℤ b +ℤ c ≡ b *ℤ a +ℤ c
              exchange a b c = ring (a ∷ b ∷ c ∷ []) (search quotes depth 40 fits 9000) refl

      side_all : pos 0 <ℤ s.dot c₀ c₀ → Side s (c₀ ∷ l)
      side_all h =
          let r = enough (s.dot level) (s.dot c₀) l level_along in
          record {
            y = s.plus (s.scale (pos r.n) level) (s.scale (pos 1) c₀);
            along = (
              subst (λ x. pos 0 <ℤ x) (sym (at c₀ r ∙ ap (λ x. pos r.n *ℤ x +ℤ s.dot c₀ c₀) level_first ∙ nought (pos r.n) (s.dot c₀ c₀))) h,
              every_imp (λ c. pos 0 <ℤ (pos r.n *ℤ s.dot level c +ℤ s.dot c₀ c)) (λ c. pos 0 <ℤ s.dot (s.plus (s.scale (pos r.n) level) (s.scale (pos 1) c₀)) c)
                  (λ c k. subst (λ x. pos 0 <ℤ x) (sym (at c r)) k) l r.stretched,
            );
          }
        where
          one : (x a : ℤ) → x +ℤ pos 1 *ℤ a ≡ x +ℤ a
          one x a = ring (x ∷ a ∷ []) (search quotes depth 40 fits 9000) refl

          nought : (n a : ℤ) → n *ℤ pos 0 +ℤ a ≡ a
          nought n a = ring (n ∷ a ∷ []) (search quotes depth 40 fits 9000) refl

          at : (c : E) (r : Enough (s.dot level) (s.dot c₀) l) → s.dot (s.plus (s.scale (pos r.n) level) (s.scale (pos 1) c₀)) c ≡ pos r.n *ℤ s.dot level c +ℤ s.dot c₀ c
          at c r = dot_left level c₀ c (pos r.n) (pos 1) ∙ one (pos r.n *ℤ s.dot level c) (s.dot c₀ c)

  -- ---- the theorem

  first_alone : (c₀ : E) (l : List E) → s.dot c₀ c₀ ≤ℤ pos 0 → Null s (c₀ ∷ l)
  unfolding total
  first_alone c₀ l h = record {
    w = alone;
    none = λ z. ap₂ (λ (a b : ℤ). pos 1 *ℤ a +ℤ b) (s.only_nothing c₀ h z) (no_weights (s.dot z) l);
    some = subst (λ x. pos 0 <ℤ x) (sym (ap (λ b. pos 1 *ℤ pos 1 +ℤ b) (no_weights (λ (c : E). pos 1) l))) (nat_lt 0);
  }
    where
      alone : ℕ → ℕ
      alone zero = 1
      alone (suc i) = 0

  behind : (c₀ : E) (l : List E) → Null s l → Null s (c₀ ∷ l)
  unfolding total
  behind c₀ l n = record {
    w = shifted;
    none = λ z. nought (s.dot z c₀) (total (s.dot z) (λ i. pos (n.w i)) l) ∙ n.none z;
    some = subst (λ x. pos 0 <ℤ x) (sym (nought (pos 1) (total (λ (c : E). pos 1) (λ i. pos (n.w i)) l))) n.some;
  }
    where
      shifted : ℕ → ℕ
      shifted zero = 0
      shifted (suc i) = n.w i

      nought : (a b : ℤ) → pos 0 *ℤ a +ℤ b ≡ b
      nought a b = ring (a ∷ b ∷ []) (search quotes depth 40 fits 9000) refl

  step : (c₀ : E) (l : List E) (n : ℕ) → length l ≡ n → ((m : List E) → length m ≡ n → Gordan s m) → Gordan s l → Gordan s (c₀ ∷ l)
  step c₀ l n e next (null m) = null (behind c₀ l m)
  step c₀ l n e next (side d) = on_it (le_z (s.dot d.y c₀) (pos 0)) (compared (s.dot d.y c₀) (pos 0))
    where
      tipped : (off : s.dot d.y c₀ ≤ℤ pos 0) (c : Bool) → Compared (s.dot c₀ c₀) (pos 0) c → Gordan s (map (tip c₀ l d.y d.along off) l) → Gordan s (c₀ ∷ l)
      tipped off c h (null m) = null (null_all c₀ l d.y d.along off m)
      tipped off true (ordered h) (side z) = null (first_alone c₀ l h)
      tipped off false (reversed h) (side z) = side (side_all c₀ l d.y d.along off z.y z.along h)

      on_it : (c : Bool) → Compared (s.dot d.y c₀) (pos 0) c → Gordan s (c₀ ∷ l)
      on_it false (reversed h) = side (record { y = d.y; along = (h, d.along) })
      on_it true (ordered off) =
          tipped off (le_z (s.dot c₀ c₀) (pos 0)) (compared (s.dot c₀ c₀) (pos 0))
          (next (map (tip c₀ l d.y d.along off) l) (length-map l (tip c₀ l d.y d.along off) ∙ e))

  abbrev OfLength : ℕ → Type 0
  OfLength n = (l : List E) → length l ≡ n → Gordan s l

  of_none : (l : List E) → length l ≡ 0 → Gordan s l
  of_none [] e = side (record { y = s.nothing; along = tt })
  of_none (c ∷ l) e = absurd (omega (arith, e))

  of_one_more : (n : ℕ) → OfLength n → (l : List E) → length l ≡ suc n → Gordan s l
  of_one_more n next [] e = absurd (omega (arith, e))
  of_one_more n next (c ∷ l) e = let f : length l ≡ n = omega (arith, e) in step c l n f next (next l f)

  by_count : (n : ℕ) → OfLength n
  by_count zero = of_none
  by_count (suc n) = of_one_more n (by_count n)

  pub gordan : (l : List E) → Gordan s l
  gordan l = by_count (length l) l refl

  -- never both
  pub never_both : (l : List E) → Null s l → ¬ Side s l
  never_both l n d =
      let low = above (s.dot d.y) (pos 1) n.w l (every_imp (λ c. pos 0 <ℤ s.dot d.y c) (λ c. pos 1 ≤ℤ s.dot d.y c) (λ c. at_least_one (s.dot d.y c)) l d.along) in
      squeezed (total (λ (c : E). pos 1) (λ i. pos (n.w i)) l) (total (s.dot d.y) (λ i. pos (n.w i)) l) low (n.none d.y) n.some
    where
      squeezed : (o t : ℤ) → (pos 1 *ℤ o) ≤ℤ t → t ≡ pos 0 → ¬ (pos 0 <ℤ o)
      squeezed o t h e k = let g = of_le (o ∷ t ∷ []) (search quotes depth 40 fits 9000) h in omega (arith, ord)
