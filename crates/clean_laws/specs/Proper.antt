-- An edge that is through a triangle at one time, and no end of it in the triangle and no side touched, goes on being through it when everything is
-- blown up far enough and nudged. For then all five weights are above 0, the volume of the corners seen from an end is not 0, and the weights are
-- volumes, whose signs stay.
use Rattle.std.specs.Prelude.{ℕ, zero, suc, ◌+◌, ◌≤◌, ◌<◌, ◌≡◌, ◌≢◌, ◌⊎◌, Bool, true, false, List, [], ◌∷◌, ℤ, negsuc, neg_ℤ, ◌+ℤ◌, ◌-ℤ◌, ◌*ℤ◌, ◌≤ℤ◌, ◌<ℤ◌}
use Rattle.std.proofs.Common.{arith, sym, ◌∙◌, ap, ap₂, inl, inr, ⊎_elim, true≢false}
use Rattle.std.proofs.Math.Path.{refl, subst}
use Rattle.std.proofs.Math.IntN.{pos, nat_abs}
use Rattle.std.proofs.Math.ListN.{get_or}
use Rattle.std.specs.Int.Signed.{le_z}
use Rattle.whole.specs.Vector.{Vector, minus, plus, scale, volume}
use Rattle.whole.specs.VectorLaws.{coordinates, vector_eq}
use Rattle.whole.specs.Quote.{quotes, ring, combine, times}
use Rattle.whole.specs.Order.{M, P, parts, ord, le, lt, of_le, of_eq, nn_mul, parts_lt}
use Rattle.meaning.specs.Pieces.{Event}
use Rattle.meaning.specs.Equations.{total, Touch}
use Rattle.theory.specs.Spans.{Compared, compared, ordered, reversed}
use Rattle.corner_laws.specs.Level.{Level}
use Rattle.corner_laws.specs.Left.{TouchIn, without, without_out, touch_in_is}
use Rattle.corner_laws.specs.Leave.{Kernel, leave}
use Rattle.corner_laws.specs.Flat.{Three, flat₃}
use Rattle.clean_laws.specs.Gordan.{nat_le, nat_lt, size_of, outgrows}
use Rattle.clean_laws.specs.Columns.{FromSomeOn}
use Rattle.clean_laws.specs.Congruent.{blown_to}

-- ---- from some number on

module _ (f : ℤ → ℤ) where
  -- what is above 0 from some number on, times that number, outgrows what is beside it
  grows : (g : ℤ) → FromSomeOn (λ n. pos 0 <ℤ f n) → FromSomeOn (λ n. pos 0 <ℤ (n *ℤ f n +ℤ g))
  grows g r = record {
    n = r.n + (M g + 1);
    from = λ m h. outgrows (pos m) (f (pos m)) g (r.from m (omega arith)) (nat_le m) (enough m (omega arith));
  }
    where
      enough : (m : ℕ) → M g + 1 ≤ m → pos 0 <ℤ (pos m +ℤ g)
      enough m h = more (pos m) g (pos (M g)) (pos (P g)) (parts g) (nat_le (P g)) (parts_lt (omega arith))
        where
          more : (m g k p : ℤ) → g +ℤ k ≡ p → pos 0 ≤ℤ p → k <ℤ m → pos 0 <ℤ (m +ℤ g)
          more m g k p e h i = let l : List ℤ = m ∷ g ∷ k ∷ p ∷ [] in lt l (search quotes depth 40 fits 9000) (omega (arith, ord, of_eq l (search quotes depth 40 fits 9000) e))

abbrev cubic : ℤ → ℤ → ℤ → ℤ → ℤ → ℤ
cubic A B C E n = n *ℤ (n *ℤ (n *ℤ A +ℤ B) +ℤ C) +ℤ E

cubic_up : (A B C E : ℤ) → pos 0 <ℤ A → FromSomeOn (λ n. pos 0 <ℤ cubic A B C E n)
cubic_up A B C E h =
    grows (λ n. n *ℤ (n *ℤ A +ℤ B) +ℤ C) E (grows (λ n. n *ℤ A +ℤ B) C (grows (λ n. A) B (record { n = 0; from = λ m i. h })))

-- ---- volumes that are blown up

module _ (n : ℤ) (p₁ p₂ p₃ r₁ r₂ r₃ : Vector) where
  abbrev once : ℤ
  once = volume r₁ p₂ p₃ +ℤ volume p₁ r₂ p₃ +ℤ volume p₁ p₂ r₃

  abbrev twice : ℤ
  twice = volume r₁ r₂ p₃ +ℤ volume r₁ p₂ r₃ +ℤ volume p₁ r₂ r₃

  volume_blown : volume (plus (scale n p₁) r₁) (plus (scale n p₂) r₂) (plus (scale n p₃) r₃) ≡ cubic (volume p₁ p₂ p₃) once twice (volume r₁ r₂ r₃) n
  unfolding volume
  volume_blown = ring (n ∷ coordinates (p₁ ∷ p₂ ∷ p₃ ∷ r₁ ∷ r₂ ∷ r₃ ∷ [])) (search quotes depth 80 fits 400000) refl

blown_minus : (n : ℤ) (c q a r : Vector) → minus (blown_to n c q) (blown_to n a r) ≡ plus (scale n (minus c a)) (minus q r)
blown_minus n c q a r = vector_eq (on c.x q.x a.x r.x) (on c.y q.y a.y r.y) (on c.z q.z a.z r.z)
  where
    on : (c q a r : ℤ) → (n *ℤ c +ℤ q) -ℤ (n *ℤ a +ℤ r) ≡ n *ℤ (c -ℤ a) +ℤ (q -ℤ r)
    on c q a r = ring (n ∷ c ∷ q ∷ a ∷ r ∷ []) (search quotes depth 40 fits 9000) refl

-- ---- four vectors

-- the volumes combine three of four vectors to the fourth
record Combined (w p q r : Vector) : Type 0 where
  x : volume p q r *ℤ w.x ≡ volume w q r *ℤ p.x +ℤ volume p w r *ℤ q.x +ℤ volume p q w *ℤ r.x
  y : volume p q r *ℤ w.y ≡ volume w q r *ℤ p.y +ℤ volume p w r *ℤ q.y +ℤ volume p q w *ℤ r.y
  z : volume p q r *ℤ w.z ≡ volume w q r *ℤ p.z +ℤ volume p w r *ℤ q.z +ℤ volume p q w *ℤ r.z

combined : (w p q r : Vector) → Combined w p q r
unfolding volume
combined w p q r = record {
  x = ring (coordinates (w ∷ p ∷ q ∷ r ∷ [])) (search quotes depth 80 fits 200000) refl;
  y = ring (coordinates (w ∷ p ∷ q ∷ r ∷ [])) (search quotes depth 80 fits 200000) refl;
  z = ring (coordinates (w ∷ p ∷ q ∷ r ∷ [])) (search quotes depth 80 fits 200000) refl;
}

-- numbers that combine them are in the ratio of the volumes
module _ (w p q r : Vector) (m k l n : ℤ) (hx : m *ℤ w.x ≡ k *ℤ p.x +ℤ l *ℤ q.x +ℤ n *ℤ r.x) (hy : m *ℤ w.y ≡ k *ℤ p.y +ℤ l *ℤ q.y +ℤ n *ℤ r.y) (hz : m *ℤ w.z ≡ k *ℤ p.z +ℤ l *ℤ q.z +ℤ n *ℤ r.z) where
  abbrev letters : List ℤ
  letters = m ∷ k ∷ l ∷ n ∷ coordinates (w ∷ p ∷ q ∷ r ∷ [])

  ratio₁ : k *ℤ volume p q r ≡ m *ℤ volume w q r
  unfolding volume
  ratio₁ = combine letters
      (times (neg_ℤ (q.y *ℤ r.z -ℤ q.z *ℤ r.y)) hx ∷ times (q.x *ℤ r.z -ℤ q.z *ℤ r.x) hy ∷ times (neg_ℤ (q.x *ℤ r.y -ℤ q.y *ℤ r.x)) hz ∷ [])
      (search quotes depth 80 fits 200000) refl

  ratio₂ : l *ℤ volume p q r ≡ m *ℤ volume p w r
  unfolding volume
  ratio₂ = combine letters
      (times (p.y *ℤ r.z -ℤ p.z *ℤ r.y) hx ∷ times (neg_ℤ (p.x *ℤ r.z -ℤ p.z *ℤ r.x)) hy ∷ times (p.x *ℤ r.y -ℤ p.y *ℤ r.x) hz ∷ [])
      (search quotes depth 80 fits 200000) refl

  ratio₃ : n *ℤ volume p q r ≡ m *ℤ volume p q w
  unfolding volume
  ratio₃ = combine letters
      (times (neg_ℤ (p.y *ℤ q.z -ℤ p.z *ℤ q.y)) hx ∷ times (p.x *ℤ q.z -ℤ p.z *ℤ q.x) hy ∷ times (neg_ℤ (p.x *ℤ q.y -ℤ p.y *ℤ q.x)) hz ∷ [])
      (search quotes depth 80 fits 200000) refl

-- ---- five points at one time

module _ (τ : ℤ) (a b c₁ c₂ c₃ : Vector) where
  abbrev pub at : Vector → Event
  at p = record { place = p; time = τ }

  abbrev pub two_ends : List Event
  two_ends = at a ∷ at b ∷ []

  abbrev pub three_corners : List Event
  three_corners = at c₁ ∷ at c₂ ∷ at c₃ ∷ []

  -- none of the five can be left out
  pub record Loose : Type 0 where
    pub none : (k : ℕ) → k < 5 → ¬ TouchIn two_ends three_corners (without k (λ i. true))

  abbrev p₁ : Vector
  p₁ = minus c₁ a

  abbrev p₂ : Vector
  p₂ = minus c₂ a

  abbrev p₃ : Vector
  p₃ = minus c₃ a

  abbrev way : Vector
  way = minus b a

  abbrev D : ℤ
  D = volume p₁ p₂ p₃

  abbrev D₁ : ℤ
  D₁ = volume way p₂ p₃

  abbrev D₂ : ℤ
  D₂ = volume p₁ way p₃

  abbrev D₃ : ℤ
  D₃ = volume p₁ p₂ way

  abbrev S : ℤ
  S = D₁ +ℤ D₂ +ℤ D₃ -ℤ D

  -- the volumes, all of one sign, are weights
  by_volumes : (κ : ℤ) → pos 0 <ℤ (κ *ℤ D) → pos 0 <ℤ (κ *ℤ D₁) → pos 0 <ℤ (κ *ℤ D₂) → pos 0 <ℤ (κ *ℤ D₃) → pos 0 <ℤ (κ *ℤ S) → Touch two_ends three_corners
  unfolding total
  by_volumes κ h h₁ h₂ h₃ hs = record {
    u = λ i. get_or (nat_abs (κ *ℤ S) ∷ nat_abs (κ *ℤ D) ∷ []) i 0;
    v = λ i. get_or (nat_abs (κ *ℤ D₁) ∷ nat_abs (κ *ℤ D₂) ∷ nat_abs (κ *ℤ D₃) ∷ []) i 0;
    balanced = record {
      sums = sized (pos 1) (pos 1) (pos 1) (pos 1) (pos 1) (level_ones κ D D₁ D₂ D₃);
      xs = sized a.x b.x c₁.x c₂.x c₃.x place_x;
      ys = sized a.y b.y c₁.y c₂.y c₃.y place_y;
      zs = sized a.z b.z c₁.z c₂.z c₃.z place_z;
      times = sized τ τ τ τ τ (level_times κ D D₁ D₂ D₃ τ);
    };
    some = subst (λ z. pos 0 <ℤ z) (sym (ap₂ (λ (x y : ℤ). x *ℤ pos 1 +ℤ (y *ℤ pos 1 +ℤ pos 0)) (size_of (κ *ℤ S) (weak (κ *ℤ S) hs)) (size_of (κ *ℤ D) (weak (κ *ℤ D) h)))) (ups (κ *ℤ S) (κ *ℤ D) hs h);
  }
    where
      weak : (x : ℤ) → pos 0 <ℤ x → pos 0 ≤ℤ x
      weak x h = omega (arith, ord)

      ups : (x y : ℤ) → pos 0 <ℤ x → pos 0 <ℤ y → pos 0 <ℤ (x *ℤ pos 1 +ℤ (y *ℤ pos 1 +ℤ pos 0))
      ups x y h k = lt (x ∷ y ∷ []) (search quotes depth 40 fits 9000) (omega (arith, ord))

      place : (κ d e f g a b p q r : ℤ) → d *ℤ (b -ℤ a) ≡ e *ℤ (p -ℤ a) +ℤ f *ℤ (q -ℤ a) +ℤ g *ℤ (r -ℤ a)
          → (κ *ℤ (e +ℤ f +ℤ g -ℤ d)) *ℤ a +ℤ ((κ *ℤ d) *ℤ b +ℤ pos 0) ≡ (κ *ℤ e) *ℤ p +ℤ ((κ *ℤ f) *ℤ q +ℤ ((κ *ℤ g) *ℤ r +ℤ pos 0))
      place κ d e f g a b p q r h = combine (κ ∷ d ∷ e ∷ f ∷ g ∷ a ∷ b ∷ p ∷ q ∷ r ∷ []) (times κ h ∷ []) (search quotes depth 60 fits 90000) refl

      level_ones : (κ d e f g : ℤ) → (κ *ℤ (e +ℤ f +ℤ g -ℤ d)) *ℤ pos 1 +ℤ ((κ *ℤ d) *ℤ pos 1 +ℤ pos 0) ≡ (κ *ℤ e) *ℤ pos 1 +ℤ ((κ *ℤ f) *ℤ pos 1 +ℤ ((κ *ℤ g) *ℤ pos 1 +ℤ pos 0))
      level_ones κ d e f g = ring (κ ∷ d ∷ e ∷ f ∷ g ∷ []) (search quotes depth 60 fits 90000) refl

      level_times : (κ d e f g t : ℤ) → (κ *ℤ (e +ℤ f +ℤ g -ℤ d)) *ℤ t +ℤ ((κ *ℤ d) *ℤ t +ℤ pos 0) ≡ (κ *ℤ e) *ℤ t +ℤ ((κ *ℤ f) *ℤ t +ℤ ((κ *ℤ g) *ℤ t +ℤ pos 0))
      level_times κ d e f g t = ring (κ ∷ d ∷ e ∷ f ∷ g ∷ t ∷ []) (search quotes depth 60 fits 90000) refl

      place_x : (κ *ℤ S) *ℤ a.x +ℤ ((κ *ℤ D) *ℤ b.x +ℤ pos 0) ≡ (κ *ℤ D₁) *ℤ c₁.x +ℤ ((κ *ℤ D₂) *ℤ c₂.x +ℤ ((κ *ℤ D₃) *ℤ c₃.x +ℤ pos 0))
      place_x = place κ D D₁ D₂ D₃ a.x b.x c₁.x c₂.x c₃.x (combined way p₁ p₂ p₃).x

      place_y : (κ *ℤ S) *ℤ a.y +ℤ ((κ *ℤ D) *ℤ b.y +ℤ pos 0) ≡ (κ *ℤ D₁) *ℤ c₁.y +ℤ ((κ *ℤ D₂) *ℤ c₂.y +ℤ ((κ *ℤ D₃) *ℤ c₃.y +ℤ pos 0))
      place_y = place κ D D₁ D₂ D₃ a.y b.y c₁.y c₂.y c₃.y (combined way p₁ p₂ p₃).y

      place_z : (κ *ℤ S) *ℤ a.z +ℤ ((κ *ℤ D) *ℤ b.z +ℤ pos 0) ≡ (κ *ℤ D₁) *ℤ c₁.z +ℤ ((κ *ℤ D₂) *ℤ c₂.z +ℤ ((κ *ℤ D₃) *ℤ c₃.z +ℤ pos 0))
      place_z = place κ D D₁ D₂ D₃ a.z b.z c₁.z c₂.z c₃.z (combined way p₁ p₂ p₃).z

      sized : (x y z u v : ℤ) → (κ *ℤ S) *ℤ x +ℤ ((κ *ℤ D) *ℤ y +ℤ pos 0) ≡ (κ *ℤ D₁) *ℤ z +ℤ ((κ *ℤ D₂) *ℤ u +ℤ ((κ *ℤ D₃) *ℤ v +ℤ pos 0))
          → pos (nat_abs (κ *ℤ S)) *ℤ x +ℤ (pos (nat_abs (κ *ℤ D)) *ℤ y +ℤ pos 0) ≡ pos (nat_abs (κ *ℤ D₁)) *ℤ z +ℤ (pos (nat_abs (κ *ℤ D₂)) *ℤ u +ℤ (pos (nat_abs (κ *ℤ D₃)) *ℤ v +ℤ pos 0))
      sized x y z u v e = rw (size_of (κ *ℤ S) (weak (κ *ℤ S) hs), size_of (κ *ℤ D) (weak (κ *ℤ D) h), size_of (κ *ℤ D₁) (weak (κ *ℤ D₁) h₁), size_of (κ *ℤ D₂) (weak (κ *ℤ D₂) h₂), size_of (κ *ℤ D₃) (weak (κ *ℤ D₃) h₃)) e

  -- ---- where none of the five can be left out

  module _ (loose : Loose) (t : TouchIn two_ends three_corners (λ i. true)) where
    weight_up : (k : ℕ) → k < 5 → pos 0 <ℤ pos (t.w k)
    weight_up k h = go (t.w k) refl
      where
        go : (n : ℕ) → t.w k ≡ n → pos 0 <ℤ pos n
        go zero e = absurd (loose.none k h (record { w = t.w; level = t.level; some = t.some; out = λ i b o. ⊎_elim (λ q. ap t.w q ∙ e) (λ q. absurd (true≢false q)) (without_out k (λ i. true) i o) }))
        go (suc n) e = nat_lt n

    -- the corners do not lie flat, seen from an end: else weights could be moved until one of them is 0
    not_flat : D ≢ pos 0
    unfolding total
    not_flat z =
        let l = leave t 1 (omega arith) refl kernel in
        loose.none l.place l.there l.touch
      where
        f : Three p₁ p₂ p₃
        f = flat₃ p₁ p₂ p₃ z

        k : ℕ → ℤ
        k i = get_or ((f.x +ℤ f.y +ℤ f.z) ∷ pos 0 ∷ f.x ∷ f.y ∷ f.z ∷ []) i (pos 0)

        on : (x y z a b p q r : ℤ) → (x *ℤ (p -ℤ a) +ℤ y *ℤ (q -ℤ a)) +ℤ z *ℤ (r -ℤ a) ≡ pos 0 → (x +ℤ y +ℤ z) *ℤ a +ℤ (pos 0 *ℤ b +ℤ pos 0) ≡ x *ℤ p +ℤ (y *ℤ q +ℤ (z *ℤ r +ℤ pos 0))
        on x y z a b p q r h = combine (x ∷ y ∷ z ∷ a ∷ b ∷ p ∷ q ∷ r ∷ []) (times (negsuc 0) h ∷ []) (search quotes depth 60 fits 90000) refl

        evenly : (x y z t : ℤ) → (x +ℤ y +ℤ z) *ℤ t +ℤ (pos 0 *ℤ t +ℤ pos 0) ≡ x *ℤ t +ℤ (y *ℤ t +ℤ (z *ℤ t +ℤ pos 0))
        evenly x y z t = ring (x ∷ y ∷ z ∷ t ∷ []) (search quotes depth 60 fits 90000) refl

        level : Level two_ends three_corners k
        level = record {
          sums = evenly f.x f.y f.z (pos 1);
          xs = on f.x f.y f.z a.x b.x c₁.x c₂.x c₃.x (ap (λ (v : Vector). v.x) f.is);
          ys = on f.x f.y f.z a.y b.y c₁.y c₂.y c₃.y (ap (λ (v : Vector). v.y) f.is);
          zs = on f.x f.y f.z a.z b.z c₁.z c₂.z c₃.z (ap (λ (v : Vector). v.z) f.is);
          times = evenly f.x f.y f.z τ;
        }

        out : (i : ℕ) → i < 5 → without 1 (λ i. true) i ≡ false → k i ≡ pos 0
        out i b o = ⊎_elim (λ q. subst (λ (j : ℕ). k j ≡ pos 0) (sym q) refl) (λ q. absurd (true≢false q)) (without_out 1 (λ i. true) i o)

        kernel : Kernel two_ends three_corners (without 1 (λ i. true))
        kernel = some f.some
          where
            some : (f.x ≢ pos 0) ⊎ ((f.y ≢ pos 0) ⊎ (f.z ≢ pos 0)) → Kernel two_ends three_corners (without 1 (λ i. true))
            some (inl n) = record { k = k; level = level; out = out; place = 2; there = omega arith; some = n }
            some (inr (inl n)) = record { k = k; level = level; out = out; place = 3; there = omega arith; some = n }
            some (inr (inr n)) = record { k = k; level = level; out = out; place = 4; there = omega arith; some = n }

    -- the weights are in the ratio of the volumes
    abbrev w : ℕ → ℤ
    w i = pos (t.w i)

    seen_from : (a b p q r m n k l o : ℤ) → m *ℤ pos 1 +ℤ (n *ℤ pos 1 +ℤ pos 0) ≡ k *ℤ pos 1 +ℤ (l *ℤ pos 1 +ℤ (o *ℤ pos 1 +ℤ pos 0)) → m *ℤ a +ℤ (n *ℤ b +ℤ pos 0) ≡ k *ℤ p +ℤ (l *ℤ q +ℤ (o *ℤ r +ℤ pos 0))
        → n *ℤ (b -ℤ a) ≡ k *ℤ (p -ℤ a) +ℤ l *ℤ (q -ℤ a) +ℤ o *ℤ (r -ℤ a)
    seen_from a b p q r m n k l o f g = combine (a ∷ b ∷ p ∷ q ∷ r ∷ m ∷ n ∷ k ∷ l ∷ o ∷ []) (times (pos 1) g ∷ times (neg_ℤ a) f ∷ []) (search quotes depth 60 fits 90000) refl

    along_x : w 1 *ℤ way.x ≡ w 2 *ℤ p₁.x +ℤ w 3 *ℤ p₂.x +ℤ w 4 *ℤ p₃.x
    unfolding total
    along_x = seen_from a.x b.x c₁.x c₂.x c₃.x (w 0) (w 1) (w 2) (w 3) (w 4) t.level.sums t.level.xs

    along_y : w 1 *ℤ way.y ≡ w 2 *ℤ p₁.y +ℤ w 3 *ℤ p₂.y +ℤ w 4 *ℤ p₃.y
    unfolding total
    along_y = seen_from a.y b.y c₁.y c₂.y c₃.y (w 0) (w 1) (w 2) (w 3) (w 4) t.level.sums t.level.ys

    along_z : w 1 *ℤ way.z ≡ w 2 *ℤ p₁.z +ℤ w 3 *ℤ p₂.z +ℤ w 4 *ℤ p₃.z
    unfolding total
    along_z = seen_from a.z b.z c₁.z c₂.z c₃.z (w 0) (w 1) (w 2) (w 3) (w 4) t.level.sums t.level.zs

    first_ratio : w 2 *ℤ D ≡ w 1 *ℤ D₁
    first_ratio = ratio₁ way p₁ p₂ p₃ (w 1) (w 2) (w 3) (w 4) along_x along_y along_z

    second_ratio : w 3 *ℤ D ≡ w 1 *ℤ D₂
    second_ratio = ratio₂ way p₁ p₂ p₃ (w 1) (w 2) (w 3) (w 4) along_x along_y along_z

    third_ratio : w 4 *ℤ D ≡ w 1 *ℤ D₃
    third_ratio = ratio₃ way p₁ p₂ p₃ (w 1) (w 2) (w 3) (w 4) along_x along_y along_z

    start_ratio : w 0 *ℤ D ≡ w 1 *ℤ S
    unfolding total
    start_ratio = rest (w 0) (w 1) (w 2) (w 3) (w 4) D D₁ D₂ D₃ t.level.sums first_ratio second_ratio third_ratio
      where
        rest : (m n k l o d e f g : ℤ) → m *ℤ pos 1 +ℤ (n *ℤ pos 1 +ℤ pos 0) ≡ k *ℤ pos 1 +ℤ (l *ℤ pos 1 +ℤ (o *ℤ pos 1 +ℤ pos 0)) → k *ℤ d ≡ n *ℤ e → l *ℤ d ≡ n *ℤ f → o *ℤ d ≡ n *ℤ g → m *ℤ d ≡ n *ℤ (e +ℤ f +ℤ g -ℤ d)
        rest m n k l o d e f g s h i j = combine (m ∷ n ∷ k ∷ l ∷ o ∷ d ∷ e ∷ f ∷ g ∷ []) (times d s ∷ times (pos 1) h ∷ times (pos 1) i ∷ times (pos 1) j ∷ []) (search quotes depth 60 fits 90000) refl

    -- so they all have one sign
    pub record OneSigned : Type 0 where
      pub κ : ℤ
      pub whole : pos 0 <ℤ (κ *ℤ D)
      pub first : pos 0 <ℤ (κ *ℤ D₁)
      pub second : pos 0 <ℤ (κ *ℤ D₂)
      pub third : pos 0 <ℤ (κ *ℤ D₃)
      pub start : pos 0 <ℤ (κ *ℤ S)

    same_sign : (κ x y d e : ℤ) → x *ℤ d ≡ y *ℤ e → pos 0 <ℤ x → pos 0 <ℤ y → pos 0 <ℤ (κ *ℤ d) → pos 0 <ℤ (κ *ℤ e)
    same_sign κ x y d e h hx hy hd = go (le_z (κ *ℤ e) (pos 0)) (compared (κ *ℤ e) (pos 0))
      where
        turn : (κ x y d e : ℤ) → x *ℤ d ≡ y *ℤ e → x *ℤ (κ *ℤ d) ≡ y *ℤ (κ *ℤ e)
        turn κ x y d e h = combine (κ ∷ x ∷ y ∷ d ∷ e ∷ []) (times κ h ∷ []) (search quotes depth 40 fits 9000) refl

        never : (x y p q : ℤ) → x *ℤ p ≡ y *ℤ q → pos 0 <ℤ x → pos 0 <ℤ y → pos 0 <ℤ p → ¬ (q ≤ℤ pos 0)
        never x y p q e hx hy hp hq =
            let l : List ℤ = x ∷ y ∷ p ∷ q ∷ [] in
            let d1 : pos 0 ≤ℤ (p -ℤ pos 1) = le l (search quotes depth 40 fits 9000) (omega (arith, ord)) in
            let d2 : pos 0 ≤ℤ x = omega (arith, ord) in
            let d3 : pos 0 ≤ℤ y = omega (arith, ord) in
            let d4 : pos 0 ≤ℤ neg_ℤ q = le l (search quotes depth 40 fits 9000) (omega (arith, ord)) in
            let f1 = of_le l (search quotes depth 40 fits 9000) (nn_mul x (p -ℤ pos 1) d2 d1) in
            let f2 = of_le l (search quotes depth 40 fits 9000) (nn_mul y (neg_ℤ q) d3 d4) in
            let f3 = of_eq l (search quotes depth 40 fits 9000) e in
            omega (arith, ord)

        go : (c : Bool) → Compared (κ *ℤ e) (pos 0) c → pos 0 <ℤ (κ *ℤ e)
        go false (reversed g) = g
        go true (ordered g) = absurd (never x y (κ *ℤ d) (κ *ℤ e) (turn κ x y d e h) hx hy hd g)

    one_signed : OneSigned
    one_signed = go (le_z D (pos 0)) (compared D (pos 0))
      where
        up : (κ : ℤ) → pos 0 <ℤ (κ *ℤ D) → OneSigned
        up κ h = record {
          κ = κ;
          whole = h;
          first = same_sign κ (w 2) (w 1) D D₁ first_ratio (weight_up 2 (omega arith)) (weight_up 1 (omega arith)) h;
          second = same_sign κ (w 3) (w 1) D D₂ second_ratio (weight_up 3 (omega arith)) (weight_up 1 (omega arith)) h;
          third = same_sign κ (w 4) (w 1) D D₃ third_ratio (weight_up 4 (omega arith)) (weight_up 1 (omega arith)) h;
          start = same_sign κ (w 0) (w 1) D S start_ratio (weight_up 0 (omega arith)) (weight_up 1 (omega arith)) h;
        }

        plus_one : (d : ℤ) → pos 0 <ℤ d → pos 0 <ℤ (pos 1 *ℤ d)
        plus_one d h = lt (d ∷ []) (search quotes depth 40 fits 9000) (omega (arith, ord))

        minus_one : (d : ℤ) → d ≤ℤ pos 0 → d ≢ pos 0 → pos 0 <ℤ (negsuc 0 *ℤ d)
        minus_one d h n = below (le_z (pos 0) d) (compared (pos 0) d)
          where
            below : (c : Bool) → Compared (pos 0) d c → pos 0 <ℤ (negsuc 0 *ℤ d)
            below true (ordered g) = absurd (n (omega (arith, ord)))
            below false (reversed g) = lt (d ∷ []) (search quotes depth 40 fits 9000) (omega (arith, ord))

        go : (c : Bool) → Compared D (pos 0) c → OneSigned
        go false (reversed h) = up (pos 1) (plus_one D h)
        go true (ordered h) = up (negsuc 0) (minus_one D h not_flat)

-- ---- blown up and nudged

scaled : (κ A B C E n : ℤ) → κ *ℤ cubic A B C E n ≡ cubic (κ *ℤ A) (κ *ℤ B) (κ *ℤ C) (κ *ℤ E) n
scaled κ A B C E n = ring (κ ∷ A ∷ B ∷ C ∷ E ∷ n ∷ []) (search quotes depth 60 fits 90000) refl

-- a sign that stays
stays : (κ A B C E : ℤ) (f : ℤ → ℤ) → ((n : ℤ) → f n ≡ cubic A B C E n) → pos 0 <ℤ (κ *ℤ A) → FromSomeOn (λ n. pos 0 <ℤ (κ *ℤ f n))
stays κ A B C E f is h =
    let r = cubic_up (κ *ℤ A) (κ *ℤ B) (κ *ℤ C) (κ *ℤ E) h in
    record { n = r.n; from = λ m g. subst (λ z. pos 0 <ℤ z) (sym (ap (λ z. κ *ℤ z) (is (pos m)) ∙ scaled κ A B C E (pos m))) (r.from m g) }

module _ (τ : ℤ) (a b c₁ c₂ c₃ qa qb q₁ q₂ q₃ : Vector) where
  -- a volume of three differences, blown up
  blown_volume : (n : ℤ) (u v z qu qv qz : Vector) → volume (minus (blown_to n u qu) (blown_to n a qa)) (minus (blown_to n v qv) (blown_to n a qa)) (minus (blown_to n z qz) (blown_to n a qa))
      ≡ cubic (volume (minus u a) (minus v a) (minus z a)) (once n (minus u a) (minus v a) (minus z a) (minus qu qa) (minus qv qa) (minus qz qa)) (twice n (minus u a) (minus v a) (minus z a) (minus qu qa) (minus qv qa) (minus qz qa)) (volume (minus qu qa) (minus qv qa) (minus qz qa)) n
  blown_volume n u v z qu qv qz =
      (λ i. volume (blown_minus n u qu a qa i) (blown_minus n v qv a qa i) (blown_minus n z qz a qa i)) ∙ volume_blown n (minus u a) (minus v a) (minus z a) (minus qu qa) (minus qv qa) (minus qz qa)

  -- what of the cubic is beside the volume itself
  abbrev B : Vector → Vector → Vector → Vector → Vector → Vector → ℤ
  B u v z qu qv qz = once (pos 0) (minus u a) (minus v a) (minus z a) (minus qu qa) (minus qv qa) (minus qz qa)

  abbrev C : Vector → Vector → Vector → Vector → Vector → Vector → ℤ
  C u v z qu qv qz = twice (pos 0) (minus u a) (minus v a) (minus z a) (minus qu qa) (minus qv qa) (minus qz qa)

  abbrev E : Vector → Vector → Vector → ℤ
  E qu qv qz = volume (minus qu qa) (minus qv qa) (minus qz qa)

  four_cubics : (a₁ b₁ c₁ e₁ a₂ b₂ c₂ e₂ a₃ b₃ c₃ e₃ a₀ b₀ c₀ e₀ n : ℤ) → cubic a₁ b₁ c₁ e₁ n +ℤ cubic a₂ b₂ c₂ e₂ n +ℤ cubic a₃ b₃ c₃ e₃ n -ℤ cubic a₀ b₀ c₀ e₀ n
      ≡ cubic (a₁ +ℤ a₂ +ℤ a₃ -ℤ a₀) (b₁ +ℤ b₂ +ℤ b₃ -ℤ b₀) (c₁ +ℤ c₂ +ℤ c₃ -ℤ c₀) (e₁ +ℤ e₂ +ℤ e₃ -ℤ e₀) n
  four_cubics a₁ b₁ c₁ e₁ a₂ b₂ c₂ e₂ a₃ b₃ c₃ e₃ a₀ b₀ c₀ e₀ n =
      ring (a₁ ∷ b₁ ∷ c₁ ∷ e₁ ∷ a₂ ∷ b₂ ∷ c₂ ∷ e₂ ∷ a₃ ∷ b₃ ∷ c₃ ∷ e₃ ∷ a₀ ∷ b₀ ∷ c₀ ∷ e₀ ∷ n ∷ []) (search quotes depth 80 fits 200000) refl

  start_blown : (n : ℤ) → S τ (blown_to n a qa) (blown_to n b qb) (blown_to n c₁ q₁) (blown_to n c₂ q₂) (blown_to n c₃ q₃)
      ≡ cubic (S τ a b c₁ c₂ c₃) (B b c₂ c₃ qb q₂ q₃ +ℤ B c₁ b c₃ q₁ qb q₃ +ℤ B c₁ c₂ b q₁ q₂ qb -ℤ B c₁ c₂ c₃ q₁ q₂ q₃)
      (C b c₂ c₃ qb q₂ q₃ +ℤ C c₁ b c₃ q₁ qb q₃ +ℤ C c₁ c₂ b q₁ q₂ qb -ℤ C c₁ c₂ c₃ q₁ q₂ q₃) (E qb q₂ q₃ +ℤ E q₁ qb q₃ +ℤ E q₁ q₂ qb -ℤ E q₁ q₂ q₃) n
  start_blown n =
      (λ i. blown_volume n b c₂ c₃ qb q₂ q₃ i +ℤ blown_volume n c₁ b c₃ q₁ qb q₃ i +ℤ blown_volume n c₁ c₂ b q₁ q₂ qb i -ℤ blown_volume n c₁ c₂ c₃ q₁ q₂ q₃ i)
      ∙ four_cubics (volume (minus b a) (minus c₂ a) (minus c₃ a)) (B b c₂ c₃ qb q₂ q₃) (C b c₂ c₃ qb q₂ q₃) (E qb q₂ q₃)
      (volume (minus c₁ a) (minus b a) (minus c₃ a)) (B c₁ b c₃ q₁ qb q₃) (C c₁ b c₃ q₁ qb q₃) (E q₁ qb q₃)
      (volume (minus c₁ a) (minus c₂ a) (minus b a)) (B c₁ c₂ b q₁ q₂ qb) (C c₁ c₂ b q₁ q₂ qb) (E q₁ q₂ qb)
      (volume (minus c₁ a) (minus c₂ a) (minus c₃ a)) (B c₁ c₂ c₃ q₁ q₂ q₃) (C c₁ c₂ c₃ q₁ q₂ q₃) (E q₁ q₂ q₃) n

  -- through, and nothing touched: still through, from some number on
  pub proper_stays : Loose τ a b c₁ c₂ c₃ → Touch (two_ends τ a b c₁ c₂ c₃) (three_corners τ a b c₁ c₂ c₃)
      → FromSomeOn (λ n. Touch (two_ends τ (blown_to n a qa) (blown_to n b qb) (blown_to n c₁ q₁) (blown_to n c₂ q₂) (blown_to n c₃ q₃)) (three_corners τ (blown_to n a qa) (blown_to n b qb) (blown_to n c₁ q₁) (blown_to n c₂ q₂) (blown_to n c₃ q₃)))
  proper_stays loose t = record {
    n = f.n + f₁.n + f₂.n + f₃.n + fs.n;
    from = λ m h. by_volumes τ (blown_to (pos m) a qa) (blown_to (pos m) b qb) (blown_to (pos m) c₁ q₁) (blown_to (pos m) c₂ q₂) (blown_to (pos m) c₃ q₃) o.κ
        (f.from m (omega arith)) (f₁.from m (omega arith)) (f₂.from m (omega arith)) (f₃.from m (omega arith)) (fs.from m (omega arith));
  }
    where
      o : OneSigned τ a b c₁ c₂ c₃ loose (touch_in_is.0 t)
      o = one_signed τ a b c₁ c₂ c₃ loose (touch_in_is.0 t)

      f : FromSomeOn (λ n. pos 0 <ℤ (o.κ *ℤ D τ (blown_to n a qa) (blown_to n b qb) (blown_to n c₁ q₁) (blown_to n c₂ q₂) (blown_to n c₃ q₃)))
      f = stays o.κ (D τ a b c₁ c₂ c₃) (B c₁ c₂ c₃ q₁ q₂ q₃) (C c₁ c₂ c₃ q₁ q₂ q₃) (E q₁ q₂ q₃) (λ n. D τ (blown_to n a qa) (blown_to n b qb) (blown_to n c₁ q₁) (blown_to n c₂ q₂) (blown_to n c₃ q₃)) (λ n. blown_volume n c₁ c₂ c₃ q₁ q₂ q₃) o.whole

      f₁ : FromSomeOn (λ n. pos 0 <ℤ (o.κ *ℤ D₁ τ (blown_to n a qa) (blown_to n b qb) (blown_to n c₁ q₁) (blown_to n c₂ q₂) (blown_to n c₃ q₃)))
      f₁ = stays o.κ (D₁ τ a b c₁ c₂ c₃) (B b c₂ c₃ qb q₂ q₃) (C b c₂ c₃ qb q₂ q₃) (E qb q₂ q₃) (λ n. D₁ τ (blown_to n a qa) (blown_to n b qb) (blown_to n c₁ q₁) (blown_to n c₂ q₂) (blown_to n c₃ q₃)) (λ n. blown_volume n b c₂ c₃ qb q₂ q₃) o.first

      f₂ : FromSomeOn (λ n. pos 0 <ℤ (o.κ *ℤ D₂ τ (blown_to n a qa) (blown_to n b qb) (blown_to n c₁ q₁) (blown_to n c₂ q₂) (blown_to n c₃ q₃)))
      f₂ = stays o.κ (D₂ τ a b c₁ c₂ c₃) (B c₁ b c₃ q₁ qb q₃) (C c₁ b c₃ q₁ qb q₃) (E q₁ qb q₃) (λ n. D₂ τ (blown_to n a qa) (blown_to n b qb) (blown_to n c₁ q₁) (blown_to n c₂ q₂) (blown_to n c₃ q₃)) (λ n. blown_volume n c₁ b c₃ q₁ qb q₃) o.second

      f₃ : FromSomeOn (λ n. pos 0 <ℤ (o.κ *ℤ D₃ τ (blown_to n a qa) (blown_to n b qb) (blown_to n c₁ q₁) (blown_to n c₂ q₂) (blown_to n c₃ q₃)))
      f₃ = stays o.κ (D₃ τ a b c₁ c₂ c₃) (B c₁ c₂ b q₁ q₂ qb) (C c₁ c₂ b q₁ q₂ qb) (E q₁ q₂ qb) (λ n. D₃ τ (blown_to n a qa) (blown_to n b qb) (blown_to n c₁ q₁) (blown_to n c₂ q₂) (blown_to n c₃ q₃)) (λ n. blown_volume n c₁ c₂ b q₁ q₂ qb) o.third

      fs : FromSomeOn (λ n. pos 0 <ℤ (o.κ *ℤ S τ (blown_to n a qa) (blown_to n b qb) (blown_to n c₁ q₁) (blown_to n c₂ q₂) (blown_to n c₃ q₃)))
      fs = stays o.κ (S τ a b c₁ c₂ c₃) (B b c₂ c₃ qb q₂ q₃ +ℤ B c₁ b c₃ q₁ qb q₃ +ℤ B c₁ c₂ b q₁ q₂ qb -ℤ B c₁ c₂ c₃ q₁ q₂ q₃)
          (C b c₂ c₃ qb q₂ q₃ +ℤ C c₁ b c₃ q₁ qb q₃ +ℤ C c₁ c₂ b q₁ q₂ qb -ℤ C c₁ c₂ c₃ q₁ q₂ q₃) (E qb q₂ q₃ +ℤ E q₁ qb q₃ +ℤ E q₁ q₂ qb -ℤ E q₁ q₂ q₃)
          (λ n. S τ (blown_to n a qa) (blown_to n b qb) (blown_to n c₁ q₁) (blown_to n c₂ q₂) (blown_to n c₃ q₃)) start_blown o.start
