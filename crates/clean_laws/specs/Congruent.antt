-- What is blown up by n and then nudged is congruent by n to the nudges alone; so where the nudges are in general position, it is, from some n on.
use Rattle.std.specs.Prelude.{ℕ, zero, suc, ◌+◌, ◌*◌, ◌≤◌, ◌<◌, ◌≡◌, refl, ◌≢◌, Bool, true, false, ◌&&◌, List, [], ◌∷◌, ltb, ℤ, pos, negsuc, neg_ℤ, nat_abs, ◌+ℤ◌, ◌-ℤ◌, ◌*ℤ◌}
use Rattle.std.proofs.Common.{le-mul_of_pos_right, arith, sym, ◌∙◌, ap, true≢false, ltb-true}
use Rattle.whole.specs.Vector.{Vector, plus, scale, volume}
use Rattle.whole.specs.Quote.{quotes, ring, combine, times}
use Rattle.whole.specs.Signs.{nat_abs_neg, nat_abs_mul, nat_abs_positive}
use Rattle.meaning.specs.Pieces.{Event}
use Rattle.theory.specs.Differences.{difference}
use Rattle.clean_laws.specs.Borders.{Plane, cross, NoTwo, all, all_in, every_of}
use Rattle.clean_laws.specs.Facets.{turn_of}
use Rattle.clean_laws.specs.Cells.{start_left, end_left, common, forms}
use Rattle.clean_laws.specs.SixCells.{InGeneral}
use Rattle.clean_laws.specs.Columns.{Nudged, blown}

-- ---- numbers

pub record Cong (n x y : ℤ) : Type 0 where
  pub k : ℤ
  pub is : x ≡ y +ℤ n *ℤ k

module _ (n : ℤ) where
  pub same : (x : ℤ) → Cong n x x
  same x = record { k = pos 0; is = ring (n ∷ x ∷ []) (search quotes depth 40 fits 9000) refl }

  module _ (x y x' y' : ℤ) (c : Cong n x x') (d : Cong n y y') where
    abbrev letters : List ℤ
    letters = n ∷ x ∷ y ∷ x' ∷ y' ∷ c.k ∷ d.k ∷ []

    pub sum : Cong n (x +ℤ y) (x' +ℤ y')
    sum = record { k = c.k +ℤ d.k; is = combine letters (times (pos 1) c.is ∷ times (pos 1) d.is ∷ []) (search quotes depth 40 fits 9000) refl }

    pub less : Cong n (x -ℤ y) (x' -ℤ y')
    less = record { k = c.k -ℤ d.k; is = combine letters (times (pos 1) c.is ∷ times (negsuc 0) d.is ∷ []) (search quotes depth 40 fits 9000) refl }

    pub product : Cong n (x *ℤ y) (x' *ℤ y')
    product = record {
      k = c.k *ℤ y +ℤ x' *ℤ d.k;
      is = combine letters (times y c.is ∷ times x' d.is ∷ []) (search quotes depth 60 fits 90000) refl;
    }

  pub minus_of : (x x' : ℤ) → Cong n x x' → Cong n (neg_ℤ x) (neg_ℤ x')
  minus_of x x' c = record { k = neg_ℤ c.k; is = combine (n ∷ x ∷ x' ∷ c.k ∷ []) (times (negsuc 0) c.is ∷ []) (search quotes depth 40 fits 9000) refl }

-- a number that is not 0 and smaller in size than n is congruent to no 0
pub not_none : (n : ℕ) (x y : ℤ) → Cong (pos n) x y → y ≢ pos 0 → nat_abs y < n → x ≢ pos 0
not_none n x y c nonzero small e = too_large (nat_abs c.k) (nat_abs_positive c.k some) sizes
  where
    back : (x y n k : ℤ) → x ≡ y +ℤ n *ℤ k → x ≡ pos 0 → y ≡ neg_ℤ (n *ℤ k)
    back x y n k h e = combine (x ∷ y ∷ n ∷ k ∷ []) (times (negsuc 0) h ∷ times (pos 1) e ∷ []) (search quotes depth 40 fits 9000) refl

    is : y ≡ neg_ℤ (pos n *ℤ c.k)
    is = back x y (pos n) c.k c.is e

    some : c.k ≢ pos 0
    some f = nonzero (is ∙ ap (λ k. neg_ℤ (pos n *ℤ k)) f ∙ nought (pos n))
      where
        nought : (m : ℤ) → neg_ℤ (m *ℤ pos 0) ≡ pos 0
        nought m = ring (m ∷ []) (search quotes depth 40 fits 9000) refl

    sizes : nat_abs y ≡ n * nat_abs c.k
    sizes = ap nat_abs is ∙ nat_abs_neg (pos n *ℤ c.k) ∙ nat_abs_mul (pos n) c.k

    too_large : (k : ℕ) → 0 < k → nat_abs y ≡ n * k → ⊥
    too_large k h g = let r = le-mul_of_pos_right n h in omega arith

-- ---- vectors

pub record CongV (n : ℤ) (u v : Vector) : Type 0 where
  pub x : Cong n u.x v.x
  pub y : Cong n u.y v.y
  pub z : Cong n u.z v.z

pub volume_cong : (n : ℤ) (a b c a' b' c' : Vector) → CongV n a a' → CongV n b b' → CongV n c c' → Cong n (volume a b c) (volume a' b' c')
unfolding volume
volume_cong n a b c a' b' c' p q r =
    sum n _ _ _ _ (less n _ _ _ _ (product n _ _ _ _ p.x (less n _ _ _ _ (product n _ _ _ _ q.y r.z) (product n _ _ _ _ q.z r.y)))
    (product n _ _ _ _ p.y (less n _ _ _ _ (product n _ _ _ _ q.x r.z) (product n _ _ _ _ q.z r.x))))
    (product n _ _ _ _ p.z (less n _ _ _ _ (product n _ _ _ _ q.x r.y) (product n _ _ _ _ q.y r.x)))

-- ---- the vectors of a cell

-- the nudge alone
abbrev pub nudge : Nudged → Event
nudge e = record { place = e.by; time = e.event.time }

abbrev pub blown_to : ℤ → Vector → Vector → Vector
blown_to n a q = plus (scale n a) q

pub difference_cong : (n : ℤ) (a q b r : Vector) (e : Nudged) → CongV n (difference (blown_to n a q) (blown_to n b r) (blown n e)) (difference q r (nudge e))
difference_cong n a q b r e = record {
  x = on a.x q.x b.x r.x e.event.place.x e.by.x e.event.time;
  y = on a.y q.y b.y r.y e.event.place.y e.by.y e.event.time;
  z = on a.z q.z b.z r.z e.event.place.z e.by.z e.event.time;
}
  where
    on : (a q b r p s t : ℤ) → Cong n ((n *ℤ p +ℤ s) -ℤ ((pos 1 -ℤ t) *ℤ (n *ℤ a +ℤ q) +ℤ t *ℤ (n *ℤ b +ℤ r))) (s -ℤ ((pos 1 -ℤ t) *ℤ q +ℤ t *ℤ r))
    on a q b r p s t = record { k = p -ℤ ((pos 1 -ℤ t) *ℤ a +ℤ t *ℤ b); is = ring (n ∷ a ∷ q ∷ b ∷ r ∷ p ∷ s ∷ t ∷ []) (search quotes depth 60 fits 90000) refl }

pub record CongP (n : ℤ) (f g : Plane) : Type 0 where
  pub p : Cong n f.p g.p
  pub q : Cong n f.q g.q

pub cross_cong : (n : ℤ) (f g f' g' : Plane) → CongP n f f' → CongP n g g' → Cong n (cross f g) (cross f' g')
cross_cong n f g f' g' c d =
    less n (f.p *ℤ g.q) (f.q *ℤ g.p) (f'.p *ℤ g'.q) (f'.q *ℤ g'.p) (product n f.p g.q f'.p g'.q c.p d.q) (product n f.q g.p f'.q g'.p c.q d.p)

module _ (n t0 t1 t2 t3 t4 n0 n1 n2 n3 n4 m0 m1 m2 m3 m4 : ℤ) (h0 : Cong n n0 m0) (h1 : Cong n n1 m1) (h2 : Cong n n2 m2) (h3 : Cong n n3 m3) (h4 : Cong n n4 m4) where
  times_cong : (t x y : ℤ) → Cong n x y → Cong n (t *ℤ x) (t *ℤ y)
  times_cong t x y h = product n t x t y (same n t) h

  end_cong : Cong n (end_left t0 t1 t2 t3 t4 n0 n1 n2 n3 n4) (end_left t0 t1 t2 t3 t4 m0 m1 m2 m3 m4)
  end_cong =
      less n _ _ _ _ (sum n _ _ _ _ (sum n _ _ _ _ (sum n _ _ _ _ (times_cong t1 n1 m1 h1) (times_cong t2 n2 m2 h2)) (times_cong t3 n3 m3 h3)) (times_cong t4 n4 m4 h4))
      (times_cong t0 n0 m0 h0)

  start_cong : Cong n (start_left t0 t1 t2 t3 t4 n0 n1 n2 n3 n4) (start_left t0 t1 t2 t3 t4 m0 m1 m2 m3 m4)
  start_cong =
      less n _ _ _ _
      (sum n _ _ _ _ (sum n _ _ _ _ (sum n _ _ _ _ (times_cong (pos 1 -ℤ t1) n1 m1 h1) (times_cong (pos 1 -ℤ t2) n2 m2 h2)) (times_cong (pos 1 -ℤ t3) n3 m3 h3)) (times_cong (pos 1 -ℤ t4) n4 m4 h4))
      (times_cong (pos 1 -ℤ t0) n0 m0 h0)

-- numbers that are not 0 and below B in size
abbrev pub small_number : ℕ → ℤ → Bool
small_number B z = ltb 0 (nat_abs z) && ltb (nat_abs z) B

pub small_is : (B : ℕ) (z : ℤ) → small_number B z ≡ true → (z ≢ pos 0) × (nat_abs z < B)
small_is B z h = go (ltb 0 (nat_abs z)) (ltb (nat_abs z) B) refl refl h
  where
    go : (x y : Bool) → ltb 0 (nat_abs z) ≡ x → ltb (nat_abs z) B ≡ y → x && y ≡ true → (z ≢ pos 0) × (nat_abs z < B)
    go true true e f g = (λ k. let l = ltb-true 0 (nat_abs z) e in let m = ap nat_abs k in omega arith, ltb-true (nat_abs z) B f)
    go true false e f g = absurd (true≢false (sym g))
    go false y e f g = absurd (true≢false (sym g))

unfoldable pub no_two_small : ℕ → (ℕ → ℕ → ℤ) → List ℕ → Bool
no_two_small B turn [] = true
no_two_small B turn (a ∷ l) = all (λ b. small_number B (turn a b)) l && no_two_small B turn l

pub no_two_cong : (n B : ℕ) → B ≤ n → (turn other : ℕ → ℕ → ℤ) → ((i j : ℕ) → Cong (pos n) (turn i j) (other i j)) → (l : List ℕ) → no_two_small B other l ≡ true → NoTwo turn l
unfolding no_two_small
no_two_cong n B most turn other c [] h = tt
no_two_cong n B most turn other c (a ∷ l) h =
    let (first, rest) = split (all (λ b. small_number B (other a b)) l) (no_two_small B other l) h in (
      every_of (λ b. turn a b ≢ pos 0) l
          (λ b i. let s = small_is B (other a b) (all_in (λ b. small_number B (other a b)) l first i) in not_none n (turn a b) (other a b) (c a b) s.0 (omega (arith, s.1))),
      no_two_cong n B most turn other c l rest,
    )
  where
    split : (x y : Bool) → x && y ≡ true → (x ≡ true) × (y ≡ true)
    split true y e = (refl, e)
    split false y e = absurd (true≢false (sym e))

-- the vectors of a cell that is blown up are congruent to those of its nudges
module _ (n : ℤ) (a q b r : Vector) (e0 e1 e2 e3 e4 : Nudged) where
  abbrev big : ℕ → Plane
  big = forms (blown_to n a q) (blown_to n b r) (blown n e0) (blown n e1) (blown n e2) (blown n e3) (blown n e4)

  abbrev small : ℕ → Plane
  small = forms q r (nudge e0) (nudge e1) (nudge e2) (nudge e3) (nudge e4)

  d : (e : Nudged) → CongV n (difference (blown_to n a q) (blown_to n b r) (blown n e)) (difference q r (nudge e))
  d e = difference_cong n a q b r e

  v : (e f g : Nudged) → Cong n (volume (difference (blown_to n a q) (blown_to n b r) (blown n e)) (difference (blown_to n a q) (blown_to n b r) (blown n f)) (difference (blown_to n a q) (blown_to n b r) (blown n g)))
      (volume (difference q r (nudge e)) (difference q r (nudge f)) (difference q r (nudge g)))
  v e f g = volume_cong n _ _ _ _ _ _ (d e) (d f) (d g)

  pub factor_cong : Cong n (common (blown_to n a q) (blown_to n b r) (blown n e0) (blown n e1) (blown n e2) (blown n e3) (blown n e4)) (common q r (nudge e0) (nudge e1) (nudge e2) (nudge e3) (nudge e4))
  factor_cong = v e2 e3 e4

  c0 : CongP n (big 1) (small 1)
  c0 = record { p = v e2 e3 e4; q = same n (pos 0) }

  c1 : CongP n (big 3) (small 3)
  c1 = record { p = same n (pos 0); q = v e2 e3 e4 }

  c2 : CongP n (big 4) (small 4)
  c2 = record { p = v e0 e3 e4; q = minus_of n _ _ (v e1 e3 e4) }

  c3 : CongP n (big 5) (small 5)
  c3 = record { p = v e2 e0 e4; q = minus_of n _ _ (v e2 e1 e4) }

  c4 : CongP n (big 6) (small 6)
  c4 = record { p = v e2 e3 e0; q = minus_of n _ _ (v e2 e3 e1) }

  pub forms_cong : (i : ℕ) → CongP n (big i) (small i)
  forms_cong zero = record {
    p = start_cong n e0.event.time e1.event.time e2.event.time e3.event.time e4.event.time (big 1).p (big 3).p (big 4).p (big 5).p (big 6).p (small 1).p (small 3).p (small 4).p (small 5).p (small 6).p
        c0.p c1.p c2.p c3.p c4.p;
    q = start_cong n e0.event.time e1.event.time e2.event.time e3.event.time e4.event.time (big 1).q (big 3).q (big 4).q (big 5).q (big 6).q (small 1).q (small 3).q (small 4).q (small 5).q (small 6).q
        c0.q c1.q c2.q c3.q c4.q;
  }
  forms_cong (suc zero) = c0
  forms_cong (suc (suc zero)) = record {
    p = end_cong n e0.event.time e1.event.time e2.event.time e3.event.time e4.event.time (big 1).p (big 3).p (big 4).p (big 5).p (big 6).p (small 1).p (small 3).p (small 4).p (small 5).p (small 6).p
        c0.p c1.p c2.p c3.p c4.p;
    q = end_cong n e0.event.time e1.event.time e2.event.time e3.event.time e4.event.time (big 1).q (big 3).q (big 4).q (big 5).q (big 6).q (small 1).q (small 3).q (small 4).q (small 5).q (small 6).q
        c0.q c1.q c2.q c3.q c4.q;
  }
  forms_cong (suc (suc (suc zero))) = c1
  forms_cong (suc (suc (suc (suc zero)))) = c2
  forms_cong (suc (suc (suc (suc (suc zero))))) = c3
  forms_cong (suc (suc (suc (suc (suc (suc zero)))))) = c4
  forms_cong (suc (suc (suc (suc (suc (suc (suc i))))))) = c0

-- so a cell is in general position where its nudges are, by numbers that are not above n
pub general_cong : (n B : ℕ) → B ≤ n → (a q b r : Vector) (e0 e1 e2 e3 e4 : Nudged) (kept : List ℕ)
    → small_number B (common q r (nudge e0) (nudge e1) (nudge e2) (nudge e3) (nudge e4)) ≡ true
    → no_two_small B (turn_of (forms q r (nudge e0) (nudge e1) (nudge e2) (nudge e3) (nudge e4))) kept ≡ true
    → InGeneral (blown_to (pos n) a q) (blown_to (pos n) b r) (blown (pos n) e0) (blown (pos n) e1) (blown (pos n) e2) (blown (pos n) e3) (blown (pos n) e4) kept
general_cong n B most a q b r e0 e1 e2 e3 e4 kept h k = record {
  factor = let s = small_is B _ h in not_none n _ _ (factor_cong (pos n) a q b r e0 e1 e2 e3 e4) s.0 (omega (arith, s.1));
  no_two = no_two_cong n B most _ _ (λ i j. cross_cong (pos n) _ _ _ _ (forms_cong (pos n) a q b r e0 e1 e2 e3 e4 i) (forms_cong (pos n) a q b r e0 e1 e2 e3 e4 j)) kept k;
}
