-- All numbers that balance over two simplices, where they are given by two: each point then has a vector of the plane, and a point has weight 0 in some
-- weights exactly when its vector is a border among the others.
use Rattle.std.specs.Prelude.{ℕ, zero, suc, ◌+◌, ◌-◌, ◌<◌, ◌≡◌, refl, ◌≢◌, ◌↔◌, ◌⊎◌, Bool, true, false, List, [], ◌∷◌, ℤ, pos, neg_ℤ, nat_abs, ◌+ℤ◌, ◌-ℤ◌, ◌*ℤ◌, length, ◌≤ℤ◌, ◌<ℤ◌}
use Rattle.std.proofs.Common.{arith, sym, ◌∙◌, ap, subst, inl, inr, ⊎_elim, true≢false}
use Rattle.std.proofs.Math.Decide.{dec_lt}
use Rattle.std.proofs.Math.IntN.{*ℤ-zero, neg_ℤ-neg_ℤ}
use Rattle.std.specs.Int.Signed.{le_z, ≤ℤ_refl}
use Rattle.whole.specs.Quote.{quotes, ring, combine, times}
use Rattle.whole.specs.Order.{ord, le, of_le, of_eq, nn_mul}
use Rattle.whole.specs.Signs.{factor_zero}
use Rattle.meaning.specs.Pieces.{Event}
use Rattle.meaning.specs.Equations.{one, total}
use Rattle.theory.specs.Solved.{weights_there}
use Rattle.theory.specs.Spans.{Compared, compared, ordered, reversed}
use Rattle.corner_laws.specs.Level.{Level, level_same}
use Rattle.corner_laws.specs.Left.{TouchIn, without, without_out, now_out}
use Rattle.corner_laws.specs.Flat.{zero_or}
use Rattle.clean_laws.specs.Borders.{Plane, cross, Turning, cross_turning, In, all_in, all_of, leads, trails, border, unlike, le_true, true_le}
use Rattle.clean_laws.specs.Gordan.{nat_le, size_of, no_weights}
use Rattle.clean_laws.specs.Columns.{no_square}

-- a vector of the plane, measured along another
abbrev pub along : Plane → Plane → ℤ
along f s = f.p *ℤ s.p +ℤ f.q *ℤ s.q

-- D times the numbers w are those that the vectors f have along one vector
pub record Seen (D : ℤ) (f : ℕ → Plane) (n : ℕ) (w : ℕ → ℤ) : Type 0 where
  pub from : Plane
  pub is : (i : ℕ) → i < n → D *ℤ w i ≡ along (f i) from

-- along every vector the vectors f balance, and all that balances is seen so
pub record Formed (a b : List Event) (f : ℕ → Plane) : Type 0 where
  pub D : ℤ
  pub nonzero : D ≢ pos 0
  pub given : (s : Plane) → Level a b (λ i. along (f i) s)
  pub seen : (w : ℕ → ℤ) → Level a b w → Seen D f (length a + length b) w

-- of n points some are kept: where their numbers are not negative, no number is
pub record Kept (f : ℕ → Plane) (n : ℕ) (kept : List ℕ) : Type 0 where
  pub there : (k : ℕ) → In k kept → k < n
  pub others : (s : Plane) → ((k : ℕ) → In k kept → pos 0 ≤ℤ along (f k) s) → (i : ℕ) → i < n → pos 0 ≤ℤ along (f i) s

abbrev pub turn_of : (ℕ → Plane) → ℕ → ℕ → ℤ
turn_of f i j = cross (f i) (f j)

pub turn_of_lem : (f : ℕ → Plane) → Turning (turn_of f)
turn_of_lem f = record { back = λ a b. cross_turning.back (f a) (f b); four = λ k m a w. cross_turning.four (f k) (f m) (f a) (f w) }

-- ---- on plain numbers

above_zero : (s : ℤ) → s ≢ pos 0 → pos 0 <ℤ (s *ℤ s)
above_zero s n = go (le_z (s *ℤ s) (pos 0)) (compared (s *ℤ s) (pos 0))
  where
    nought : (x : ℤ) → x ≤ℤ pos 0 → (x +ℤ pos 0) ≤ℤ pos 0
    nought x h = le (x ∷ []) (search quotes depth 40 fits 9000) (omega (arith, ord))

    go : (c : Bool) → Compared (s *ℤ s) (pos 0) c → pos 0 <ℤ (s *ℤ s)
    go true (ordered h) = absurd (n (no_square s (pos 0) (≤ℤ_refl (pos 0)) (nought (s *ℤ s) h)))
    go false (reversed h) = h

not_below_lem : (c q m w : ℤ) → c *ℤ q ≡ m *ℤ w → pos 0 <ℤ q → pos 0 ≤ℤ m → pos 0 ≤ℤ w → pos 0 ≤ℤ c
not_below_lem c q m w e h i j = go (le_z (pos 0) c) (compared (pos 0) c)
  where
    go : (x : Bool) → Compared (pos 0) c x → pos 0 ≤ℤ c
    go true (ordered y) = y
    go false (reversed y) =
        let l : List ℤ = c ∷ q ∷ m ∷ w ∷ [] in
        let d : pos 0 ≤ℤ neg_ℤ c = le l (search quotes depth 40 fits 9000) (omega (arith, ord)) in
        let d1 : pos 0 ≤ℤ (q -ℤ pos 1) = le l (search quotes depth 40 fits 9000) (omega (arith, ord)) in
        let f1 = of_le l (search quotes depth 40 fits 9000) (nn_mul (neg_ℤ c) (q -ℤ pos 1) d d1) in
        let f2 = of_le l (search quotes depth 40 fits 9000) (nn_mul m w i j) in
        let f3 = of_eq l (search quotes depth 40 fits 9000) e in
        absurd (omega (arith, ord))

-- numbers that are one number's multiples of weights have one sign
pub data OneSign (s κ : ℤ) : Type 0 where
  none_below : ((c : ℤ) (w : ℕ) → c *ℤ s ≡ κ *ℤ pos w → pos 0 ≤ℤ c) → OneSign s κ
  none_above : ((c : ℤ) (w : ℕ) → c *ℤ s ≡ κ *ℤ pos w → c ≤ℤ pos 0) → OneSign s κ

one_sign_lem : (s κ : ℤ) → s ≢ pos 0 → OneSign s κ
one_sign_lem s κ n = go (le_z (pos 0) (κ *ℤ s)) (compared (pos 0) (κ *ℤ s))
  where
    squared : (c s κ w : ℤ) → c *ℤ s ≡ κ *ℤ w → c *ℤ (s *ℤ s) ≡ (κ *ℤ s) *ℤ w
    squared c s κ w e = combine (c ∷ s ∷ κ ∷ w ∷ []) (times s e ∷ []) (search quotes depth 40 fits 9000) refl

    turned : (c s κ w : ℤ) → c *ℤ s ≡ κ *ℤ w → neg_ℤ c *ℤ (s *ℤ s) ≡ neg_ℤ (κ *ℤ s) *ℤ w
    turned c s κ w e = combine (c ∷ s ∷ κ ∷ w ∷ []) (times (neg_ℤ s) e ∷ []) (search quotes depth 40 fits 9000) refl

    down : (c : ℤ) → pos 0 ≤ℤ neg_ℤ c → c ≤ℤ pos 0
    down c h = let g = of_le (c ∷ []) (search quotes depth 40 fits 9000) h in omega (arith, ord)

    up : (c : ℤ) → c <ℤ pos 0 → pos 0 ≤ℤ neg_ℤ c
    up c h = le (c ∷ []) (search quotes depth 40 fits 9000) (omega (arith, ord))

    go : (x : Bool) → Compared (pos 0) (κ *ℤ s) x → OneSign s κ
    go true (ordered h) = none_below (λ c w e. not_below_lem c (s *ℤ s) (κ *ℤ s) (pos w) (squared c s κ (pos w) e) (above_zero s n) h (nat_le w))
    go false (reversed h) = none_above (λ c w e. down c (not_below_lem (neg_ℤ c) (s *ℤ s) (neg_ℤ (κ *ℤ s)) (pos w) (turned c s κ (pos w) e) (above_zero s n) (up (κ *ℤ s) h) (nat_le w)))

-- a weight is at most the sum of the weights
weigh_in : (w : ℕ → ℕ) (l : List Event) (i : ℕ) → i < length l → pos (w i) ≤ℤ total one (λ n. pos (w n)) l
unfolding total
weigh_in w [] i h = absurd (omega arith)
weigh_in w (e ∷ l) zero h = first (pos (w 0)) (total one (λ n. pos (w (suc n))) l) (not_negative (λ n. w (suc n)) l)
  where
    first : (x t : ℤ) → pos 0 ≤ℤ t → x ≤ℤ (x *ℤ pos 1 +ℤ t)
    first x t h = le (x ∷ t ∷ []) (search quotes depth 40 fits 9000) (omega (arith, ord))

    not_negative : (w : ℕ → ℕ) (l : List Event) → pos 0 ≤ℤ total one (λ n. pos (w n)) l
    not_negative w [] = ≤ℤ_refl (pos 0)
    not_negative w (e ∷ l) = sum (pos (w 0)) (total one (λ n. pos (w (suc n))) l) (nat_le (w 0)) (not_negative (λ n. w (suc n)) l)
      where
        sum : (x t : ℤ) → pos 0 ≤ℤ x → pos 0 ≤ℤ t → pos 0 ≤ℤ (x *ℤ pos 1 +ℤ t)
        sum x t h k = le (x ∷ t ∷ []) (search quotes depth 40 fits 9000) (omega (arith, ord))
weigh_in w (e ∷ l) (suc i) h = rest (pos (w 0)) (pos (w (suc i))) (total one (λ n. pos (w (suc n))) l) (nat_le (w 0)) (weigh_in (λ n. w (suc n)) l i (omega arith))
  where
    rest : (x y t : ℤ) → pos 0 ≤ℤ x → y ≤ℤ t → y ≤ℤ (x *ℤ pos 1 +ℤ t)
    rest x y t h k = le (x ∷ y ∷ t ∷ []) (search quotes depth 40 fits 9000) (omega (arith, ord))

-- where some weight of either simplex is above 0, both sums are
some_weight : (a b : List Event) (w : ℕ → ℕ) → Level a b (λ i. pos (w i)) → (m : ℕ) → m < length a + length b → pos 0 <ℤ pos (w m) → pos 0 <ℤ total one (λ i. pos (w i)) a
some_weight a b w v m h k = go (dec_lt m (length a))
  where
    chain : (x t : ℤ) → pos 0 <ℤ x → x ≤ℤ t → pos 0 <ℤ t
    chain x t h k = omega (arith, ord)

    go : Dec (m < length a) → pos 0 <ℤ total one (λ i. pos (w i)) a
    go (yes l) = chain (pos (w m)) _ k (weigh_in w a m l)
    go (no l) =
        let i : length a + (m - length a) ≡ m = omega arith in
        subst (λ z. pos 0 <ℤ z) (sym v.sums)
        (chain (pos (w m)) (total one (λ n. pos (w (length a + n))) b) k
        (subst (λ (j : ℕ). pos (w j) ≤ℤ total one (λ n. pos (w (length a + n))) b) i (weigh_in (λ n. w (length a + n)) b (m - length a) (omega arith))))

-- ---- a facet is touched exactly where its point is a border

module _ {a b : List Event} {f : ℕ → Plane} (form : Formed a b f) {kept : List ℕ} (keeps : Kept f (length a + length b) kept) (k : ℕ) (ik : In k kept) where
  -- weights with 0 for point k
  abbrev pub Facet : Type 0
  Facet = TouchIn a b (without k (λ i. true))

  -- from a vector along which k is level, none of those kept goes down and one goes up
  from_level : (s : Plane) → along (f k) s ≡ pos 0 → ((j : ℕ) → In j kept → pos 0 ≤ℤ along (f j) s) → (m : ℕ) → In m kept → pos 0 <ℤ along (f m) s → Facet
  from_level s level up m im rises = record {
    w = w;
    level = balanced;
    some = some_weight a b w balanced m (keeps.there m im) (subst (λ z. pos 0 <ℤ z) (sym (size m (keeps.there m im))) rises);
    out = λ i below e. ⊎_elim (λ q. subst (λ (j : ℕ). w j ≡ 0) (sym q) (ap nat_abs level)) (λ e. absurd (never e)) (without_out k (λ i. true) i e);
  }
    where
      never : true ≡ false → ⊥
      never e = true≢false e

      w : ℕ → ℕ
      w i = nat_abs (along (f i) s)

      size : (i : ℕ) → i < length a + length b → pos (w i) ≡ along (f i) s
      size i below = size_of (along (f i) s) (keeps.others s up i below)

      balanced : Level a b (λ i. pos (w i))
      balanced = level_same (λ i. pos (w i)) size (form.given s)

  module _ (m : ℕ) (im : In m kept) (apart : turn_of f k m ≢ pos 0) where
    abbrev ahead : Plane
    ahead = record { p = neg_ℤ (f k).q; q = (f k).p }

    abbrev aback : Plane
    aback = record { p = (f k).q; q = neg_ℤ (f k).p }

    along_ahead : (g : Plane) → along g (record { p = neg_ℤ (f k).q; q = (f k).p }) ≡ cross (f k) g
    along_ahead g = ring ((f k).p ∷ (f k).q ∷ g.p ∷ g.q ∷ []) (search quotes depth 40 fits 9000) refl

    along_aback : (g : Plane) → along g (record { p = (f k).q; q = neg_ℤ (f k).p }) ≡ neg_ℤ (cross (f k) g)
    along_aback g = ring ((f k).p ∷ (f k).q ∷ g.p ∷ g.q ∷ []) (search quotes depth 40 fits 9000) refl

    itself : (g : Plane) → cross g g ≡ pos 0
    itself g = ring (g.p ∷ g.q ∷ []) (search quotes depth 40 fits 9000) refl

    strictly : (x : ℤ) → pos 0 ≤ℤ x → x ≢ pos 0 → pos 0 <ℤ x
    strictly x h n = go (le_z x (pos 0)) (compared x (pos 0))
      where
        go : (c : Bool) → Compared x (pos 0) c → pos 0 <ℤ x
        go true (ordered y) = absurd (n (omega (arith, ord)))
        go false (reversed y) = y

    minus_up : (x : ℤ) → x ≤ℤ pos 0 → pos 0 ≤ℤ neg_ℤ x
    minus_up x h = le (x ∷ []) (search quotes depth 40 fits 9000) (omega (arith, ord))

    leads_facet : leads (turn_of f) kept k ≡ true → Facet
    leads_facet e = from_level ahead (along_ahead (f k) ∙ itself (f k)) up m im (strictly (along (f m) ahead) (up m im) (λ z. apart (sym (along_ahead (f m)) ∙ z)))
      where
        up : (j : ℕ) → In j kept → pos 0 ≤ℤ along (f j) ahead
        up j i = subst (λ z. pos 0 ≤ℤ z) (sym (along_ahead (f j))) (le_true (pos 0) (turn_of f k j) (all_in (λ w. le_z (pos 0) (turn_of f k w)) kept e i))

    trails_facet : trails (turn_of f) kept k ≡ true → Facet
    trails_facet e =
        from_level aback (along_aback (f k) ∙ ap neg_ℤ (itself (f k))) up m im
        (strictly (along (f m) aback) (up m im) (λ z. apart (sym (neg_ℤ-neg_ℤ (turn_of f k m)) ∙ ap neg_ℤ (sym (along_aback (f m)) ∙ z))))
      where
        up : (j : ℕ) → In j kept → pos 0 ≤ℤ along (f j) aback
        up j i = subst (λ z. pos 0 ≤ℤ z) (sym (along_aback (f j))) (minus_up (turn_of f k j) (le_true (turn_of f k j) (pos 0) (all_in (λ w. le_z (turn_of f k w) (pos 0)) kept e i)))

    -- ---- and back

    module _ (t : Facet) where
      abbrev seen : Seen form.D f (length a + length b) (λ i. pos (t.w i))
      seen = form.seen (λ i. pos (t.w i)) t.level

      abbrev s : ℤ
      s = seen.from.p

      abbrev r : ℤ
      r = seen.from.q

      level : along (f k) seen.from ≡ pos 0
      level =
          sym (seen.is k (keeps.there k ik))
          ∙ ap (λ (n : ℕ). form.D *ℤ pos n) (t.out k (keeps.there k ik) (now_out k (λ i. true))) ∙ *ℤ-zero form.D

      some_way : (s ≢ pos 0) ⊎ (r ≢ pos 0)
      some_way = ⊎_elim (λ e. ⊎_elim (λ g. absurd (never e g)) inr (zero_or r)) inl (zero_or s)
        where
          flat : (x y u v : ℤ) → u ≡ pos 0 → v ≡ pos 0 → x *ℤ u +ℤ y *ℤ v ≡ pos 0
          flat x y u v e g = combine (x ∷ y ∷ u ∷ v ∷ []) (times x e ∷ times y g ∷ []) (search quotes depth 40 fits 9000) refl

          never : s ≡ pos 0 → r ≡ pos 0 → ⊥
          never e g = nothing t.some
            where
              all_none : (i : ℕ) → i < length a → pos (t.w i) ≡ pos 0
              all_none i h = factor_zero form.D (pos (t.w i)) (seen.is i (omega arith) ∙ flat (f i).p (f i).q s r e g) form.nonzero

              nothing : ¬ (pos 0 <ℤ total one (λ i. pos (t.w i)) a)
              nothing h =
                  let z : total one (λ i. pos (t.w i)) a ≡ pos 0 = weights_there one (λ i. pos (t.w i)) (λ i. pos 0) a all_none ∙ no_weights one a in
                  omega (arith, ord)

      -- each turn from k, stretched, is a multiple of the weight
      by_s : (i : ℕ) → i < length a + length b → turn_of f k i *ℤ s ≡ neg_ℤ (f k).q *ℤ form.D *ℤ pos (t.w i)
      by_s i h = stretch (f k).p (f k).q (f i).p (f i).q s r form.D (pos (t.w i)) level (seen.is i h)
        where
          stretch : (p q p' q' m n D w : ℤ) → p *ℤ m +ℤ q *ℤ n ≡ pos 0 → D *ℤ w ≡ p' *ℤ m +ℤ q' *ℤ n → (p *ℤ q' -ℤ q *ℤ p') *ℤ m ≡ neg_ℤ q *ℤ D *ℤ w
          stretch p q p' q' m n D w e g = combine (p ∷ q ∷ p' ∷ q' ∷ m ∷ n ∷ D ∷ w ∷ []) (times q' e ∷ times q g ∷ []) (search quotes depth 60 fits 90000) refl

      by_r : (i : ℕ) → i < length a + length b → turn_of f k i *ℤ r ≡ (f k).p *ℤ form.D *ℤ pos (t.w i)
      by_r i h = stretch (f k).p (f k).q (f i).p (f i).q s r form.D (pos (t.w i)) level (seen.is i h)
        where
          stretch : (p q p' q' m n D w : ℤ) → p *ℤ m +ℤ q *ℤ n ≡ pos 0 → D *ℤ w ≡ p' *ℤ m +ℤ q' *ℤ n → (p *ℤ q' -ℤ q *ℤ p') *ℤ n ≡ p *ℤ D *ℤ w
          stretch p q p' q' m n D w e g = combine (p ∷ q ∷ p' ∷ q' ∷ m ∷ n ∷ D ∷ w ∷ []) (times (neg_ℤ p') e ∷ times (neg_ℤ p) g ∷ []) (search quotes depth 60 fits 90000) refl

      one_way_lem : (x κ : ℤ) → OneSign x κ → ((i : ℕ) → i < length a + length b → turn_of f k i *ℤ x ≡ κ *ℤ pos (t.w i)) → (leads (turn_of f) kept k ≡ true) ⊎ (trails (turn_of f) kept k ≡ true)
      one_way_lem x κ (none_below h) e = inl (all_of (λ w. le_z (pos 0) (turn_of f k w)) kept (λ i j. true_le (pos 0) (turn_of f k i) (h (turn_of f k i) (t.w i) (e i (keeps.there i j)))))
      one_way_lem x κ (none_above h) e = inr (all_of (λ w. le_z (turn_of f k w) (pos 0)) kept (λ i j. true_le (turn_of f k i) (pos 0) (h (turn_of f k i) (t.w i) (e i (keeps.there i j)))))

      leads_or_trails : (leads (turn_of f) kept k ≡ true) ⊎ (trails (turn_of f) kept k ≡ true)
      leads_or_trails =
          ⊎_elim (λ n. one_way_lem s (neg_ℤ (f k).q *ℤ form.D) (one_sign_lem s (neg_ℤ (f k).q *ℤ form.D) n) by_s)
          (λ n. one_way_lem r ((f k).p *ℤ form.D) (one_sign_lem r ((f k).p *ℤ form.D) n) by_r) some_way

    never_both : leads (turn_of f) kept k ≡ true → trails (turn_of f) kept k ≡ true → ⊥
    never_both e g =
        let up : pos 0 ≤ℤ turn_of f k m = le_true (pos 0) (turn_of f k m) (all_in (λ w. le_z (pos 0) (turn_of f k w)) kept e im) in
        let down : turn_of f k m ≤ℤ pos 0 = le_true (turn_of f k m) (pos 0) (all_in (λ w. le_z (turn_of f k w) (pos 0)) kept g im) in
        apart (between (turn_of f k m) up down)
      where
        between : (x : ℤ) → pos 0 ≤ℤ x → x ≤ℤ pos 0 → x ≡ pos 0
        between x h i = omega (arith, ord)

    pub facet_border : Facet ↔ (border (turn_of f) kept k ≡ true)
    facet_border = (λ t. there (leads (turn_of f) kept k) (trails (turn_of f) kept k) refl refl (leads_or_trails t), λ e. back (leads (turn_of f) kept k) (trails (turn_of f) kept k) refl refl e)
      where
        there : (x y : Bool) → leads (turn_of f) kept k ≡ x → trails (turn_of f) kept k ≡ y → (x ≡ true) ⊎ (y ≡ true) → unlike x y ≡ true
        there true true e g h = absurd (never_both e g)
        there true false e g h = refl
        there false true e g h = refl
        there false false e g (inl h) = h
        there false false e g (inr h) = h

        back : (x y : Bool) → leads (turn_of f) kept k ≡ x → trails (turn_of f) kept k ≡ y → unlike x y ≡ true → Facet
        back true true e g h = absurd (never_both e g)
        back true false e g h = leads_facet e
        back false true e g h = trails_facet g
        back false false e g h = absurd (true≢false (sym h))
