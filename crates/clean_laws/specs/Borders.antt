-- Vectors of a plane, of which no two lie on one line: a vector leads where none of them lies to its right, and trails where none lies to its
-- left. At most one leads and at most one trails, and where one leads, one trails, the last on the way round from it. So the borders, those that
-- lead and those that trail, are even in number. Of the vectors only their turns are used.
use Rattle.std.specs.Prelude.{◌≡◌, ◌≢◌, ◌⊎◌, Bool, ◌||◌, T, ℤ, pos, neg_ℤ, ◌+ℤ◌, ◌-ℤ◌, ◌*ℤ◌, ◌≤ℤ◌, ◌<ℤ◌}
use Rattle.std.proofs.Math.Path.{refl, sym, ap, ap₂, fun_ext}
use Rattle.std.proofs.Common.{◌∙◌, subst, inl, inr, true≢false, arith}
use Rattle.std.proofs.Math.Bool.{true, false, not, ◌&&◌, not-not}
use mathlib.Core.List.{List, [], ◌∷◌}
use Rattle.std.proofs.Math.IntN.{neg_ℤ-neg_ℤ}
use Rattle.std.specs.Int.Signed.{le_z, le_z_yes}
use Rattle.whole.specs.Quote.{quotes, ring}
use Rattle.whole.specs.Order.{ord, le, of_le, of_eq, nn_mul}
use Rattle.theory.specs.Bounds.{Every, every_imp}
use Rattle.theory.specs.Spans.{Compared, compared, ordered, reversed}

-- ---- turns

-- how far it is round from one to another: back it is as far the other way, and of four the turns have one equation
pub record Turning {A : Type 0} (turn : A → A → ℤ) : Type 0 where
  pub back : (a b : A) → turn b a ≡ neg_ℤ (turn a b)
  pub four : (k m a w : A) → turn a w *ℤ turn k m ≡ turn k a *ℤ turn m w +ℤ turn a m *ℤ turn k w

-- a vector of the plane, and the turn from one to another
pub record Plane : Type 0 where
  pub p : ℤ
  pub q : ℤ

abbrev pub cross : Plane → Plane → ℤ
cross a b = a.p *ℤ b.q -ℤ a.q *ℤ b.p

pub cross_turning : Turning cross
cross_turning = record {
  back = λ a b. back a.p a.q b.p b.q;
  four = λ k m a w. four k.p k.q m.p m.q a.p a.q w.p w.q;
}
  where
    back : (a b c d : ℤ) → c *ℤ b -ℤ d *ℤ a ≡ neg_ℤ (a *ℤ d -ℤ b *ℤ c)
    back a b c d = ring (a ∷ b ∷ c ∷ d ∷ []) (search quotes depth 40 fits 9000) refl

    four : (k k' m m' a a' w w' : ℤ) → (a *ℤ w' -ℤ a' *ℤ w) *ℤ (k *ℤ m' -ℤ k' *ℤ m) ≡ (k *ℤ a' -ℤ k' *ℤ a) *ℤ (m *ℤ w' -ℤ m' *ℤ w) +ℤ (a *ℤ m' -ℤ a' *ℤ m) *ℤ (k *ℤ w' -ℤ k' *ℤ w)
    four k k' m m' a a' w w' = ring (k ∷ k' ∷ m ∷ m' ∷ a ∷ a' ∷ w ∷ w' ∷ []) (search quotes depth 60 fits 90000) refl

-- seen from behind, every turn goes the other way
pub seen_from_behind : {A : Type 0} {turn : A → A → ℤ} → Turning turn → Turning (λ a b. neg_ℤ (turn a b))
seen_from_behind {turn = turn} t = record {
  back = λ a b. ap neg_ℤ (t.back a b);
  four = λ k m a w. signs (turn a w) (turn k m) (turn k a) (turn m w) (turn a m) (turn k w) (t.four k m a w);
}
  where
    signs : (x y a b c d : ℤ) → x *ℤ y ≡ a *ℤ b +ℤ c *ℤ d → neg_ℤ x *ℤ neg_ℤ y ≡ neg_ℤ a *ℤ neg_ℤ b +ℤ neg_ℤ c *ℤ neg_ℤ d
    signs x y a b c d h = out x y ∙ h ∙ sym (in' a b c d)
      where
        out : (x y : ℤ) → neg_ℤ x *ℤ neg_ℤ y ≡ x *ℤ y
        out x y = ring (x ∷ y ∷ []) (search quotes depth 40 fits 9000) refl

        in' : (a b c d : ℤ) → neg_ℤ a *ℤ neg_ℤ b +ℤ neg_ℤ c *ℤ neg_ℤ d ≡ a *ℤ b +ℤ c *ℤ d
        in' a b c d = ring (a ∷ b ∷ c ∷ d ∷ []) (search quotes depth 40 fits 9000) refl

-- ---- lists

-- exactly one of two
abbrev pub unlike : Bool → Bool → Bool
unlike true b = not b
unlike false b = b

pub data In {A : Type 0} (a : A) : List A → Type 0 where
  here : {l : List A} → In a (a ∷ l)
  there : {b : A} {l : List A} → In a l → In a (b ∷ l)

module _ {A : Type 0} where
  pub every_in : (P : A → Type 0) (l : List A) {a : A} → Every P l → In a l → P a
  every_in P [] h i = elim i [ ]
  every_in P (b ∷ l) h here = h.0
  every_in P (b ∷ l) h (there i) = every_in P l h.1 i

  pub every_of : (P : A → Type 0) (l : List A) → ((a : A) → In a l → P a) → Every P l
  every_of P [] h = tt
  every_of P (a ∷ l) h = (h a here, every_of P l (λ b i. h b (there i)))

  -- every one passes the test, and some one does
  unfoldable pub all : (A → Bool) → List A → Bool
  all g [] = true
  all g (a ∷ l) = g a && all g l

  unfoldable pub any : (A → Bool) → List A → Bool
  any g [] = false
  any g (a ∷ l) = g a || any g l

  -- whether an odd number of them passes
  unfoldable pub odd : (A → Bool) → List A → Bool
  odd g [] = false
  odd g (a ∷ l) = unlike (g a) (odd g l)

  pub all_in : (g : A → Bool) (l : List A) → all g l ≡ true → {a : A} → In a l → g a ≡ true
  unfolding all
  all_in g [] h i = elim i [ ]
  all_in g (b ∷ l) h here = go (g b) h
    where
      go : (x : Bool) → x && all g l ≡ true → x ≡ true
      go true e = refl
      go false e = e
  all_in g (b ∷ l) h (there i) = all_in g l (go (g b) h) i
    where
      go : (x : Bool) → x && all g l ≡ true → all g l ≡ true
      go true e = e
      go false e = absurd (true≢false (sym e))

  pub all_of : (g : A → Bool) (l : List A) → ((a : A) → In a l → g a ≡ true) → all g l ≡ true
  unfolding all
  all_of g [] h = refl
  all_of g (a ∷ l) h = ap₂ ◌&&◌ (h a here) (all_of g l (λ b i. h b (there i)))

  pub record Some (g : A → Bool) (l : List A) : Type 0 where
    pub one : A
    pub stands : In one l
    pub passes : g one ≡ true

  pub any_some : (g : A → Bool) (l : List A) → any g l ≡ true → Some g l
  unfolding any
  any_some g [] h = absurd (true≢false (sym h))
  any_some g (a ∷ l) h = go (any_some g l) (g a) refl h
    where
      go : (any g l ≡ true → Some g l) → (x : Bool) → g a ≡ x → x || any g l ≡ true → Some g (a ∷ l)
      go rest true e k = record { one = a; stands = here; passes = e }
      go rest false e k = let s = rest k in record { one = s.one; stands = there s.stands; passes = s.passes }

  pub some_any : (g : A → Bool) (l : List A) → Some g l → any g l ≡ true
  unfolding any
  some_any g l s = go s.stands
    where
      or_right : (x : Bool) → x || true ≡ true
      or_right true = refl
      or_right false = refl

      go : {l : List A} → In s.one l → any g l ≡ true
      go (here {l}) = ap (λ (x : Bool). x || any g l) s.passes
      go (there {b} i) = ap (λ (x : Bool). g b || x) (go i) ∙ or_right (g b)

  -- no two of the list pass
  abbrev pub OneAtMost : (A → Bool) → List A → Type 0
  OneAtMost g [] = Unit {0}
  OneAtMost g (a ∷ l) = (g a ≡ true → any g l ≡ false) × OneAtMost g l

  -- then an odd number passes exactly when some one does
  pub odd_any : (g : A → Bool) (l : List A) → OneAtMost g l → odd g l ≡ any g l
  unfolding odd any
  odd_any g [] h = refl
  odd_any g (a ∷ l) h = go (odd_any g l h.1) (g a) refl
    where
      go : odd g l ≡ any g l → (x : Bool) → g a ≡ x → unlike x (odd g l) ≡ x || any g l
      go rest true e = ap not (rest ∙ h.0 e)
      go rest false e = rest

  pub odd_both : (g h : A → Bool) (l : List A) → odd (λ a. unlike (g a) (h a)) l ≡ unlike (odd g l) (odd h l)
  unfolding odd
  odd_both g h [] = refl
  odd_both g h (a ∷ l) = ap (unlike (unlike (g a) (h a))) (odd_both g h l) ∙ four (g a) (h a) (odd g l) (odd h l)
    where
      four : (w x y z : Bool) → unlike (unlike w x) (unlike y z) ≡ unlike (unlike w y) (unlike x z)
      four false false false z = refl
      four false false true z = refl
      four false true false z = refl
      four false true true z = refl
      four true false false z = refl
      four true false true z = not-not z
      four true true false z = sym (not-not z)
      four true true true z = refl

-- ---- who leads and who trails

module _ {A : Type 0} (turn : A → A → ℤ) where
  -- none of the list lies to the right of v, or none to its left; v itself may stand in it
  abbrev pub leads : List A → A → Bool
  leads l v = all (λ w. le_z (pos 0) (turn v w)) l

  abbrev pub trails : List A → A → Bool
  trails l v = all (λ w. le_z (turn v w) (pos 0)) l

  -- a border is the one or the other
  abbrev pub border : List A → A → Bool
  border l v = unlike (leads l v) (trails l v)

  -- no two lie on one line
  abbrev pub NoTwo : List A → Type 0
  NoTwo [] = Unit {0}
  NoTwo (a ∷ l) = Every (λ b. turn a b ≢ pos 0) l × NoTwo l

pub le_true : (a b : ℤ) → le_z a b ≡ true → a ≤ℤ b
le_true a b e = le_z_yes (subst T (sym e) tt)

pub true_le : (a b : ℤ) → a ≤ℤ b → le_z a b ≡ true
true_le a b h = go (le_z a b) h.le
  where
    go : (x : Bool) → T x → x ≡ true
    go true t = refl
    go false t = absurd t

-- on plain numbers
none_of_both : (x y : ℤ) → y ≡ neg_ℤ x → pos 0 ≤ℤ x → pos 0 ≤ℤ y → x ≡ pos 0
none_of_both x y e h k = let g = of_eq (x ∷ y ∷ []) (search quotes depth 40 fits 9000) e in omega (arith, ord)

module _ {A : Type 0} {turn : A → A → ℤ} (t : Turning turn) where
  -- two that stand in the list are one, or do not lie on one line
  one_or_apart : (l : List A) → NoTwo turn l → {k w : A} → In k l → In w l → (w ≡ k) ⊎ (turn k w ≢ pos 0)
  one_or_apart [] h i _ = elim i [ ]
  one_or_apart (a ∷ l) h here here = inl refl
  one_or_apart (a ∷ l) h here (there j) = inr (every_in (λ b. turn a b ≢ pos 0) l h.0 j)
  one_or_apart (a ∷ l) h {k} {w} (there i) here = inr (λ e. every_in (λ b. turn a b ≢ pos 0) l h.0 i (t.back k w ∙ ap neg_ℤ e))
  one_or_apart (a ∷ l) h (there i) (there j) = one_or_apart l h.1 i j

  -- at most one leads
  one_leads : (whole l : List A) → NoTwo turn l → ((a : A) → In a l → In a whole) → OneAtMost (leads turn whole) l
  one_leads whole [] h within = tt
  one_leads whole (a ∷ l) h within = (only, one_leads whole l h.1 (λ b i. within b (there i)))
    where
      only : leads turn whole a ≡ true → any (leads turn whole) l ≡ false
      only e = go (any (leads turn whole) l) refl
        where
          go : (x : Bool) → any (leads turn whole) l ≡ x → x ≡ false
          go false f = refl
          go true f =
              let s = any_some (leads turn whole) l f in
              let ahead : pos 0 ≤ℤ turn a s.one = le_true (pos 0) (turn a s.one) (all_in (λ w. le_z (pos 0) (turn a w)) whole e (within s.one (there s.stands))) in
              let behind : pos 0 ≤ℤ turn s.one a = le_true (pos 0) (turn s.one a) (all_in (λ w. le_z (pos 0) (turn s.one w)) whole s.passes (within a here)) in
              absurd (every_in (λ b. turn a b ≢ pos 0) l h.0 s.stands (none_of_both (turn a s.one) (turn s.one a) (t.back a s.one) ahead behind))

  -- ---- where one leads, one trails: the last on the way round from it

  -- w is k, or lies to the left of it
  abbrev Beyond : A → A → Type 0
  Beyond k w = (w ≡ k) ⊎ (pos 0 <ℤ turn k w)

  record Last (l : List A) : Type 0 where
    m : A
    stands : In m l
    last : (w : A) → In w l → turn m w ≤ℤ pos 0

  itself : (a : A) → turn a a ≤ℤ pos 0
  itself a = let g = of_eq (turn a a ∷ []) (search quotes depth 40 fits 9000) (t.back a a) in omega (arith, ord)

  round_back : (k w : A) → pos 0 <ℤ turn k w → turn w k ≤ℤ pos 0
  round_back k w h = let g = of_eq (turn k w ∷ turn w k ∷ []) (search quotes depth 40 fits 9000) (t.back k w) in omega (arith, ord)

-- what is not to the left of m, is not to the left of what lies to the left of m
not_left : (x km ka mw am kw : ℤ) → x *ℤ km ≡ ka *ℤ mw +ℤ am *ℤ kw → pos 0 <ℤ km → pos 0 <ℤ ka → mw ≤ℤ pos 0 → am ≤ℤ pos 0 → pos 0 ≤ℤ kw → x ≤ℤ pos 0
not_left x km ka mw am kw e h1 h2 h3 h4 h5 = go (le_z x (pos 0)) (compared x (pos 0))
  where
    go : (c : Bool) → Compared x (pos 0) c → x ≤ℤ pos 0
    go true (ordered h) = h
    go false (reversed h) =
        let l : List ℤ = x ∷ km ∷ ka ∷ mw ∷ am ∷ kw ∷ [] in
        let d0 : pos 0 ≤ℤ x = omega (arith, ord) in
        let d1 : pos 0 ≤ℤ (km -ℤ pos 1) = le l (search quotes depth 40 fits 9000) (omega (arith, ord)) in
        let d2 : pos 0 ≤ℤ ka = omega (arith, ord) in
        let d3 : pos 0 ≤ℤ neg_ℤ mw = le l (search quotes depth 40 fits 9000) (omega (arith, ord)) in
        let d4 : pos 0 ≤ℤ neg_ℤ am = le l (search quotes depth 40 fits 9000) (omega (arith, ord)) in
        let f1 = of_le l (search quotes depth 40 fits 9000) (nn_mul x (km -ℤ pos 1) d0 d1) in
        let f2 = of_le l (search quotes depth 40 fits 9000) (nn_mul ka (neg_ℤ mw) d2 d3) in
        let f3 = of_le l (search quotes depth 40 fits 9000) (nn_mul (neg_ℤ am) kw d4 h5) in
        let f4 = of_eq l (search quotes depth 40 fits 9000) e in
        absurd (omega (arith, ord))

module _ {A : Type 0} {turn : A → A → ℤ} (t : Turning turn) (k : A) where
  step : (a : A) (l : List A) → Beyond t k a → ((w : A) → In w l → Beyond t k w) → Last t l → Last t (a ∷ l)
  step a l ha hl s = by ha (hl m s.stands)
    where
      m : A
      m = s.m

      over : {P : A → Type 0} → P a → ((w : A) → In w l → P w) → (w : A) → In w (a ∷ l) → P w
      over p q w here = p
      over p q w (there i) = q w i

      stays : turn m a ≤ℤ pos 0 → Last t (a ∷ l)
      stays h = record { m = m; stands = there s.stands; last = over {P = λ w. turn m w ≤ℤ pos 0} h s.last }

      comes : ((w : A) → In w l → turn a w ≤ℤ pos 0) → Last t (a ∷ l)
      comes h = record { m = a; stands = here; last = over {P = λ w. turn a w ≤ℤ pos 0} (itself t a) h }

      -- from k nothing lies to the right
      not_right : (w : A) → Beyond t k w → pos 0 ≤ℤ turn k w
      not_right w (inl e) = subst (λ (v : A). pos 0 ≤ℤ turn k v) (sym e) (flat (itself t k))
        where
          flat : turn k k ≤ℤ pos 0 → pos 0 ≤ℤ turn k k
          flat h = let g = of_eq (turn k k ∷ []) (search quotes depth 40 fits 9000) (t.back k k) in omega (arith, ord)
      not_right w (inr h) = omega (arith, ord)

      -- where the last so far is k, nothing but k stands there
      only_k : m ≡ k → (w : A) → In w l → Beyond t k w → pos 0 <ℤ turn k a → turn a w ≤ℤ pos 0
      only_k f w i (inl e) h = subst (λ (v : A). turn a v ≤ℤ pos 0) (sym e) (round_back t k a h)
      only_k f w i (inr g) h = let c : turn k w ≤ℤ pos 0 = subst (λ (v : A). turn v w ≤ℤ pos 0) f (s.last w i) in absurd (omega (arith, ord))

      further : pos 0 <ℤ turn k a → pos 0 <ℤ turn k m → (c : Bool) → Compared (turn m a) (pos 0) c → Last t (a ∷ l)
      further h g true (ordered x) = stays x
      further h g false (reversed x) =
          comes (λ w i. not_left (turn a w) (turn k m) (turn k a) (turn m w) (turn a m) (turn k w) (t.four k m a w) g h (s.last w i)
          (round_back t m a x) (not_right w (hl w i)))

      by : Beyond t k a → Beyond t k m → Last t (a ∷ l)
      by (inl e) (inl f) = stays (subst (λ (v : A). turn m v ≤ℤ pos 0) (f ∙ sym e) (itself t m))
      by (inl e) (inr f) = stays (subst (λ (v : A). turn m v ≤ℤ pos 0) (sym e) (round_back t k m f))
      by (inr h) (inl f) = comes (λ w i. only_k f w i (hl w i) h)
      by (inr h) (inr f) = further h f (le_z (turn m a) (pos 0)) (compared (turn m a) (pos 0))

  find : (a : A) (l : List A) → ((w : A) → In w (a ∷ l) → Beyond t k w) → Last t (a ∷ l)
  find a [] h = record { m = a; stands = here; last = only }
    where
      only : (w : A) → In w (a ∷ []) → turn a w ≤ℤ pos 0
      only w here = itself t a
      only w (there i) = elim i [ ]
  find a (b ∷ l) h = step a (b ∷ l) (h a here) (λ w i. h w (there i)) (find b l (λ w i. h w (there i)))

module _ {A : Type 0} {turn : A → A → ℤ} (t : Turning turn) (l : List A) (h : NoTwo turn l) where
  beyond : (k : A) → In k l → leads turn l k ≡ true → (w : A) → In w l → Beyond t k w
  beyond k i e w j = go (one_or_apart t l h i j)
    where
      go : (w ≡ k) ⊎ (turn k w ≢ pos 0) → Beyond t k w
      go (inl f) = inl f
      go (inr n) = inr (strictly (turn k w) (le_true (pos 0) (turn k w) (all_in (λ v. le_z (pos 0) (turn k v)) l e j)) n)
        where
          strictly : (x : ℤ) → pos 0 ≤ℤ x → x ≢ pos 0 → pos 0 <ℤ x
          strictly x g n = cases (le_z x (pos 0)) (compared x (pos 0))
            where
              cases : (c : Bool) → Compared x (pos 0) c → pos 0 <ℤ x
              cases true (ordered y) = absurd (n (omega (arith, ord)))
              cases false (reversed y) = y

  last_of : (k : A) (m : List A) → In k m → ((w : A) → In w m → Beyond t k w) → Last t m
  last_of k [] i b = elim i [ ]
  last_of k (a ∷ m) i b = find t k a m b

  leader_trailer : Some (leads turn l) l → Some (trails turn l) l
  leader_trailer s =
      let x = last_of s.one l s.stands (beyond s.one s.stands s.passes) in
      record { one = x.m; stands = x.stands; passes = all_of (λ w. le_z (turn x.m w) (pos 0)) l (λ w i. true_le (turn x.m w) (pos 0) (x.last w i)) }

  some_leads : any (leads turn l) l ≡ true → any (trails turn l) l ≡ true
  some_leads e = some_any (trails turn l) l (leader_trailer (any_some (leads turn l) l e))

  odd_leads : odd (leads turn l) l ≡ any (leads turn l) l
  odd_leads = odd_any (leads turn l) l (one_leads t l l h (λ a i. i))

-- ---- seen from behind who led trails

pub same_test : (x y : Bool) → (x ≡ true → y ≡ true) → (y ≡ true → x ≡ true) → x ≡ y
same_test true y f g = sym (f refl)
same_test false true f g = g refl
same_test false false f g = refl

same_order : (a b c d : ℤ) → (a ≤ℤ b → c ≤ℤ d) → (c ≤ℤ d → a ≤ℤ b) → le_z a b ≡ le_z c d
same_order a b c d f g = same_test (le_z a b) (le_z c d) (λ e. true_le c d (f (le_true a b e))) (λ e. true_le a b (g (le_true c d e)))

behind_leads : (x : ℤ) → le_z (pos 0) (neg_ℤ x) ≡ le_z x (pos 0)
behind_leads x = same_order (pos 0) (neg_ℤ x) x (pos 0)
    (λ h. let g = of_le (x ∷ []) (search quotes depth 40 fits 9000) h in omega (arith, ord))
    (λ h. le (x ∷ []) (search quotes depth 40 fits 9000) (omega (arith, ord)))

behind_trails : (x : ℤ) → le_z (neg_ℤ x) (pos 0) ≡ le_z (pos 0) x
behind_trails x = same_order (neg_ℤ x) (pos 0) (pos 0) x
    (λ h. let g = of_le (x ∷ []) (search quotes depth 40 fits 9000) h in omega (arith, ord))
    (λ h. le (x ∷ []) (search quotes depth 40 fits 9000) (omega (arith, ord)))

module _ {A : Type 0} {turn : A → A → ℤ} (t : Turning turn) (l : List A) (h : NoTwo turn l) where
  abbrev other : A → A → ℤ
  other a b = neg_ℤ (turn a b)

  leads_behind : leads other l ≡ trails turn l
  leads_behind = fun_ext (λ v. ap (λ (g : A → Bool). all g l) (fun_ext (λ w. behind_leads (turn v w))))

  trails_behind : trails other l ≡ leads turn l
  trails_behind = fun_ext (λ v. ap (λ (g : A → Bool). all g l) (fun_ext (λ w. behind_trails (turn v w))))

  still_no_two : (m : List A) → NoTwo turn m → NoTwo other m
  still_no_two [] n = tt
  still_no_two (a ∷ m) n = (every_imp (λ b. turn a b ≢ pos 0) (λ b. other a b ≢ pos 0) (λ b e f. e (sym (neg_ℤ-neg_ℤ (turn a b)) ∙ ap neg_ℤ f)) m n.0, still_no_two m n.1)

  odd_trails : odd (trails turn l) l ≡ any (trails turn l) l
  odd_trails = subst (λ (g : A → Bool). odd g l ≡ any g l) leads_behind (odd_leads (seen_from_behind t) l (still_no_two l h))

  some_trails : any (trails turn l) l ≡ true → any (leads turn l) l ≡ true
  some_trails e =
      subst (λ (g : A → Bool). any g l ≡ true) trails_behind
      (some_leads (seen_from_behind t) l (still_no_two l h) (subst (λ (g : A → Bool). any g l ≡ true) (sym leads_behind) e))

  -- as many lead as trail
  pub as_many : odd (leads turn l) l ≡ odd (trails turn l) l
  as_many = odd_leads t l h ∙ same_test (any (leads turn l) l) (any (trails turn l) l) (some_leads t l h) some_trails ∙ sym odd_trails

  -- so the borders are even in number
  pub borders_even : odd (border turn l) l ≡ false
  borders_even = odd_both (leads turn l) (trails turn l) l ∙ ap (λ (x : Bool). unlike x (odd (trails turn l) l)) as_many ∙ none (odd (trails turn l) l)
    where
      none : (x : Bool) → unlike x x ≡ false
      none true = refl
      none false = refl
