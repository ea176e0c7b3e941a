-- Two of six places taken out, and the four others in their order: every place is one of the six, a sum over the places is the sum over
-- these six, and numbers given for these six are numbers for the places.
use Rattle.std.specs.Prelude.{ℕ, zero, suc, ◌+◌, ◌≤◌, ◌<◌, min, max, ◌≡◌, refl, ◌≢◌, ◌⊎◌, Bool, true, false, cond, List, [], ◌∷◌, ℤ, pos, ◌+ℤ◌, ◌*ℤ◌, ltb, length, get_or}
use Rattle.std.proofs.Common.{le_of_lt, add-one, arith, sym, ◌∙◌, inl, inr}
use Rattle.std.proofs.Math.Nat.{min-eq_left, min-eq_right, max-eq_left, max-eq_right}
use Rattle.std.proofs.Math.Decide.{dec_lt}
use Rattle.std.proofs.Math.Path.{ap}
use Rattle.std.proofs.Math.IntN.{+ℤ_comm}
use Rattle.std.proofs.Math.Dec.{leb-zero, leb-suc-zero, leb-suc-suc}
use Rattle.whole.specs.Laws.{swap_first}
use Rattle.whole.specs.Quote.{quotes, ring}
use Rattle.whole.specs.Cramer.{Four, Place, p0, p1, p2, p3, pick}
use Rattle.meaning.specs.Pieces.{Event}
use Rattle.meaning.specs.Equations.{total}

-- ---- one taken out

-- the k-th of the places other than i
unfoldable pub skip : ℕ → ℕ → ℕ
skip zero k = suc k
skip (suc i) zero = zero
skip (suc i) (suc k) = suc (skip i k)

pub skip_is : (i k : ℕ) → skip i k ≡ cond (ltb k i) k (k + 1)
unfolding skip
skip_is zero k = rw (leb-suc-zero k) (sym (add-one k))
skip_is (suc i) zero = rw (leb-suc-suc 0 i, leb-zero i)
skip_is (suc i) (suc k) = rw (leb-suc-suc (suc k) i, skip_is i k) (through (ltb k i))
  where
    through : (c : Bool) → suc (cond c k (k + 1)) ≡ cond c (suc k) (suc k + 1)
    through true = refl
    through false = omega arith

skip_below : (i k : ℕ) → k < i → skip i k ≡ k
unfolding skip
skip_below zero k h = absurd (omega arith)
skip_below (suc i) zero h = refl
skip_below (suc i) (suc k) h = ap suc (skip_below i k (omega arith))

pub skip_most : (i k : ℕ) → skip i k ≤ suc k
unfolding skip
skip_most zero k = omega arith
skip_most (suc i) zero = omega arith
skip_most (suc i) (suc k) = omega (arith, skip_most i k)

-- every place is i or one of the others
record Other (n i j : ℕ) : Type 0 where
  k : ℕ
  there : k < n
  is : j ≡ skip i k

taken_or : (n i j : ℕ) → i ≤ n → j ≤ n → (j ≡ i) ⊎ Other n i j
unfolding skip
taken_or n zero zero g h = inl refl
taken_or n zero (suc j) g h = inr (record { k = j; there = h; is = refl })
taken_or zero (suc i) zero g h = absurd (omega arith)
taken_or (suc n) (suc i) zero g h = inr (record { k = zero; there = omega arith; is = refl })
taken_or zero (suc i) (suc j) g h = absurd (omega arith)
taken_or (suc n) (suc i) (suc j) g h = further (taken_or n i j (omega arith) (omega arith))
  where
    further : (j ≡ i) ⊎ Other n i j → (suc j ≡ suc i) ⊎ Other (suc n) (suc i) (suc j)
    further (inl e) = inl (ap suc e)
    further (inr o) = inr (record { k = suc o.k; there = omega (arith, o.there); is = ap suc o.is })

-- ---- sums

unfoldable sum : ℕ → (ℕ → ℤ) → ℤ
sum zero g = pos 0
sum (suc n) g = g 0 +ℤ sum n (λ i. g (suc i))

take_out : (n i : ℕ) (g : ℕ → ℤ) → i ≤ n → sum (suc n) g ≡ g i +ℤ sum n (λ k. g (skip i k))
unfolding sum skip
take_out n zero g h = refl
take_out zero (suc i) g h = absurd (omega arith)
take_out (suc n) (suc i) g h =
    ap (λ z. g 0 +ℤ z) (take_out n i (λ j. g (suc j)) (omega arith)) ∙ swap_first (g 0) (g (suc i)) _

total_sum {ℓ} : {A : Type ℓ} (f : A → ℤ) (w : ℕ → ℤ) (l : List A) (d : A) → total f w l ≡ sum (length l) (λ i. w i *ℤ f (get_or l i d))
unfolding total sum
total_sum f w [] d = refl
total_sum f w (a ∷ l) d = ap (λ z. w 0 *ℤ f a +ℤ z) (total_sum f (λ i. w (suc i)) l d)

-- ---- numbers for all the places

-- x at i, and g at the others
unfoldable insert : ℕ → ℤ → (ℕ → ℤ) → ℕ → ℤ
insert zero x g zero = x
insert zero x g (suc j) = g j
insert (suc i) x g zero = g zero
insert (suc i) x g (suc j) = insert i x (λ k. g (suc k)) j

insert_here : (i : ℕ) (x : ℤ) (g : ℕ → ℤ) → insert i x g i ≡ x
unfolding insert
insert_here zero x g = refl
insert_here (suc i) x g = insert_here i x (λ k. g (suc k))

insert_there : (i : ℕ) (x : ℤ) (g : ℕ → ℤ) (k : ℕ) → insert i x g (skip i k) ≡ g k
unfolding insert skip
insert_there zero x g k = refl
insert_there (suc i) x g zero = refl
insert_there (suc i) x g (suc k) = insert_there i x (λ j. g (suc j)) k

-- ---- two of six taken out

-- the four others than lo and hi, the lower one being lo
abbrev pub four_others : ℕ → ℕ → Four ℕ
four_others lo hi =
    record { v0 = skip hi (skip lo 0); v1 = skip hi (skip lo 1); v2 = skip hi (skip lo 2); v3 = skip hi (skip lo 3) }

abbrev pub others_of : ℕ → ℕ → Four ℕ
others_of s e = four_others (min s e) (max s e)

-- where a place stands
pub data Stands (s e : ℕ) (q : Four ℕ) (i : ℕ) : Type 0 where
  at_first : i ≡ s → Stands s e q i
  at_second : i ≡ e → Stands s e q i
  among : (k : Place) → i ≡ pick k q → Stands s e q i

-- numbers for all the places, from one for each of the two and four for the others
pub record Numbers (s e : ℕ) (q : Four ℕ) (x y : ℤ) (n : Four ℤ) : Type 0 where
  pub number : ℕ → ℤ
  pub first : number s ≡ x
  pub second : number e ≡ y
  pub others : (k : Place) → number (pick k q) ≡ pick k n

abbrev pub sum_over : ℕ → ℕ → Four ℕ → (ℕ → ℤ) → ℤ
sum_over s e q g = g s +ℤ g e +ℤ g q.v0 +ℤ g q.v1 +ℤ g q.v2 +ℤ g q.v3

pub record Order (s e : ℕ) (q : Four ℕ) : Type 0 where
  pub stands : (i : ℕ) → i < 6 → Stands s e q i
  pub first : s < 6
  pub second : e < 6
  pub there : (k : Place) → pick k q < 6
  pub sums : (f : Event → ℤ) (w : ℕ → ℤ) (l : List Event) (d : Event) → length l ≡ 6 → total f w l ≡ sum_over s e q (λ i. w i *ℤ f (get_or l i d))
  pub fill : (x y : ℤ) (n : Four ℤ) → Numbers s e q x y n

regroup : (a b c d e f : ℤ) → a +ℤ (b +ℤ (c +ℤ (d +ℤ (e +ℤ (f +ℤ pos 0))))) ≡ b +ℤ a +ℤ c +ℤ d +ℤ e +ℤ f
regroup a b c d e f = ring (a ∷ b ∷ c ∷ d ∷ e ∷ f ∷ []) (search quotes depth 40 fits 9000) refl

swap_two : (s e : ℕ) (q : Four ℕ) (g : ℕ → ℤ) → sum_over s e q g ≡ sum_over e s q g
swap_two s e q g = ap (λ z. z +ℤ g q.v0 +ℤ g q.v1 +ℤ g q.v2 +ℤ g q.v3) (+ℤ_comm (g s) (g e))

-- four numbers by their place in a run
abbrev run : Four ℤ → ℕ → ℤ
run n zero = n.v0
run n (suc zero) = n.v1
run n (suc (suc zero)) = n.v2
run n (suc (suc (suc k))) = n.v3

module _ (lo hi : ℕ) (h : lo < hi) (g : hi < 6) where
  low : skip hi lo ≡ lo
  low = skip_below hi lo h

  low_or : (i : ℕ) → i < 6 → Stands lo hi (four_others lo hi) i
  low_or i k = found (taken_or 5 hi i (omega arith) (omega arith))
    where
      place : (m : ℕ) → m < 4 → i ≡ skip hi (skip lo m) → Stands lo hi (four_others lo hi) i
      place zero l e = among p0 e
      place (suc zero) l e = among p1 e
      place (suc (suc zero)) l e = among p2 e
      place (suc (suc (suc zero))) l e = among p3 e
      place (suc (suc (suc (suc m)))) l e = absurd (omega arith)

      inner : (o : Other 5 hi i) → (o.k ≡ lo) ⊎ Other 4 lo o.k → Stands lo hi (four_others lo hi) i
      inner o (inl e) = at_first (o.is ∙ ap (skip hi) e ∙ low)
      inner o (inr r) = place r.k r.there (o.is ∙ ap (skip hi) r.is)

      found : (i ≡ hi) ⊎ Other 5 hi i → Stands lo hi (four_others lo hi) i
      found (inl e) = at_second e
      found (inr o) = inner o (taken_or 4 lo o.k (omega arith) (omega (arith, o.there)))

  low_sums : (f : ℕ → ℤ) → sum 6 f ≡ sum_over lo hi (four_others lo hi) f
  unfolding sum
  low_sums f =
      take_out 5 hi f (omega arith)
      ∙ ap (λ z. f hi +ℤ z) (take_out 4 lo (λ k. f (skip hi k)) (omega arith))
      ∙ regroup (f hi) (f (skip hi lo)) _ _ _ _
      ∙ ap (λ i. sum_over i hi (four_others lo hi) f) low

  ordered : Order lo hi (four_others lo hi)
  ordered = record {
    stands = low_or;
    first = omega arith;
    second = g;
    there = below;
    sums = λ f w l d e. total_sum f w l d ∙ ap (λ n. sum n (λ i. w i *ℤ f (get_or l i d))) e ∙ low_sums (λ i. w i *ℤ f (get_or l i d));
    fill = λ x y n. record {
      number = insert hi y (insert lo x (run n));
      first = ap (insert hi y (insert lo x (run n))) (sym low) ∙ insert_there hi y (insert lo x (run n)) lo ∙ insert_here lo x (run n);
      second = insert_here hi y (insert lo x (run n));
      others = λ k. inserted x y n k;
    };
  }
    where
      small : (k : ℕ) → k < 4 → skip hi (skip lo k) < 6
      small k l = omega (arith, skip_most hi (skip lo k), skip_most lo k)

      below : (k : Place) → pick k (four_others lo hi) < 6
      below p0 = small 0 (omega arith)
      below p1 = small 1 (omega arith)
      below p2 = small 2 (omega arith)
      below p3 = small 3 (omega arith)

      inserted : (x y : ℤ) (n : Four ℤ) (k : Place) → insert hi y (insert lo x (run n)) (pick k (four_others lo hi)) ≡ pick k n
      inserted x y n p0 = insert_there hi y _ (skip lo 0) ∙ insert_there lo x (run n) 0
      inserted x y n p1 = insert_there hi y _ (skip lo 1) ∙ insert_there lo x (run n) 1
      inserted x y n p2 = insert_there hi y _ (skip lo 2) ∙ insert_there lo x (run n) 2
      inserted x y n p3 = insert_there hi y _ (skip lo 3) ∙ insert_there lo x (run n) 3

swapped : {s e : ℕ} {q : Four ℕ} → Order s e q → Order e s q
swapped {s} {e} {q} o = record {
  stands = λ i h. other (o.stands i h);
  first = o.second;
  second = o.first;
  there = o.there;
  sums = λ f w l d h. o.sums f w l d h ∙ swap_two s e q (λ i. w i *ℤ f (get_or l i d));
  fill = λ x y n. let m = o.fill y x n in record { number = m.number; first = m.second; second = m.first; others = m.others };
}
  where
    other : {i : ℕ} → Stands s e q i → Stands e s q i
    other (at_first h) = at_second h
    other (at_second h) = at_first h
    other (among k h) = among k h

pub order_of : (s e : ℕ) → s < 6 → e < 6 → s ≢ e → Order s e (others_of s e)
order_of s e h k n = go (dec_lt s e)
  where
    go : Dec (s < e) → Order s e (others_of s e)
    go (yes l) = rw (min-eq_left (le_of_lt l), max-eq_right (le_of_lt l)) (ordered s e l k)
    go (no l) = let m : e < s = omega arith in rw (min-eq_right (le_of_lt m), max-eq_left (le_of_lt m)) (swapped (ordered e s m h))
