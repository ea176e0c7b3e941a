-- Where some volume of the four slots is not 0, the volumes are the one candidate for weights: all weights that are 0 for the corners left
-- out are proportional to it. So there are such weights exactly when the candidate is 0 for those corners and of one sign.
use Rattle.std.specs.Prelude.{ℕ, zero, suc, ◌+◌, ◌≤◌, ◌<◌, ◌≡◌, refl, ◌≢◌, Bool, true, false, List, ◌++◌, ℤ, pos, negsuc, neg_ℤ, nat_abs, ◌-ℤ◌, ◌*ℤ◌, ltb, length, ◌≤ℤ◌, ◌<ℤ◌}
use Rattle.std.proofs.Common.{zero-le, arith, sym, ◌∙◌, ap, subst, le→leb, length-append}
use Rattle.std.proofs.Math.IntN.{*ℤ_comm, *ℤ-zero, zero-*ℤ}
use Rattle.std.proofs.Math.Dec.{leb-zero}
use Rattle.std.specs.Int.Signed.{le_z, le_z_yes}
use Rattle.whole.specs.Vector.{Vector, origin}
use Rattle.whole.specs.Laws.{negℤ_*ℤ, *ℤ_negℤ, *ℤ_idl}
use Rattle.whole.specs.Signs.{positive, negative, opposite, sgn_neg, Agrees, none, alike, sign_transfer, factor_zero, not_negative_is, nat_abs_positive}
use Rattle.whole.specs.Quote.{quotes, ring}
use Rattle.whole.specs.Cramer.{Four, each, weigh, volumes, all, dot4, balance, Place, p0, p1, p2, p3, pick, at_place, reads}
use Rattle.whole.proofs.Cramer.{proportional}
use Rattle.meaning.specs.Pieces.{Event}
use Rattle.meaning.specs.Equations.{one, total}
use Rattle.theory.specs.Totals.{weights_times}
use Rattle.theory.specs.Solved.{weights_there}
use Rattle.theory.specs.Spread.{start_share, end_share}
use Rattle.corner_laws.specs.Level.{Level, level_times, level_same}
use Rattle.corner_laws.specs.Left.{TouchIn}
use Rattle.corner_laws.specs.AtMostOne.{Allowed, AtMostOne, by_a_third}
use Rattle.corner_laws.specs.Leave.{some_weight}
use Rattle.corner_laws.specs.Signed.{sided, sided_zero, zero_sided, signed, signed_twice, nought_of, level_signed}
use Rattle.corner_laws.specs.Others.{Stands, at_first, at_second, among, Numbers}
use Rattle.corner_laws.specs.Slots.{Based, others_in, differences_in, Remains, remains_flat, nought_by, Preferred, none_out, pick_each}
use Rattle.corner_laws.specs.Filled.{NoneOut}

-- ---- the number of each corner is linear in those of the four

negate_dot : (n t : Four ℤ) → neg_ℤ (dot4 n t) ≡ dot4 n (each neg_ℤ t)
negate_dot n t = ring (all n ++ all t) (search quotes depth 60 fits 90000) refl

record Row (l : List Event) (s e : ℕ) (q : Four ℕ) (i : ℕ) : Type 0 where
  row : Four ℤ
  is : (n : ℕ → ℤ) → Remains l s e q n → n i ≡ dot4 (each n q) row

row_of : {l : List Event} {s e : ℕ} {q : Four ℕ} {i : ℕ} → Stands s e q i → Row l s e q i
row_of {l} {s} {e} {q} (at_first h) = record {
  row = each (λ (o : Event). neg_ℤ (pos 1 -ℤ o.time)) (others_in l q);
  is = λ n c. ap n h ∙ c.start ∙ negate_dot (each n q) (each (λ (o : Event). pos 1 -ℤ o.time) (others_in l q));
}
row_of {l} {s} {e} {q} (at_second h) = record {
  row = each (λ (o : Event). neg_ℤ o.time) (others_in l q);
  is = λ n c. ap n h ∙ c.end ∙ negate_dot (each n q) (each (λ (o : Event). o.time) (others_in l q));
}
row_of {l} {s} {e} {q} (among k h) = record {
  row = at_place k;
  is = λ n c. ap n h ∙ sym (pick_each n q k) ∙ sym (reads k (each n q));
}

-- so two runs of numbers are proportional where the one has the volumes for its four, and the other's four combine the same vectors
in_proportion : {l : List Event} {s e : ℕ} {q : Four ℕ} (v : Four Vector) (n m : ℕ → ℤ) → Remains l s e q n → Remains l s e q m → weigh (each n q) v ≡ origin → each m q ≡ volumes v → {i j : ℕ} → Stands s e q i → Stands s e q j → n i *ℤ m j ≡ n j *ℤ m i
in_proportion {l} {s} {e} {q} v n m c d h k {i} {j} p r =
    rw (P.is n c, mine P, R.is n c, mine R) (proportional v (each n q) h P.row R.row)
  where
    P : Row l s e q i
    P = row_of p

    R : Row l s e q j
    R = row_of r

    mine : {g : ℕ} (w : Row l s e q g) → m g ≡ dot4 (volumes v) w.row
    mine w = w.is m d ∙ ap (λ z. dot4 z w.row) k

both_sided : (c d : Bool) (x y x' y' : ℤ) → x *ℤ y ≡ x' *ℤ y' → sided c x *ℤ sided d y ≡ sided d x' *ℤ sided c y'
unfolding sided
both_sided true true x y x' y' h = h
both_sided true false x y x' y' h = simp (negℤ_*ℤ, *ℤ_negℤ, h)
both_sided false true x y x' y' h = simp (negℤ_*ℤ, *ℤ_negℤ, h)
both_sided false false x y x' y' h = simp (negℤ_*ℤ, *ℤ_negℤ, h)

-- ---- the candidate

-- four vectors in place of the differences: numbers that are 0 for the corners left out combine them alike
pub record InPlace (l : List Event) (left : ℕ → Bool) (s e : ℕ) (q : Four ℕ) (v : Four Vector) : Type 0 where
  pub alike : (n : Four ℤ) → NoneOut (each left q) n → weigh n v ≡ weigh n (differences_in l s e q)

-- 0 for the corners left out, and of one sign: with the signs of the simplices, none is below 0, or none is above it
pub record Fits (m : ℕ) (l : List Event) (left : ℕ → Bool) (s e : ℕ) (q : Four ℕ) (E : Four ℤ) : Type 0 where
  pub way : Bool
  pub out : NoneOut (each left q) E
  pub start : pos 0 ≤ℤ sided way (sided (ltb s m) (neg_ℤ (start_share (others_in l q) E)))
  pub end : pos 0 ≤ℤ sided way (sided (ltb e m) (neg_ℤ (end_share (others_in l q) E)))
  pub others : (k : Place) → pos 0 ≤ℤ sided way (sided (ltb (pick k q) m) (pick k E))

-- the candidate's numbers for all the corners
pub record Spread (l : List Event) (s e : ℕ) (q : Four ℕ) (E : Four ℤ) : Type 0 where
  pub number : ℕ → ℤ
  pub four : each number q ≡ E
  pub remains : Remains l s e q number

pub spread : {l : List Event} {s e : ℕ} {q : Four ℕ} → Based l s e q → (E : Four ℤ) → Spread l s e q E
spread {l} {s} {e} {q} b E = record {
  number = N.number;
  four = four;
  remains = record {
    start = N.first ∙ ap (λ n. neg_ℤ (start_share (others_in l q) n)) (sym four);
    end = N.second ∙ ap (λ n. neg_ℤ (end_share (others_in l q) n)) (sym four);
  };
}
  where
    N : Numbers s e q (neg_ℤ (start_share (others_in l q) E)) (neg_ℤ (end_share (others_in l q) E)) E
    N = b.order.fill (neg_ℤ (start_share (others_in l q) E)) (neg_ℤ (end_share (others_in l q) E)) E

    four : each N.number q ≡ E
    four = λ i. record { v0 = N.others p0 i; v1 = N.others p1 i; v2 = N.others p2 i; v3 = N.others p3 i }

-- ---- proportional to weights: of one sign

differ : positive ≡ negative → ⊥
differ e = let x : ◌≡◌ {A = ℕ} 0 1 = cc in omega arith

agrees_way : (d z : ℤ) → d ≢ pos 0 → Agrees d z → pos 0 ≤ℤ sided (le_z (pos 0) d) z
unfolding sided
agrees_way d z n (none e) = rw (e, zero_sided (le_z (pos 0) d)) (record { le = tt })
agrees_way (pos zero) z n (alike e) = absurd (n refl)
agrees_way (pos (suc d)) z n (alike e) = rw (leb-zero (suc d)) ((not_negative_is z).0 (λ h. differ (sym e ∙ h)))
agrees_way (negsuc d) z n (alike e) = (not_negative_is (neg_ℤ z)).0 (λ h. differ (ap opposite (sym e) ∙ sym (sgn_neg z) ∙ h))

-- 1 for one way, -1 for the other
abbrev unit : Bool → ℤ
unit true = pos 1
unit false = negsuc 0

way_size : (c : Bool) (z : ℤ) → pos 0 ≤ℤ sided c z → pos (nat_abs z) ≡ unit c *ℤ z
unfolding sided
way_size true (pos n) h = sym (*ℤ_idl (pos n))
way_size true (negsuc n) h = absurd h.le
way_size false (pos zero) h = refl
way_size false (pos (suc n)) h = absurd h.le
way_size false (negsuc n) h = ap pos (omega arith)

-- numbers proportional to weights
module _ (a : List Event) (w : ℕ → ℕ) (C : ℕ → ℤ) (small : length a ≤ 6) (h : (i j : ℕ) → i < 6 → j < 6 → pos (w i) *ℤ C j ≡ pos (w j) *ℤ C i) (above : pos 0 <ℤ total one (λ i. pos (w i)) a) (i₀ : ℕ) (there : i₀ < 6) (some : C i₀ ≢ pos 0) where
  abbrev W : ℤ
  W = total one (λ i. pos (w i)) a

  abbrev D : ℤ
  D = total one C a

  against : (i : ℕ) → i < 6 → pos (w i) *ℤ D ≡ W *ℤ C i
  against i k =
      sym (weights_times (pos (w i)) one C a)
      ∙ weights_there one (λ j. pos (w i) *ℤ C j) (λ j. C i *ℤ pos (w j)) a (λ j g. h i j k (omega arith) ∙ *ℤ_comm (pos (w j)) (C i))
      ∙ weights_times (C i) one (λ j. pos (w j)) a ∙ *ℤ_comm (C i) W

  W_some : W ≢ pos 0
  W_some e = absurd (subst (λ z. pos 0 <ℤ z) e above).lt

  gone : (i : ℕ) → i < 6 → pos (w i) *ℤ D ≡ pos 0 → C i ≡ pos 0
  gone i k e = factor_zero W (C i) (sym (against i k) ∙ e) W_some

  D_some : D ≢ pos 0
  D_some e = some (gone i₀ there (ap (λ z. pos (w i₀) *ℤ z) e ∙ *ℤ-zero (pos (w i₀))))

  one_way_lem : (i : ℕ) → i < 6 → pos 0 ≤ℤ sided (le_z (pos 0) D) (C i)
  one_way_lem i k = agrees_way D (C i) D_some ((sign_transfer (pos (w i)) D W (C i) (against i k) above D_some).0 (le_z_yes (le→leb 0 (w i) zero-le)))

  gone_out : (i : ℕ) → i < 6 → w i ≡ 0 → C i ≡ pos 0
  gone_out i k e = gone i k (ap (λ x. pos x *ℤ D) e ∙ zero-*ℤ D)

-- ---- there are weights exactly when the candidate fits

module _ (a b : List Event) {left : ℕ → Bool} {s e : ℕ} {q : Four ℕ} (B : Based (a ++ b) s e q) {v : Four Vector} (I : InPlace (a ++ b) left s e q v) (k₀ : Place) (some : pick k₀ (volumes v) ≢ pos 0) where
  abbrev S : Spread (a ++ b) s e q (volumes v)
  S = spread B (volumes v)

  abbrev side : ℕ → Bool
  side i = ltb i (length a)

  -- the candidate's weights
  abbrev C : ℕ → ℤ
  C = signed (length a) S.number

  C_start : C s ≡ sided (side s) (neg_ℤ (start_share (others_in (a ++ b) q) (volumes v)))
  C_start = ap (sided (side s)) (S.remains.start ∙ ap (λ n. neg_ℤ (start_share (others_in (a ++ b) q) n)) S.four)

  C_end : C e ≡ sided (side e) (neg_ℤ (end_share (others_in (a ++ b) q) (volumes v)))
  C_end = ap (sided (side e)) (S.remains.end ∙ ap (λ n. neg_ℤ (end_share (others_in (a ++ b) q) n)) S.four)

  C_other : (k : Place) → C (pick k q) ≡ sided (side (pick k q)) (pick k (volumes v))
  C_other k = ap (sided (side (pick k q))) (sym (pick_each S.number q k) ∙ ap (pick k) S.four)

  six : length a + length b ≡ 6
  six = sym (length-append a b) ∙ B.six

  C_some : C (pick k₀ q) ≢ pos 0
  C_some h = some (sided_zero (side (pick k₀ q)) (sym (C_other k₀) ∙ h))

  -- numbers that balance and are 0 for the corners left out are in one ratio with the candidate
  in_ratio : {k : ℕ → ℤ} → Allowed a b left k → (i j : ℕ) → i < 6 → j < 6 → k i *ℤ C j ≡ k j *ℤ C i
  in_ratio {k} h i j x y =
      ap (λ z. z *ℤ C j) (sym (signed_twice (length a) k i))
      ∙ both_sided (side i) (side j) (n i) (S.number j) (n j) (S.number i)
      (in_proportion v n S.number r.0 S.remains (I.alike (each n q) n_out ∙ r.1) S.four (B.order.stands i x) (B.order.stands j y))
      ∙ ap (λ z. z *ℤ C i) (signed_twice (length a) k j)
    where
      n : ℕ → ℤ
      n = signed (length a) k

      r : Remains (a ++ b) s e q n × (weigh (each n q) (differences_in (a ++ b) s e q) ≡ origin)
      r = remains_flat B n (nought_of h.level)

      n_out : NoneOut (each left q) (each n q)
      n_out = record {
        out = λ k g.
            pick_each n q k
            ∙ ap (sided (side (pick k q))) (h.out (pick k q) (rw six (B.order.there k)) (sym (pick_each left q k) ∙ g))
            ∙ zero_sided (side (pick k q));
      }

  -- so all are in one ratio
  pub at_most_one : AtMostOne a b left
  at_most_one = record {
    ratio = λ k m h g i j x y.
        by_a_third (C c) (k i) (k j) (k c) (m i) (m j) (m c) (C i) (C j) C_some (with_third h i x) (with_third h j y) (with_third g i x) (with_third g j y);
  }
    where
      c : ℕ
      c = pick k₀ q

      with_third : {k : ℕ → ℤ} → Allowed a b left k → (i : ℕ) → i < length a + length b → k i *ℤ C c ≡ k c *ℤ C i
      with_third h i x = in_ratio h i c (rw six at x) (B.order.there k₀)

  pub must_fit : TouchIn a b left → Fits (length a) (a ++ b) left s e q (volumes v)
  must_fit t = record {
    way = le_z (pos 0) (total one C a);
    out = record { out = λ k h. sided_zero (side (pick k q)) (sym (C_other k) ∙ none k (sym (pick_each left q k) ∙ h)) };
    start = rw (← C_start) (way s B.order.first);
    end = rw (← C_end) (way e B.order.second);
    others = λ k. rw (← C_other k) (way (pick k q) (B.order.there k));
  }
    where
      proportion : (i j : ℕ) → i < 6 → j < 6 → pos (t.w i) *ℤ C j ≡ pos (t.w j) *ℤ C i
      proportion = in_ratio (record { level = t.level; out = λ i h g. ap pos (t.out i h g) })

      way : (i : ℕ) → i < 6 → pos 0 ≤ℤ sided (le_z (pos 0) (total one C a)) (C i)
      way = one_way_lem a t.w C (omega (arith, six)) proportion t.some (pick k₀ q) (B.order.there k₀) C_some

      none : (k : Place) → left (pick k q) ≡ false → C (pick k q) ≡ pos 0
      none k h = gone_out a t.w C (omega (arith, six)) proportion t.some (pick k₀ q) (B.order.there k₀) C_some (pick k q) (B.order.there k)
          (t.out (pick k q) (rw six (B.order.there k)) h)

  pub may_touch : Preferred (a ++ b) left s e q → Fits (length a) (a ++ b) left s e q (volumes v) → TouchIn a b left
  may_touch p f = record {
    w = λ i. nat_abs (C i);
    level = level;
    some = some_weight (λ i. nat_abs (C i)) level (pick k₀ q) (rw six (B.order.there k₀)) (nat_abs_positive (C (pick k₀ q)) C_some);
    out = λ i h o. ap nat_abs (ap (sided (side i)) (none_out B.order p S.number S.remains N_none i (rw six at h) o) ∙ zero_sided (side i));
  }
    where
      N_none : (k : Place) → left (pick k q) ≡ false → S.number (pick k q) ≡ pos 0
      N_none k h = sym (pick_each S.number q k) ∙ ap (pick k) S.four ∙ f.out.out k (pick_each left q k ∙ h)

      N_out : NoneOut (each left q) (each S.number q)
      N_out = record { out = λ k h. ap (pick k) S.four ∙ f.out.out k h }

      one_sign_lem : (i : ℕ) → i < 6 → pos 0 ≤ℤ sided f.way (C i)
      one_sign_lem i h = at (B.order.stands i h)
        where
          at : Stands s e q i → pos 0 ≤ℤ sided f.way (C i)
          at (at_first e) = rw (e, C_start) f.start
          at (at_second e) = rw (e, C_end) f.end
          at (among k e) = rw (e, C_other k) (f.others k)

      level : Level a b (λ i. pos (nat_abs (C i)))
      level = level_same (λ i. pos (nat_abs (C i))) (λ i h. way_size f.way (C i) (one_sign_lem i (rw six at h)))
          (level_times (unit f.way) (level_signed a b
          (nought_by B S.number S.remains (sym (I.alike (each S.number q) N_out) ∙ ap (λ n. weigh n v) S.four ∙ balance v))))
