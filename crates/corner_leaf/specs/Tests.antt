-- What the tests of the candidate's numbers mean: 0 where they have to be, and of one sign.
use Rattle.std.specs.Prelude.{◌≡◌, refl, ◌≢◌, ◌↔◌, ◌⊎◌, Bool, true, false, not, cond, ◌&&◌, ◌||◌, ℕ, zero, suc, T, ℤ, pos, negsuc, neg_ℤ, ◌≤ℤ◌}
use Rattle.std.proofs.Common.{sym, ◌∙◌, ap, subst, inl, inr, ⊎_elim}
use Rattle.std.proofs.Math.Dec.{leb-zero, leb-suc-zero}
use Rattle.std.proofs.Math.IntN.{neg_ℤ-neg_ℤ}
use Rattle.std.specs.Int.Signed.{le_z}
use Rattle.std.proofs.Math.Facts.{and_yes, yes_and}
use Rattle.whole.specs.Signs.{sgn, is_nought, is_nought_is, nought_is, zero_test}
use Rattle.whole.specs.Cramer.{Four, each, Place, p0, p1, p2, p3, pick}
use Rattle.exact_signs.specs.OneWay.{not_below, all_not_below, is_zero, zero_but}
use Rattle.corner_laws.specs.Signed.{sided}
use Rattle.corner_laws.specs.Filled.{NoneOut}
use Rattle.corner_leaf.specs.Answer.{same_bool}

-- ---- not below 0

not_below_lem : (up : Bool) (z : ℤ) → (pos 0 ≤ℤ sided up z) ↔ T (not_below up z)
unfolding sided
not_below_lem true z = (λ h. h.le, λ t. record { le = t })
not_below_lem false z = (λ h. to z h.le, λ t. record { le = from z t })
  where
    to : (z : ℤ) → T (le_z (pos 0) (neg_ℤ z)) → T (le_z z (pos 0))
    to (pos zero) t = tt
    to (pos (suc n)) t = absurd t
    to (negsuc n) t = tt

    from : (z : ℤ) → T (le_z z (pos 0)) → T (le_z (pos 0) (neg_ℤ z))
    from (pos zero) t = tt
    from (pos (suc n)) t = absurd (subst T (leb-suc-zero n) t)
    from (negsuc n) t = subst T (sym (leb-zero (suc n))) tt

both_ways : (way side : Bool) (z : ℤ) → sided way (sided side z) ≡ sided (same_bool way side) z
unfolding sided
both_ways true side z = refl
both_ways false true z = refl
both_ways false false z = neg_ℤ-neg_ℤ z

turned : (side : Bool) (z : ℤ) → sided side (neg_ℤ z) ≡ sided (not side) z
unfolding sided
turned true z = refl
turned false z = neg_ℤ-neg_ℤ z

same_not : (way side : Bool) → same_bool way (not side) ≡ not (same_bool way side)
same_not true side = refl
same_not false true = refl
same_not false false = refl

-- ---- all of one sign

pub record Along (way : Bool) (first : Four Bool) (s e : Bool) (n : Four ℤ) (starts ends : ℤ) : Type 0 where
  pub others : (k : Place) → pos 0 ≤ℤ sided way (sided (pick k first) (pick k n))
  pub start : pos 0 ≤ℤ sided way (sided s (neg_ℤ starts))
  pub end : pos 0 ≤ℤ sided way (sided e (neg_ℤ ends))

module _ (way : Bool) (first : Four Bool) (s e : Bool) (n : Four ℤ) (starts ends : ℤ) where
  abbrev turned_first : Four Bool
  turned_first = each (same_bool way) first

  one : (k : Place) → (pos 0 ≤ℤ sided way (sided (pick k first) (pick k n))) ↔ T (not_below (same_bool way (pick k first)) (pick k n))
  one k = rw (both_ways way (pick k first) (pick k n)) (not_below_lem (same_bool way (pick k first)) (pick k n))

  base : (side : Bool) (z : ℤ) → (pos 0 ≤ℤ sided way (sided side (neg_ℤ z))) ↔ T (not_below (not (same_bool way side)) z)
  base side z = rw (turned side z, both_ways way (not side) z, same_not way side) (not_below_lem (not (same_bool way side)) z)

  abbrev t : Place → Bool
  t k = not_below (same_bool way (pick k first)) (pick k n)

  abbrev t₄ : Bool
  t₄ = not_below (not (same_bool way s)) starts

  abbrev t₅ : Bool
  t₅ = not_below (not (same_bool way e)) ends

  pub along_is : Along way first s e n starts ends ↔ T (all_not_below turned_first (same_bool way s) (same_bool way e) n starts ends)
  along_is = (to, from)
    where
      to : Along way first s e n starts ends → T (all_not_below turned_first (same_bool way s) (same_bool way e) n starts ends)
      to h =
          yes_and (t p0 && t p1 && t p2 && t p3 && t₄) t₅
          (yes_and (t p0 && t p1 && t p2 && t p3) t₄
          (yes_and (t p0 && t p1 && t p2) (t p3)
          (yes_and (t p0 && t p1) (t p2)
          (yes_and (t p0) (t p1) ((one p0).0 (h.others p0)) ((one p1).0 (h.others p1)))
          ((one p2).0 (h.others p2)))
          ((one p3).0 (h.others p3)))
          ((base s starts).0 h.start))
          ((base e ends).0 h.end)

      from : T (all_not_below turned_first (same_bool way s) (same_bool way e) n starts ends) → Along way first s e n starts ends
      from h =
          let a = and_yes (t p0 && t p1 && t p2 && t p3 && t₄) t₅ h in
          let b = and_yes (t p0 && t p1 && t p2 && t p3) t₄ a.0 in
          let c = and_yes (t p0 && t p1 && t p2) (t p3) b.0 in
          let d = and_yes (t p0 && t p1) (t p2) c.0 in
          let f = and_yes (t p0) (t p1) d.0 in
          record { others = each_one f.0 f.1 d.1 c.1; start = (base s starts).1 b.1; end = (base e ends).1 a.1 }
        where
          each_one : T (t p0) → T (t p1) → T (t p2) → T (t p3) → (k : Place) → pos 0 ≤ℤ sided way (sided (pick k first) (pick k n))
          each_one a b c d p0 = (one p0).1 a
          each_one a b c d p1 = (one p1).1 b
          each_one a b c d p2 = (one p2).1 c
          each_one a b c d p3 = (one p3).1 d

-- ---- 0 where it has to be

zero_is : (z : ℤ) → T (is_zero z) ↔ (z ≡ pos 0)
zero_is z = (
  λ t. (nought_is z).0 ((is_nought_is (sgn z)).0 (subst T (zero_test z) t)),
  λ e. subst T (sym (zero_test z)) ((is_nought_is (sgn z)).1 ((nought_is z).1 e)),
)

module _ (c : Four Bool) (n : Four ℤ) where
  abbrev z : Place → Bool
  z k = pick k c || is_zero (pick k n)

  pub zero_but_is : T (zero_but c n) ↔ NoneOut c n
  zero_but_is = (to, from)
    where
      out : (c : Bool) (x : ℤ) → T (c || is_zero x) → c ≡ false → x ≡ pos 0
      out true x t e = absurd (subst T e tt)
      out false x t e = (zero_is x).0 t

      well : (c : Bool) (x : ℤ) → (c ≡ false → x ≡ pos 0) → T (c || is_zero x)
      well true x h = tt
      well false x h = (zero_is x).1 (h refl)

      to : T (zero_but c n) → NoneOut c n
      to h =
          let a = and_yes (z p0 && z p1 && z p2) (z p3) h in
          let b = and_yes (z p0 && z p1) (z p2) a.0 in
          let d = and_yes (z p0) (z p1) b.0 in
          record { out = λ k. out (pick k c) (pick k n) (each_one d.0 d.1 b.1 a.1 k) }
        where
          each_one : T (z p0) → T (z p1) → T (z p2) → T (z p3) → (k : Place) → T (z k)
          each_one a b c d p0 = a
          each_one a b c d p1 = b
          each_one a b c d p2 = c
          each_one a b c d p3 = d

      from : NoneOut c n → T (zero_but c n)
      from h =
          yes_and (z p0 && z p1 && z p2) (z p3) (yes_and (z p0 && z p1) (z p2) (yes_and (z p0) (z p1) (w p0) (w p1)) (w p2)) (w p3)
        where
          w : (k : Place) → T (z k)
          w k = well (pick k c) (pick k n) (h.out k)
