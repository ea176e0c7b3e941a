-- Where all volumes of the four slots are 0 in each of three turns of the axes, the differences of the corners left depend on one another
-- even without any one of them.
use Rattle.std.specs.Prelude.{◌≡◌, refl, ◌≢◌, Bool, true, false, ℕ, suc, ◌<◌, ℤ, pos, neg_ℤ, nat_abs}
use Rattle.std.proofs.Common.{sym, ◌∙◌, ap, inl, inr, ⊎_elim, arith}
use Rattle.std.proofs.Math.IntN.{neg_ℤ-neg_ℤ}
use Rattle.whole.specs.Vector.{Vector, origin, plus, scale, volume, axis}
use Rattle.whole.proofs.VectorLaws.{cycle, swap, swap_last}
use Rattle.whole.specs.Cramer.{Four, Place, p0, p1, p2, p3, pick, weigh, volumes}
use Rattle.corner_laws.specs.Filled.{slot, next, filled, NoneOut}
use Rattle.corner_laws.specs.Flat.{Two, Three, flat₂, flat₃, across, still, plus_none, none_plus, scale_none}

pub record Some (n : Four ℤ) : Type 0 where
  pub place : Place
  pub is : pick place n ≢ pos 0

-- numbers, not all 0, that combine the differences to the origin: 0 for the corners left out and for the corner `free`, which is left
pub record Dependent (l : Four Bool) (d : Four Vector) (free : Place) : Type 0 where
  pub n : Four ℤ
  pub flat : weigh n d ≡ origin
  pub out : NoneOut l n
  pub was : pick free l ≡ true
  pub none : pick free n ≡ pos 0
  pub some : Some n

-- all volumes are 0 in turn f
pub record Vanish (f : ℕ) (l : Four Bool) (d : Four Vector) : Type 0 where
  pub at : (k : Place) → pick k (volumes (filled f l d)) ≡ pos 0

abbrev flags : Bool → Bool → Bool → Bool → Four Bool
flags a b c d = record { v0 = a; v1 = b; v2 = c; v3 = d }

-- ---- three slots

one_some : pos 1 ≢ pos 0
one_some e = let k = ap nat_abs e in omega arith

unnegate : {z : ℤ} → neg_ℤ z ≡ pos 0 → z ≡ pos 0
unnegate {z} h = sym (neg_ℤ-neg_ℤ z) ∙ ap neg_ℤ h

-- numbers for three corners, 0 for those left out
record Combined (a b c : Bool) (u v w : Vector) : Type 0 where
  three : Three u v w
  first : a ≡ false → three.x ≡ pos 0
  second : b ≡ false → three.y ≡ pos 0
  third : c ≡ false → three.z ≡ pos 0

-- three vectors of which two depend on one another, or one is the origin
module _ (u v w : Vector) where
  abbrev pair₀₁ : Two u v → Three u v w
  pair₀₁ t = record { x = t.x; y = t.y; z = pos 0; is = plus_none _ _ (scale_none (pos 0) w refl) ∙ t.is; some = ⊎_elim inl (λ n. inr (inl n)) t.some }

  abbrev pair₀₂ : Two u w → Three u v w
  pair₀₂ t = record {
    x = t.x;
    y = pos 0;
    z = t.y;
    is = ap (λ (k : Vector). plus k (scale t.y w)) (plus_none (scale t.x u) _ (scale_none (pos 0) v refl)) ∙ t.is;
    some = ⊎_elim inl (λ n. inr (inr n)) t.some;
  }

  abbrev pair₁₂ : Two v w → Three u v w
  pair₁₂ t = record {
    x = pos 0;
    y = t.x;
    z = t.y;
    is = ap (λ (k : Vector). plus k (scale t.y w)) (none_plus _ (scale t.x v) (scale_none (pos 0) u refl)) ∙ t.is;
    some = ⊎_elim (λ n. inr (inl n)) (λ n. inr (inr n)) t.some;
  }

-- a vector that is the origin, before or behind another
abbrev ahead : (u v : Vector) → u ≡ origin → Two u v
ahead u v h = record { x = pos 1; y = pos 0; is = plus_none _ _ (scale_none (pos 0) v refl) ∙ ap (scale (pos 1)) h; some = inl one_some }

abbrev behind : (u v : Vector) → v ≡ origin → Two u v
behind u v h = record { x = pos 0; y = pos 1; is = none_plus _ _ (scale_none (pos 0) u refl) ∙ ap (scale (pos 1)) h; some = inr one_some }

true_false : {c : Bool} {A : Type 0} → c ≡ true → c ≡ false → A
true_false p q = let x : ◌≡◌ {A = ℕ} 0 1 = cc in absurd (omega arith)

-- two vectors and an axis, in three turns; one vector and two axes
by_cross : (u v : Vector) → ((f : ℕ) → f < 3 → volume u v (axis f) ≡ pos 0) → Two u v
by_cross u v h = flat₂ u v (across u v (h 0 (omega arith)) (h 1 (omega arith)) (h 2 (omega arith)))

by_still : (u : Vector) → ((f : ℕ) → f < 3 → volume u (axis f) (axis (suc f)) ≡ pos 0) → u ≡ origin
by_still u h = still u (h 0 (omega arith)) (h 1 (omega arith)) (h 2 (omega arith))

never : {A : Type 0} → volume (axis 0) (axis 1) (axis 2) ≡ pos 0 → A
unfolding volume axis
never e = absurd (one_some e)

combined : (a b c : Bool) (u v w : Vector) → ((f : ℕ) → f < 3 → volume (slot a u f) (slot b v (next a f)) (slot c w (next b (next a f))) ≡ pos 0) → Combined a b c u v w
unfolding slot next
combined true true true u v w h = record { three = flat₃ u v w (h 0 (omega arith)); first = true_false refl; second = true_false refl; third = true_false refl }
combined true true false u v w h = record { three = pair₀₁ u v w (by_cross u v h); first = true_false refl; second = true_false refl; third = λ o. refl }
combined true false true u v w h =
    record { three = pair₀₂ u v w (by_cross u w (λ f k. swap_last u w (axis f) ∙ ap neg_ℤ (h f k))); first = true_false refl; second = λ o. refl; third = true_false refl }
combined false true true u v w h =
    record { three = pair₁₂ u v w (by_cross v w (λ f k. sym (cycle (axis f) v w) ∙ h f k)); first = λ o. refl; second = true_false refl; third = true_false refl }
combined true false false u v w h =
    record { three = pair₀₁ u v w (ahead u v (by_still u h)); first = true_false refl; second = λ o. refl; third = λ o. refl }
combined false true false u v w h =
    record { three = pair₁₂ u v w (ahead v w (by_still v (λ f k. swap v (axis f) (axis (suc f)) ∙ ap neg_ℤ (h f k)))); first = λ o. refl; second = true_false refl; third = λ o. refl }
combined false false true u v w h =
    record { three = pair₀₂ u v w (behind u w (by_still w (λ f k. cycle w (axis f) (axis (suc f)) ∙ h f k))); first = λ o. refl; second = λ o. refl; third = true_false refl }
combined false false false u v w h = never (h 0 (omega arith))

-- ---- without one of the four

some_at : {n : Four ℤ} (k : Place) → pick k n ≢ pos 0 → Some n
some_at k h = record { place = k; is = h }

none_out : {a b c e : Bool} {n : Four ℤ} → (a ≡ false → n.v0 ≡ pos 0) → (b ≡ false → n.v1 ≡ pos 0) → (c ≡ false → n.v2 ≡ pos 0) → (e ≡ false → n.v3 ≡ pos 0)
    → NoneOut (flags a b c e) n
none_out {a} {b} {c} {e} {n} p q r s = record { out = at }
  where
    at : (k : Place) → pick k (flags a b c e) ≡ false → pick k n ≡ pos 0
    at p0 = p
    at p1 = q
    at p2 = r
    at p3 = s

module _ (d : Four Vector) where
  without₀ : {b c e : Bool} → Combined b c e d.v1 d.v2 d.v3 → Dependent (flags true b c e) d p0
  without₀ t = record {
    n = record { v0 = pos 0; v1 = t.three.x; v2 = t.three.y; v3 = t.three.z };
    flat =
        ap (λ (k : Vector). plus (plus k (scale t.three.y d.v2)) (scale t.three.z d.v3)) (none_plus _ (scale t.three.x d.v1) (scale_none (pos 0) d.v0 refl))
        ∙ t.three.is;
    out = none_out (λ o. refl) t.first t.second t.third;
    was = refl;
    none = refl;
    some = ⊎_elim (some_at p1) (⊎_elim (some_at p2) (some_at p3)) t.three.some;
  }

  without₁ : {a c e : Bool} → Combined a c e d.v0 d.v2 d.v3 → Dependent (flags a true c e) d p1
  without₁ t = record {
    n = record { v0 = t.three.x; v1 = pos 0; v2 = t.three.y; v3 = t.three.z };
    flat =
        ap (λ (k : Vector). plus (plus k (scale t.three.y d.v2)) (scale t.three.z d.v3)) (plus_none (scale t.three.x d.v0) _ (scale_none (pos 0) d.v1 refl))
        ∙ t.three.is;
    out = none_out t.first (λ o. refl) t.second t.third;
    was = refl;
    none = refl;
    some = ⊎_elim (some_at p0) (⊎_elim (some_at p2) (some_at p3)) t.three.some;
  }

  without₂ : {a b e : Bool} → Combined a b e d.v0 d.v1 d.v3 → Dependent (flags a b true e) d p2
  without₂ t = record {
    n = record { v0 = t.three.x; v1 = t.three.y; v2 = pos 0; v3 = t.three.z };
    flat =
        ap (λ (k : Vector). plus k (scale t.three.z d.v3)) (plus_none (plus (scale t.three.x d.v0) (scale t.three.y d.v1)) _ (scale_none (pos 0) d.v2 refl))
        ∙ t.three.is;
    out = none_out t.first t.second (λ o. refl) t.third;
    was = refl;
    none = refl;
    some = ⊎_elim (some_at p0) (⊎_elim (some_at p1) (some_at p3)) t.three.some;
  }

  without₃ : {a b c : Bool} → Combined a b c d.v0 d.v1 d.v2 → Dependent (flags a b c true) d p3
  without₃ t = record {
    n = record { v0 = t.three.x; v1 = t.three.y; v2 = t.three.z; v3 = pos 0 };
    flat = plus_none _ _ (scale_none (pos 0) d.v3 refl) ∙ t.three.is;
    out = none_out t.first t.second t.third (λ o. refl);
    was = refl;
    none = refl;
    some = ⊎_elim (some_at p0) (⊎_elim (some_at p1) (some_at p2)) t.three.some;
  }

-- without any one that is left
pub dependent_at : (a b c e : Bool) (d : Four Vector) → ((f : ℕ) → f < 3 → Vanish f (flags a b c e) d) → (free : Place) → pick free (flags a b c e) ≡ true
    → Dependent (flags a b c e) d free
unfolding next
dependent_at true b c e d h p0 was = without₀ d (combined b c e d.v1 d.v2 d.v3 (λ f k. (h f k).at p0))
dependent_at a true c e d h p1 was = without₁ d (combined a c e d.v0 d.v2 d.v3 (λ f k. unnegate ((h f k).at p1)))
dependent_at a b true e d h p2 was = without₂ d (combined a b e d.v0 d.v1 d.v3 (λ f k. (h f k).at p2))
dependent_at a b c true d h p3 was = without₃ d (combined a b c d.v0 d.v1 d.v2 (λ f k. unnegate ((h f k).at p3)))
dependent_at false b c e d h p0 was = true_false was refl
dependent_at a false c e d h p1 was = true_false was refl
dependent_at a b false e d h p2 was = true_false was refl
dependent_at a b c false d h p3 was = true_false was refl

-- one is left: with none left the volumes are not all 0
pub some_left : (a b c e : Bool) (d : Four Vector) → ((f : ℕ) → f < 3 → Vanish f (flags a b c e) d) → (free : Place) × (pick free (flags a b c e) ≡ true)
unfolding slot next
some_left true b c e d h = (p0, refl)
some_left false true c e d h = (p1, refl)
some_left false false true e d h = (p2, refl)
some_left false false false true d h = (p3, refl)
some_left false false false false d h = never (unnegate ((h 0 (omega arith)).at p3))
