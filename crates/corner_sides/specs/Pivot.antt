-- Four vectors of a plane, and numbers that are not below 0 and combine them to the origin. Where three of the vectors lie strictly on one side of
-- the fourth, all four numbers are 0: the three have nothing to make up for what they add to that side.
use Rattle.std.specs.Prelude.{◌≡◌, refl, Bool, true, false, not, cond, ◌&&◌, ◌||◌, List, [], ◌∷◌, ◌+◌, T, ℤ, pos, negsuc, neg_ℤ, nat_abs, ◌+ℤ◌, ◌-ℤ◌, ◌*ℤ◌, ◌≤ℤ◌, ◌<ℤ◌}
use Rattle.std.proofs.Common.{sym, ◌∙◌, ap, subst, ⊎_elim, arith}
use Rattle.std.proofs.Math.IntN.{*ℤ_comm}
use Rattle.std.specs.Int.Signed.{lt_z}
use Rattle.std.proofs.Math.Facts.{and_yes, or_yes}
use Rattle.whole.specs.Quote.{quotes, ring, combine, times}
use Rattle.whole.specs.Order.{ord, le, lt, nn_mul}
use Rattle.whole.specs.Signs.{factor_zero}
use Rattle.whole.specs.Cramer.{Four, dot4, all}

-- which side of one vector another lies on: above 0 to the left, below 0 to the right
abbrev pub cross_of : ℤ → ℤ → ℤ → ℤ → ℤ
cross_of x y x' y' = x *ℤ y' -ℤ y *ℤ x'

-- strictly to the left, or strictly to the right
abbrev pub beyond : Bool → ℤ → Bool
beyond left z = cond left (lt_z (pos 0) z) (lt_z z (pos 0))

-- four numbers that are 0
pub record Nothing (m : Four ℤ) : Type 0 where
  pub is0 : m.v0 ≡ pos 0
  pub is1 : m.v1 ≡ pos 0
  pub is2 : m.v2 ≡ pos 0
  pub is3 : m.v3 ≡ pos 0

-- ---- on plain numbers

both_none : (a b : ℤ) → pos 0 ≤ℤ a → pos 0 ≤ℤ b → a +ℤ b ≡ pos 0 → (a ≡ pos 0) × (b ≡ pos 0)
both_none (pos n) (pos m) h k e = let z : n + m ≡ 0 = ap nat_abs e in (ap pos (omega arith), ap pos (omega arith))
both_none (pos n) (negsuc m) h k e = absurd k.le
both_none (negsuc n) b h k e = absurd h.le

plus_not_below : (a b : ℤ) → pos 0 ≤ℤ a → pos 0 ≤ℤ b → pos 0 ≤ℤ (a +ℤ b)
plus_not_below a b h k = le (a ∷ b ∷ []) (search quotes depth 40 fits 9000) (omega (arith, ord))

at_least : {c : ℤ} → pos 0 <ℤ c → pos 0 ≤ℤ c
at_least h = omega (arith, ord)

-- a number is 0 that a factor above 0 makes 0
by_factor : (c m : ℤ) → pos 0 <ℤ c → c *ℤ m ≡ pos 0 → m ≡ pos 0
by_factor c m h e = factor_zero c m e (λ z. (subst (λ c. pos 0 <ℤ c) z h).lt)

module _ (m₀ m₁ m₂ m₃ x₀ x₁ x₂ x₃ y₀ y₁ y₂ y₃ : ℤ) where
  abbrev letters : List ℤ
  letters = m₀ ∷ m₁ ∷ m₂ ∷ m₃ ∷ x₀ ∷ x₁ ∷ x₂ ∷ x₃ ∷ y₀ ∷ y₁ ∷ y₂ ∷ y₃ ∷ []

  abbrev sum : ℤ → ℤ → ℤ → ℤ → ℤ
  sum z₀ z₁ z₂ z₃ = m₀ *ℤ z₀ +ℤ m₁ *ℤ z₁ +ℤ m₂ *ℤ z₂ +ℤ m₃ *ℤ z₃

  module _ (hx : sum x₀ x₁ x₂ x₃ ≡ pos 0) (hy : sum y₀ y₁ y₂ y₃ ≡ pos 0) where
    -- what the three add to the side of the first
    beside : m₁ *ℤ cross_of x₀ y₀ x₁ y₁ +ℤ (m₂ *ℤ cross_of x₀ y₀ x₂ y₂ +ℤ m₃ *ℤ cross_of x₀ y₀ x₃ y₃) ≡ pos 0
    beside = combine letters (times x₀ hy ∷ times (neg_ℤ y₀) hx ∷ []) (search quotes depth 60 fits 90000) refl

    -- with two of them 0, what the first adds to the side of the third
    beside_one : m₂ ≡ pos 0 → m₃ ≡ pos 0 → cross_of x₀ y₀ x₁ y₁ *ℤ m₀ ≡ pos 0
    beside_one h k =
        combine letters
        (times y₁ hx ∷ times (neg_ℤ x₁) hy ∷ times (neg_ℤ (cross_of x₂ y₂ x₁ y₁)) h ∷ times (neg_ℤ (cross_of x₃ y₃ x₁ y₁)) k ∷ [])
        (search quotes depth 60 fits 90000) refl

    module _ (n₁ : pos 0 ≤ℤ m₁) (n₂ : pos 0 ≤ℤ m₂) (n₃ : pos 0 ≤ℤ m₃) where
      -- three strictly to the left of the first
      pivot : pos 0 <ℤ cross_of x₀ y₀ x₁ y₁ → pos 0 <ℤ cross_of x₀ y₀ x₂ y₂ → pos 0 <ℤ cross_of x₀ y₀ x₃ y₃
          → (m₀ ≡ pos 0) × (m₁ ≡ pos 0) × (m₂ ≡ pos 0) × (m₃ ≡ pos 0)
      pivot c₁ c₂ c₃ =
          let p₂ = nn_mul m₂ (cross_of x₀ y₀ x₂ y₂) n₂ (at_least c₂) in
          let p₃ = nn_mul m₃ (cross_of x₀ y₀ x₃ y₃) n₃ (at_least c₃) in
          let (z₁, z) = both_none (m₁ *ℤ cross_of x₀ y₀ x₁ y₁) (m₂ *ℤ cross_of x₀ y₀ x₂ y₂ +ℤ m₃ *ℤ cross_of x₀ y₀ x₃ y₃) (nn_mul m₁ (cross_of x₀ y₀ x₁ y₁) n₁ (at_least c₁)) (plus_not_below (m₂ *ℤ cross_of x₀ y₀ x₂ y₂) (m₃ *ℤ cross_of x₀ y₀ x₃ y₃) p₂ p₃) beside in
          let (z₂, z₃) = both_none (m₂ *ℤ cross_of x₀ y₀ x₂ y₂) (m₃ *ℤ cross_of x₀ y₀ x₃ y₃) p₂ p₃ z in
          let e₂ = none m₂ (cross_of x₀ y₀ x₂ y₂) c₂ z₂ in
          let e₃ = none m₃ (cross_of x₀ y₀ x₃ y₃) c₃ z₃ in
          (by_factor (cross_of x₀ y₀ x₁ y₁) m₀ c₁ (beside_one e₂ e₃), none m₁ (cross_of x₀ y₀ x₁ y₁) c₁ z₁, e₂, e₃)
        where
          none : (m c : ℤ) → pos 0 <ℤ c → m *ℤ c ≡ pos 0 → m ≡ pos 0
          none m c h e = by_factor c m h (*ℤ_comm c m ∙ e)

-- ---- to the left or to the right

other_way : (z : ℤ) → z <ℤ pos 0 → pos 0 <ℤ neg_ℤ z
other_way z h = lt (z ∷ []) (search quotes depth 40 fits 9000) (omega (arith, ord))

other_back : (z : ℤ) → pos 0 <ℤ z → neg_ℤ z <ℤ pos 0
other_back z h = lt (z ∷ []) (search quotes depth 40 fits 9000) (omega (arith, ord))

-- seen from the other vector a side is the other one
back : (x y x' y' : ℤ) → cross_of x' y' x y ≡ neg_ℤ (cross_of x y x' y')
back x y x' y' = ring (x ∷ y ∷ x' ∷ y' ∷ []) (search quotes depth 40 fits 9000) refl

mirrored : (x y x' y' : ℤ) → cross_of y x y' x' ≡ neg_ℤ (cross_of x y x' y')
mirrored x y x' y' = ring (x ∷ y ∷ x' ∷ y' ∷ []) (search quotes depth 40 fits 9000) refl

flipped : (left : Bool) (x y x' y' : ℤ) → T (beyond (not left) (cross_of x y x' y')) → T (beyond left (cross_of x' y' x y))
flipped true x y x' y' t = (subst (λ z. pos 0 <ℤ z) (sym (back x y x' y')) (other_way (cross_of x y x' y') (record { lt = t }))).lt
flipped false x y x' y' t = (subst (λ z. z <ℤ pos 0) (sym (back x y x' y')) (other_back (cross_of x y x' y') (record { lt = t }))).lt

module _ (left : Bool) (m₀ m₁ m₂ m₃ x₀ x₁ x₂ x₃ y₀ y₁ y₂ y₃ : ℤ) (hx : m₀ *ℤ x₀ +ℤ m₁ *ℤ x₁ +ℤ m₂ *ℤ x₂ +ℤ m₃ *ℤ x₃ ≡ pos 0) (hy : m₀ *ℤ y₀ +ℤ m₁ *ℤ y₁ +ℤ m₂ *ℤ y₂ +ℤ m₃ *ℤ y₃ ≡ pos 0) (n₁ : pos 0 ≤ℤ m₁) (n₂ : pos 0 ≤ℤ m₂) (n₃ : pos 0 ≤ℤ m₃) where
  pivot_way : T (beyond left (cross_of x₀ y₀ x₁ y₁)) → T (beyond left (cross_of x₀ y₀ x₂ y₂)) → T (beyond left (cross_of x₀ y₀ x₃ y₃))
      → (m₀ ≡ pos 0) × (m₁ ≡ pos 0) × (m₂ ≡ pos 0) × (m₃ ≡ pos 0)
  pivot_way = go left
    where
      right : (x y x' y' : ℤ) → T (lt_z (cross_of x y x' y') (pos 0)) → pos 0 <ℤ cross_of y x y' x'
      right x y x' y' t = subst (λ z. pos 0 <ℤ z) (sym (mirrored x y x' y')) (other_way (cross_of x y x' y') (record { lt = t }))

      go : (c : Bool) → T (beyond c (cross_of x₀ y₀ x₁ y₁)) → T (beyond c (cross_of x₀ y₀ x₂ y₂)) → T (beyond c (cross_of x₀ y₀ x₃ y₃))
          → (m₀ ≡ pos 0) × (m₁ ≡ pos 0) × (m₂ ≡ pos 0) × (m₃ ≡ pos 0)
      go true s t u = pivot m₀ m₁ m₂ m₃ x₀ x₁ x₂ x₃ y₀ y₁ y₂ y₃ hx hy n₁ n₂ n₃ (record { lt = s }) (record { lt = t }) (record { lt = u })
      go false s t u =
          pivot m₀ m₁ m₂ m₃ y₀ y₁ y₂ y₃ x₀ x₁ x₂ x₃ hy hx n₁ n₂ n₃ (right x₀ y₀ x₁ y₁ s) (right x₀ y₀ x₂ y₂ t) (right x₀ y₀ x₃ y₃ u)

-- ---- any of the four as the one that the others are seen from

-- the six sides, and whether from one of the four vectors the three others are all to the left, or all to the right
pub record Sides : Type 0 where
  pub ab : ℤ
  pub ac : ℤ
  pub ad : ℤ
  pub bc : ℤ
  pub bd : ℤ
  pub cd : ℤ

abbrev pub sides_of : Four ℤ → Four ℤ → Sides
sides_of x y = record {
  ab = cross_of x.v0 y.v0 x.v1 y.v1;
  ac = cross_of x.v0 y.v0 x.v2 y.v2;
  ad = cross_of x.v0 y.v0 x.v3 y.v3;
  bc = cross_of x.v1 y.v1 x.v2 y.v2;
  bd = cross_of x.v1 y.v1 x.v3 y.v3;
  cd = cross_of x.v2 y.v2 x.v3 y.v3;
}

-- the three others, seen from each
abbrev pub from_a : Bool → Sides → Bool
from_a left s = beyond left s.ab && beyond left s.ac && beyond left s.ad

abbrev pub from_b : Bool → Sides → Bool
from_b left s = beyond (not left) s.ab && beyond left s.bc && beyond left s.bd

abbrev pub from_c : Bool → Sides → Bool
from_c left s = beyond (not left) s.ac && beyond (not left) s.bc && beyond left s.cd

abbrev pub from_d : Bool → Sides → Bool
from_d left s = beyond (not left) s.ad && beyond (not left) s.bd && beyond (not left) s.cd

abbrev pub all_beyond : Bool → Sides → Bool
all_beyond left s = from_a left s || from_b left s || from_c left s || from_d left s

abbrev pub on_one_side : Sides → Bool
on_one_side s = all_beyond true s || all_beyond false s

module _ (m x y : Four ℤ) (hx : dot4 m x ≡ pos 0) (hy : dot4 m y ≡ pos 0) (n₀ : pos 0 ≤ℤ m.v0) (n₁ : pos 0 ≤ℤ m.v1) (n₂ : pos 0 ≤ℤ m.v2) (n₃ : pos 0 ≤ℤ m.v3) where
  -- each sum with another of the four in front
  second_first : (m₀ m₁ m₂ m₃ z₀ z₁ z₂ z₃ : ℤ) → m₀ *ℤ z₀ +ℤ m₁ *ℤ z₁ +ℤ m₂ *ℤ z₂ +ℤ m₃ *ℤ z₃ ≡ pos 0 → m₁ *ℤ z₁ +ℤ m₀ *ℤ z₀ +ℤ m₂ *ℤ z₂ +ℤ m₃ *ℤ z₃ ≡ pos 0
  second_first m₀ m₁ m₂ m₃ z₀ z₁ z₂ z₃ h = combine (m₀ ∷ m₁ ∷ m₂ ∷ m₃ ∷ z₀ ∷ z₁ ∷ z₂ ∷ z₃ ∷ []) (times (pos 1) h ∷ []) (search quotes depth 60 fits 90000) refl

  third_first : (m₀ m₁ m₂ m₃ z₀ z₁ z₂ z₃ : ℤ) → m₀ *ℤ z₀ +ℤ m₁ *ℤ z₁ +ℤ m₂ *ℤ z₂ +ℤ m₃ *ℤ z₃ ≡ pos 0 → m₂ *ℤ z₂ +ℤ m₀ *ℤ z₀ +ℤ m₁ *ℤ z₁ +ℤ m₃ *ℤ z₃ ≡ pos 0
  third_first m₀ m₁ m₂ m₃ z₀ z₁ z₂ z₃ h = combine (m₀ ∷ m₁ ∷ m₂ ∷ m₃ ∷ z₀ ∷ z₁ ∷ z₂ ∷ z₃ ∷ []) (times (pos 1) h ∷ []) (search quotes depth 60 fits 90000) refl

  fourth_first : (m₀ m₁ m₂ m₃ z₀ z₁ z₂ z₃ : ℤ) → m₀ *ℤ z₀ +ℤ m₁ *ℤ z₁ +ℤ m₂ *ℤ z₂ +ℤ m₃ *ℤ z₃ ≡ pos 0 → m₃ *ℤ z₃ +ℤ m₀ *ℤ z₀ +ℤ m₁ *ℤ z₁ +ℤ m₂ *ℤ z₂ ≡ pos 0
  fourth_first m₀ m₁ m₂ m₃ z₀ z₁ z₂ z₃ h = combine (m₀ ∷ m₁ ∷ m₂ ∷ m₃ ∷ z₀ ∷ z₁ ∷ z₂ ∷ z₃ ∷ []) (times (pos 1) h ∷ []) (search quotes depth 60 fits 90000) refl

  module _ (left : Bool) where
    abbrev side : (p q : Four ℤ → ℤ) → ℤ
    side p q = cross_of (p x) (p y) (q x) (q y)

    abbrev a : Four ℤ → ℤ
    a f = f.v0

    abbrev b : Four ℤ → ℤ
    b f = f.v1

    abbrev c : Four ℤ → ℤ
    c f = f.v2

    abbrev d : Four ℤ → ℤ
    d f = f.v3

    abbrev s : Sides
    s = sides_of x y

    three : (u v w : Bool) → T (u && v && w) → T u × T v × T w
    three u v w t = let (p, r) = and_yes (u && v) w t in let (k, l) = and_yes u v p in (k, l, r)

    turn : (p q : Four ℤ → ℤ) → T (beyond (not left) (side p q)) → T (beyond left (side q p))
    turn p q = flipped left (p x) (p y) (q x) (q y)

    from_a_lem : T (from_a left s) → Nothing m
    from_a_lem t =
        let (t₁, t₂, t₃) = three (beyond left s.ab) (beyond left s.ac) (beyond left s.ad) t in
        let (z₀, z₁, z₂, z₃) = pivot_way left (a m) (b m) (c m) (d m) (a x) (b x) (c x) (d x) (a y) (b y) (c y) (d y) hx hy n₁ n₂ n₃ t₁ t₂ t₃ in
        record { is0 = z₀; is1 = z₁; is2 = z₂; is3 = z₃ }

    from_b_lem : T (from_b left s) → Nothing m
    from_b_lem t =
        let (t₁, t₂, t₃) = three (beyond (not left) s.ab) (beyond left s.bc) (beyond left s.bd) t in
        let (z₁, z₀, z₂, z₃) = pivot_way left (b m) (a m) (c m) (d m) (b x) (a x) (c x) (d x) (b y) (a y) (c y) (d y) (second_first (a m) (b m) (c m) (d m) (a x) (b x) (c x) (d x) hx) (second_first (a m) (b m) (c m) (d m) (a y) (b y) (c y) (d y) hy) n₀ n₂ n₃ (turn a b t₁) t₂ t₃ in
        record { is0 = z₀; is1 = z₁; is2 = z₂; is3 = z₃ }

    from_c_lem : T (from_c left s) → Nothing m
    from_c_lem t =
        let (t₁, t₂, t₃) = three (beyond (not left) s.ac) (beyond (not left) s.bc) (beyond left s.cd) t in
        let (z₂, z₀, z₁, z₃) = pivot_way left (c m) (a m) (b m) (d m) (c x) (a x) (b x) (d x) (c y) (a y) (b y) (d y) (third_first (a m) (b m) (c m) (d m) (a x) (b x) (c x) (d x) hx) (third_first (a m) (b m) (c m) (d m) (a y) (b y) (c y) (d y) hy) n₀ n₁ n₃ (turn a c t₁) (turn b c t₂) t₃ in
        record { is0 = z₀; is1 = z₁; is2 = z₂; is3 = z₃ }

    from_d_lem : T (from_d left s) → Nothing m
    from_d_lem t =
        let (t₁, t₂, t₃) = three (beyond (not left) s.ad) (beyond (not left) s.bd) (beyond (not left) s.cd) t in
        let (z₃, z₀, z₁, z₂) = pivot_way left (d m) (a m) (b m) (c m) (d x) (a x) (b x) (c x) (d y) (a y) (b y) (c y) (fourth_first (a m) (b m) (c m) (d m) (a x) (b x) (c x) (d x) hx) (fourth_first (a m) (b m) (c m) (d m) (a y) (b y) (c y) (d y) hy) n₀ n₁ n₂ (turn a d t₁) (turn b d t₂) (turn c d t₃) in
        record { is0 = z₀; is1 = z₁; is2 = z₂; is3 = z₃ }

    from_any : T (all_beyond left s) → Nothing m
    from_any t =
        ⊎_elim
        (λ t. ⊎_elim (λ t. ⊎_elim from_a_lem from_b_lem (or_yes (from_a left s) (from_b left s) t)) from_c_lem (or_yes (from_a left s || from_b left s) (from_c left s) t))
        from_d_lem
        (or_yes (from_a left s || from_b left s || from_c left s) (from_d left s) t)

  pub none_on_one_side : T (on_one_side (sides_of x y)) → Nothing m
  none_on_one_side t = ⊎_elim (from_any true) (from_any false) (or_yes (all_beyond true (sides_of x y)) (all_beyond false (sides_of x y)) t)
