-- Six points that lie across an axis: of three vectors without a coordinate along it the volume is 0. So where one corner at most is left out, the
-- turns that put another axis into its slot say nothing, and the turn with this axis is all three. With no corner left out no axis stands in a slot,
-- and one turn is as good as another, whatever the points.
use Prim.Native.Nat.{ℕ, zero, suc, ◌+◌, ◌<◌}
use Rattle.std.proofs.Common.{add-zero, arith, ◌∙◌, ap, subst, ltb→lt}
use Rattle.std.proofs.Math.Path.{◌≡◌, refl, sym}
use Rattle.std.specs.Prelude.{Bool, ◌&&◌, List, [], ◌∷◌, ltb, pos, neg_ℤ, ◌-ℤ◌, ◌*ℤ◌, get_or, ◌≤ℤ◌}
use Rattle.std.proofs.Math.Bool.{true, false, cond}
use Rattle.std.proofs.Math.Dec.{T}
use Rattle.std.proofs.Math.IntN.{ℤ}
use Rattle.std.specs.Int.Signed.{le_z}
use Rattle.whole.specs.Order.{ord}
use Rattle.std.proofs.Math.Facts.{and_yes}
use Rattle.whole.specs.Laws.{minus_self}
use Rattle.whole.specs.Vector.{Vector, minus, volume, axis}
use Rattle.whole.specs.VectorLaws.{coordinates}
use Rattle.whole.specs.Quote.{quotes, combine, times}
use Rattle.whole.specs.Cramer.{Four, each, volumes, Place, p0, p1, p2, p3, pick}
use Rattle.exact.specs.Places.{place_at, along}
use Rattle.exact_signs.specs.OneWay.{zero_but}
use Rattle.corner_laws.specs.Others.{others_of}
use Rattle.corner_laws.specs.Slots.{pick_each}
use Rattle.corner_laws.specs.Filled.{slot, next, filled}
use Rattle.corner_laws.specs.Dependent.{Vanish}
use Rattle.corner_leaf.specs.declared.SixPoints.{SixPoints}
use Rattle.corner_leaf.specs.declared.Leaf.TheVariants.{Yes, No, Open}
use Rattle.corner_leaf.specs.Points.{offset, at_end, is_left}
use Rattle.corner_leaf.specs.Answer.{none, fitting, judged_in, judged_open, turn_of, seen_from, alike_at, level_along, Across, one_turn}
use Rattle.corner_leaf.specs.Tests.{zero_but_is}

-- ---- vectors without a coordinate along an axis

abbrev minor : ℤ → ℤ → ℤ → ℤ → ℤ
minor a b c d = a *ℤ d -ℤ b *ℤ c

module _ (u v w : Vector) where
  abbrev letters : List ℤ
  letters = coordinates (u ∷ v ∷ w ∷ [])

  flat_volume : (f : ℕ) → along f u ≡ pos 0 → along f v ≡ pos 0 → along f w ≡ pos 0 → volume u v w ≡ pos 0
  unfolding volume
  flat_volume zero p q r = combine letters
      (times (minor v.y v.z w.y w.z) p ∷ times (neg_ℤ (minor u.y u.z w.y w.z)) q ∷ times (minor u.y u.z v.y v.z) r ∷ [])
      (search quotes depth 60 fits 90000) refl
  flat_volume (suc zero) p q r = combine letters
      (times (neg_ℤ (minor v.x v.z w.x w.z)) p ∷ times (minor u.x u.z w.x w.z) q ∷ times (neg_ℤ (minor u.x u.z v.x v.z)) r ∷ [])
      (search quotes depth 60 fits 90000) refl
  flat_volume (suc (suc f)) p q r = combine letters
      (times (minor v.x v.y w.x w.y) p ∷ times (neg_ℤ (minor u.x u.y w.x w.y)) q ∷ times (minor u.x u.y v.x v.y) r ∷ [])
      (search quotes depth 60 fits 90000) refl

flat_four : (f : ℕ) (v : Four Vector) → along f v.v0 ≡ pos 0 → along f v.v1 ≡ pos 0 → along f v.v2 ≡ pos 0 → along f v.v3 ≡ pos 0
    → (k : Place) → pick k (volumes v) ≡ pos 0
flat_four f v h₀ h₁ h₂ h₃ p0 = flat_volume v.v1 v.v2 v.v3 f h₁ h₂ h₃
flat_four f v h₀ h₁ h₂ h₃ p1 = ap neg_ℤ (flat_volume v.v0 v.v2 v.v3 f h₀ h₂ h₃)
flat_four f v h₀ h₁ h₂ h₃ p2 = flat_volume v.v0 v.v1 v.v3 f h₀ h₁ h₃
flat_four f v h₀ h₁ h₂ h₃ p3 = ap neg_ℤ (flat_volume v.v0 v.v1 v.v2 f h₀ h₁ h₂)

next_axis : (f : ℕ) → f < 3 → (along f (axis (f + 1)) ≡ pos 0) × (along f (axis (f + 2)) ≡ pos 0)
unfolding axis
next_axis zero h = (refl, refl)
next_axis (suc zero) h = (refl, refl)
next_axis (suc (suc zero)) h = (refl, refl)
next_axis (suc (suc (suc f))) h = absurd (omega arith)

-- ---- so another turn says nothing

never : true ≡ false → ⊥
never e = subst T e tt

across_it : (f : ℕ) → ltb f 3 ≡ true → f < 3
across_it f o = ltb→lt f 3 (subst T (sym o) tt)

quiet : (a b c e : Bool) (d : Four Vector) (f g : ℕ) → one_turn (record { v0 = a; v1 = b; v2 = c; v3 = e }) f ≡ true
    → (f < 3 → (k : Place) → along f (pick k d) ≡ pos 0) → (f < 3 → along f (axis g) ≡ pos 0)
    → Vanish f (record { v0 = a; v1 = b; v2 = c; v3 = e }) d → Vanish g (record { v0 = a; v1 = b; v2 = c; v3 = e }) d
unfolding slot next
quiet true true true true d f g o h x v = record { at = λ k. v.at k }
quiet true true true false d f g o h x v =
    let l = across_it f o in record { at = flat_four f (record { v0 = d.v0; v1 = d.v1; v2 = d.v2; v3 = axis g }) (h l p0) (h l p1) (h l p2) (x l) }
quiet true true false true d f g o h x v =
    let l = across_it f o in record { at = flat_four f (record { v0 = d.v0; v1 = d.v1; v2 = axis g; v3 = d.v3 }) (h l p0) (h l p1) (x l) (h l p3) }
quiet true false true true d f g o h x v =
    let l = across_it f o in record { at = flat_four f (record { v0 = d.v0; v1 = axis g; v2 = d.v2; v3 = d.v3 }) (h l p0) (x l) (h l p2) (h l p3) }
quiet false true true true d f g o h x v =
    let l = across_it f o in record { at = flat_four f (record { v0 = axis g; v1 = d.v1; v2 = d.v2; v3 = d.v3 }) (x l) (h l p1) (h l p2) (h l p3) }
quiet true true false false d f g o h x v = absurd (never (sym o))
quiet true false true false d f g o h x v = absurd (never (sym o))
quiet true false false e d f g o h x v = absurd (never (sym o))
quiet false true true false d f g o h x v = absurd (never (sym o))
quiet false true false e d f g o h x v = absurd (never (sym o))
quiet false false c e d f g o h x v = absurd (never (sym o))

-- ---- points that lie across an axis are seen without a coordinate along it

alike_is : (ps : List ℤ) (i j : ℕ) → T (alike_at ps i j) → get_or ps i (pos 0) ≡ get_or ps j (pos 0)
alike_is ps i j t =
    let r = and_yes (le_z (get_or ps i (pos 0)) (get_or ps j (pos 0))) (le_z (get_or ps j (pos 0)) (get_or ps i (pos 0))) t in
    both_ways (get_or ps i (pos 0)) (get_or ps j (pos 0)) (record { le = r.0 }) (record { le = r.1 })
  where
    both_ways : (a b : ℤ) → a ≤ℤ b → b ≤ℤ a → a ≡ b
    both_ways a b h k = omega (arith, ord)

place_along : (f : ℕ) → f < 3 → (ps : List ℤ) (o : ℕ) → along f (place_at ps o) ≡ get_or ps (o + f) (pos 0)
place_along zero h ps o = ap (λ n. get_or ps n (pos 0)) (sym (add-zero o))
place_along (suc zero) h ps o = refl
place_along (suc (suc zero)) h ps o = refl
place_along (suc (suc (suc f))) h ps o = absurd (omega arith)

minus_along : (f : ℕ) (a b : Vector) → along f (minus a b) ≡ along f a -ℤ along f b
minus_along zero a b = refl
minus_along (suc zero) a b = refl
minus_along (suc (suc f)) a b = refl

module _ (ps : List ℤ) (six : SixPoints) (f : ℕ) (few : f < 3) (level : level_along ps six.at f ≡ true) where
  abbrev alike : ℕ → Bool
  alike i = alike_at ps (offset six 0 + f) (offset six i + f)

  all_alike : (i : ℕ) → i < 6 → get_or ps (offset six 0 + f) (pos 0) ≡ get_or ps (offset six i + f) (pos 0)
  all_alike i h =
      let (r₄, t₅) = and_yes (alike 1 && alike 2 && alike 3 && alike 4) (alike 5) (subst T (sym level) tt) in
      let (r₃, t₄) = and_yes (alike 1 && alike 2 && alike 3) (alike 4) r₄ in
      let (r₂, t₃) = and_yes (alike 1 && alike 2) (alike 3) r₃ in
      let (t₁, t₂) = and_yes (alike 1) (alike 2) r₂ in
      go t₁ t₂ t₃ t₄ t₅ i h
    where
      go : T (alike 1) → T (alike 2) → T (alike 3) → T (alike 4) → T (alike 5) → (i : ℕ) → i < 6 → get_or ps (offset six 0 + f) (pos 0) ≡ get_or ps (offset six i + f) (pos 0)
      go t₁ t₂ t₃ t₄ t₅ zero h = refl
      go t₁ t₂ t₃ t₄ t₅ (suc zero) h = alike_is ps _ _ t₁
      go t₁ t₂ t₃ t₄ t₅ (suc (suc zero)) h = alike_is ps _ _ t₂
      go t₁ t₂ t₃ t₄ t₅ (suc (suc (suc zero))) h = alike_is ps _ _ t₃
      go t₁ t₂ t₃ t₄ t₅ (suc (suc (suc (suc zero)))) h = alike_is ps _ _ t₄
      go t₁ t₂ t₃ t₄ t₅ (suc (suc (suc (suc (suc zero))))) h = alike_is ps _ _ t₅
      go t₁ t₂ t₃ t₄ t₅ (suc (suc (suc (suc (suc (suc i)))))) h = absurd (omega arith)

  at_level : (i : ℕ) → i < 6 → along f (place_at ps (offset six i)) ≡ get_or ps (offset six 0 + f) (pos 0)
  at_level i h = place_along f few ps (offset six i) ∙ sym (all_alike i h)

  seen_flat : (s e i : ℕ) → s < 6 → e < 6 → i < 6 → along f (seen_from ps six s e i) ≡ pos 0
  seen_flat s e i hs he h =
      minus_along f (place_at ps (offset six i)) (place_at ps (offset six (cond (at_end six i) e s)))
      ∙ minus_self (at_level i h ∙ sym (at_level (cond (at_end six i) e s) (base (at_end six i))))
    where
      base : (c : Bool) → cond c e s < 6
      base true = he
      base false = hs

-- ---- an open turn is one whose volumes are all 0

module _ (ps : List ℤ) (six : SixPoints) (left : List Bool) (s e : ℕ) where
  abbrev q : Four ℕ
  q = others_of s e

  abbrev seen : Four Vector
  seen = each (seen_from ps six s e) q

  abbrev lefts : Four Bool
  lefts = each (is_left left) q

  none_at : (k : Place) → pick k none ≡ false
  none_at p0 = refl
  none_at p1 = refl
  none_at p2 = refl
  none_at p3 = refl

  vanishes : (f : ℕ) → turn_of ps six left s e f ≡ Open → Vanish f lefts seen
  unfolding turn_of judged_in
  vanishes f o = go (zero_but none (volumes (filled f lefts seen))) (fitting six left s e q (volumes (filled f lefts seen))) refl o
    where
      go : (z t : Bool) → zero_but none (volumes (filled f lefts seen)) ≡ z → cond z Open (cond t Yes No) ≡ Open → Vanish f lefts seen
      go true t p o = record { at = λ k. ((zero_but_is none (volumes (filled f lefts seen))).0 (subst T (sym p) tt)).out k (none_at k) }
      go false true p o = let x : ◌≡◌ {A = ℕ} 0 1 = cc in absurd (omega arith)
      go false false p o = let x : ◌≡◌ {A = ℕ} 0 1 = cc in absurd (omega arith)

  opens : (f : ℕ) → Vanish f lefts seen → turn_of ps six left s e f ≡ Open
  unfolding turn_of
  opens f v = sym (judged_open six.ends six.first left s e q n (is_true (zero_but none n) ((zero_but_is none n).1 (record { out = λ k x. v.at k }))))
    where
      n : Four ℤ
      n = volumes (filled f lefts seen)

      is_true : (c : Bool) → T c → c ≡ true
      is_true true t = refl
      is_true false t = absurd t

  module _ (hs : s < 6) (he : e < 6) (there : (k : Place) → pick k q < 6) (f : ℕ) (across : Across ps six.at f) (one : one_turn lefts f ≡ true) (said : turn_of ps six left s e f ≡ Open) where
    all_flat : f < 3 → (k : Place) → along f (pick k seen) ≡ pos 0
    all_flat l k = ap (along f) (pick_each (seen_from ps six s e) q k) ∙ seen_flat ps six f l (across.level l) s e (pick k q) hs he (there k)

    quiet_at : (g : ℕ) → (f < 3 → along f (axis g) ≡ pos 0) → turn_of ps six left s e g ≡ Open
    quiet_at g x = opens g (quiet lefts.v0 lefts.v1 lefts.v2 lefts.v3 seen f g one all_flat x (vanishes f said))

    pub one_turn_says_all : (turn_of ps six left s e (f + 1) ≡ Open) × (turn_of ps six left s e (f + 2) ≡ Open)
    one_turn_says_all = (quiet_at (f + 1) (λ l. (next_axis f l).0), quiet_at (f + 2) (λ l. (next_axis f l).1))
