-- Numbers of one sign. The common factor of a piece is a sum of some of its numbers, so where these are of one sign it has theirs, and of the
-- factor only whether it is 0 is asked. Of two edges one sum more is asked, and not two.
use Rattle.std.specs.Prelude.{◌≡◌, Bool, not, cond, ◌&&◌, ◌||◌, List, [], ◌∷◌, T, ℤ, pos, neg_ℤ, ◌+ℤ◌, ◌≤ℤ◌, ◌<ℤ◌}
use Rattle.std.proofs.Math.Path.{refl}
use Rattle.std.proofs.Common.{sym, ap, ◌∙◌, subst, arith}
use Rattle.std.proofs.Math.Bool.{true, false}
use Rattle.std.proofs.Math.IntN.{+ℤ_idl}
use Rattle.std.specs.Int.Signed.{le_z}
use Rattle.std.proofs.Math.Facts.{and_yes}
use Rattle.whole.specs.Quote.{quotes}
use Rattle.whole.specs.Order.{ord, le, of_le}
use Rattle.whole.specs.Cramer.{Four, each, all}
use Rattle.whole.specs.Signs.{Sgn, negative, nought, positive, sgn, is_nought, is_negative, is_positive, agree, le_nought, nought_le, positive_is, negative_is}
use Rattle.meaning.specs.declared.Verdict.{Verdict}
use Rattle.meaning.specs.declared.Verdict.TheVariants.{Hit, Miss, Degenerate}
use Rattle.exact.specs.Volumes.{four}
use Rattle.exact_signs.specs.BySigns.{all_agree, by_signs, sum, keep, kept, point_verdict, edge_verdict}

-- none negative, and none positive
abbrev pub all_up : List ℤ → Bool
all_up [] = true
all_up (e ∷ es) = le_z (pos 0) e && all_up es

abbrev pub all_down : List ℤ → Bool
all_down [] = true
all_down (e ∷ es) = le_z e (pos 0) && all_down es

unfoldable pub one_sign : ℤ → List ℤ → Verdict
one_sign d es = cond (is_nought (sgn d)) Degenerate (cond (all_up es || all_down es) Hit Miss)

agree_positive : (s : Sgn) → agree positive s ≡ not (is_negative s)
agree_positive negative = refl
agree_positive nought = refl
agree_positive positive = refl

agree_negative : (s : Sgn) → agree negative s ≡ not (is_positive s)
agree_negative negative = refl
agree_negative nought = refl
agree_negative positive = refl

up_agree : (d : ℤ) (es : List ℤ) → sgn d ≡ positive → all_agree d es ≡ all_up es
up_agree d [] h = refl
up_agree d (e ∷ es) h = rw (h, agree_positive (sgn e), sym (nought_le e), up_agree d es h) refl

down_agree : (d : ℤ) (es : List ℤ) → sgn d ≡ negative → all_agree d es ≡ all_down es
down_agree d [] h = refl
down_agree d (e ∷ es) h = rw (h, agree_negative (sgn e), sym (le_nought e), down_agree d es h) refl

not_second : (a b : Bool) → (T b → ⊥) → a ≡ a || b
not_second true b h = refl
not_second false true h = absurd (h tt)
not_second false false h = refl

not_first : (a b : Bool) → (T a → ⊥) → b ≡ a || b
not_first true b h = absurd (h tt)
not_first false b h = refl

-- where numbers of one sign give it to the factor, the two verdicts are one
pub one_sign_lem : (d : ℤ) (es : List ℤ) → (T (all_up es) → pos 0 ≤ℤ d) → (T (all_down es) → d ≤ℤ pos 0) → by_signs d es ≡ one_sign d es
unfolding by_signs one_sign
one_sign_lem d es up down = by (sgn d) refl
  where
    by : (s : Sgn) → sgn d ≡ s → cond (is_nought (sgn d)) Degenerate (cond (all_agree d es) Hit Miss) ≡ cond (is_nought (sgn d)) Degenerate (cond (all_up es || all_down es) Hit Miss)
    by nought h = rw h refl
    by positive h =
        ap (λ (b : Bool). cond (is_nought (sgn d)) Degenerate (cond b Hit Miss))
        (up_agree d es h ∙ not_second (all_up es) (all_down es) (λ t. let a : d ≤ℤ pos 0 = down t in let b : pos 0 <ℤ d = (positive_is d).0 h in omega (arith, ord, a, b)))
    by negative h =
        ap (λ (b : Bool). cond (is_nought (sgn d)) Degenerate (cond b Hit Miss))
        (down_agree d es h ∙ not_first (all_up es) (all_down es) (λ t. let a : pos 0 ≤ℤ d = up t in let b : d <ℤ pos 0 = (negative_is d).0 h in omega (arith, ord, a, b)))

-- 0 is of every sign
pub with_nought : (d a b c e : ℤ) → one_sign d (a ∷ b ∷ c ∷ e ∷ pos 0 ∷ []) ≡ one_sign d (a ∷ b ∷ c ∷ e ∷ [])
unfolding one_sign
with_nought d a b c e = refl

-- ---- sums of numbers of one sign

abbrev at_least : ℤ → Type 0
at_least z = pos 0 ≤ℤ z

abbrev at_most : ℤ → Type 0
at_most z = z ≤ℤ pos 0

module _ (a b c e : ℤ) where
  total_up : at_least a → at_least b → at_least c → at_least e → at_least (a +ℤ b +ℤ c +ℤ e)
  total_up h i j k =
      le (a ∷ b ∷ c ∷ e ∷ []) (search quotes depth 40 fits 9000)
      (omega
      (arith, of_le (a ∷ b ∷ c ∷ e ∷ []) (search quotes depth 40 fits 9000) h, of_le (a ∷ b ∷ c ∷ e ∷ []) (search quotes depth 40 fits 9000) i, of_le (a ∷ b ∷ c ∷ e ∷ []) (search quotes depth 40 fits 9000) j, of_le (a ∷ b ∷ c ∷ e ∷ []) (search quotes depth 40 fits 9000) k))

  total_down : at_most a → at_most b → at_most c → at_most e → at_most (a +ℤ b +ℤ c +ℤ e)
  total_down h i j k =
      le (a ∷ b ∷ c ∷ e ∷ []) (search quotes depth 40 fits 9000)
      (omega
      (arith, of_le (a ∷ b ∷ c ∷ e ∷ []) (search quotes depth 40 fits 9000) h, of_le (a ∷ b ∷ c ∷ e ∷ []) (search quotes depth 40 fits 9000) i, of_le (a ∷ b ∷ c ∷ e ∷ []) (search quotes depth 40 fits 9000) j, of_le (a ∷ b ∷ c ∷ e ∷ []) (search quotes depth 40 fits 9000) k))

-- ---- a point: the factor is the sum of the four

pub point_one_sign : (e : Four ℤ) → point_verdict e ≡ one_sign (sum e) (all e)
unfolding point_verdict
point_one_sign e = one_sign_lem (sum e) (all e) up down
  where
    up : T (all_up (all e)) → at_least (sum e)
    up t =
        let a = and_yes (le_z (pos 0) e.v0) (all_up (e.v1 ∷ e.v2 ∷ e.v3 ∷ [])) t in
        let b = and_yes (le_z (pos 0) e.v1) (all_up (e.v2 ∷ e.v3 ∷ [])) a.1 in
        let c = and_yes (le_z (pos 0) e.v2) (all_up (e.v3 ∷ [])) b.1 in
        let d = and_yes (le_z (pos 0) e.v3) true c.1 in
        total_up e.v0 e.v1 e.v2 e.v3 (record { le = a.0 }) (record { le = b.0 }) (record { le = c.0 }) (record { le = d.0 })

    down : T (all_down (all e)) → at_most (sum e)
    down t =
        let a = and_yes (le_z e.v0 (pos 0)) (all_down (e.v1 ∷ e.v2 ∷ e.v3 ∷ [])) t in
        let b = and_yes (le_z e.v1 (pos 0)) (all_down (e.v2 ∷ e.v3 ∷ [])) a.1 in
        let c = and_yes (le_z e.v2 (pos 0)) (all_down (e.v3 ∷ [])) b.1 in
        let d = and_yes (le_z e.v3 (pos 0)) true c.1 in
        total_down e.v0 e.v1 e.v2 e.v3 (record { le = a.0 }) (record { le = b.0 }) (record { le = c.0 }) (record { le = d.0 })

-- ---- two edges: the factor is the sum of the last three, and so is the sum at the time that the first is not of some of them

-- both at the start, or both at the end
abbrev pub alike : Bool → Bool → Bool
alike t u = cond t u (not u)

-- the sum at the time of the first of the four
abbrev pub own_sum : Bool → Bool → Bool → Bool → Four ℤ → ℤ
own_sum t0 t1 t2 t3 e = sum (kept (four true (alike t0 t1) (alike t0 t2) (alike t0 t3)) e)

keep_up : (t : Bool) (z : ℤ) → at_least z → at_least (keep t z)
unfolding keep
keep_up true z h = h
keep_up false z h = record { le = tt }

keep_down : (t : Bool) (z : ℤ) → at_most z → at_most (keep t z)
unfolding keep
keep_down true z h = h
keep_down false z h = record { le = tt }

-- a test that three others give
spare : (a b c f o x : Bool) → (T b → T c → T f → T x) → a && (b && (c && (f && (o && (x && true))))) ≡ a && (b && (c && (f && (o && true))))
spare a false c f o x h = refl
spare a true false f o x h = refl
spare a true true false o x h = refl
spare a true true true o true h = refl
spare a true true true o false h = absurd (h tt tt tt)

spare_first : (a b c f o x : Bool) → (T b → T c → T f → T x) → a && (b && (c && (f && (x && (o && true))))) ≡ a && (b && (c && (f && (o && true))))
spare_first a false c f o x h = refl
spare_first a true false f o x h = refl
spare_first a true true false o x h = refl
spare_first a true true true o true h = refl
spare_first a true true true o false h = absurd (h tt tt tt)

module _ (d a b c f own other : ℤ) (up : T (le_z (pos 0) b) → T (le_z (pos 0) c) → T (le_z (pos 0) f) → T (le_z (pos 0) other)) (down : T (le_z b (pos 0)) → T (le_z c (pos 0)) → T (le_z f (pos 0)) → T (le_z other (pos 0))) where
  one_spared : one_sign d (a ∷ b ∷ c ∷ f ∷ own ∷ other ∷ []) ≡ one_sign d (a ∷ b ∷ c ∷ f ∷ own ∷ [])
  unfolding one_sign
  one_spared = rw (spare (le_z (pos 0) a) (le_z (pos 0) b) (le_z (pos 0) c) (le_z (pos 0) f) (le_z (pos 0) own) (le_z (pos 0) other) up, spare (le_z a (pos 0)) (le_z b (pos 0)) (le_z c (pos 0)) (le_z f (pos 0)) (le_z own (pos 0)) (le_z other (pos 0)) down) refl

  first_spared : one_sign d (a ∷ b ∷ c ∷ f ∷ other ∷ own ∷ []) ≡ one_sign d (a ∷ b ∷ c ∷ f ∷ own ∷ [])
  unfolding one_sign
  first_spared = rw (spare_first (le_z (pos 0) a) (le_z (pos 0) b) (le_z (pos 0) c) (le_z (pos 0) f) (le_z (pos 0) own) (le_z (pos 0) other) up, spare_first (le_z a (pos 0)) (le_z b (pos 0)) (le_z c (pos 0)) (le_z f (pos 0)) (le_z own (pos 0)) (le_z other (pos 0)) down) refl

module _ (e : Four ℤ) where
  abbrev factor : ℤ
  factor = e.v1 +ℤ e.v2 +ℤ e.v3

  -- of the last three, those that are kept
  abbrev some : Bool → Bool → Bool → ℤ
  some t u v = sum (kept (four false t u v) e)

  some_up : (t u v : Bool) → T (le_z (pos 0) e.v1) → T (le_z (pos 0) e.v2) → T (le_z (pos 0) e.v3) → T (le_z (pos 0) (some t u v))
  unfolding keep
  some_up t u v h i j =
      (total_up (pos 0) (keep t e.v1) (keep u e.v2) (keep v e.v3) (record { le = tt }) (keep_up t e.v1 (record { le = h })) (keep_up u e.v2 (record { le = i })) (keep_up v e.v3 (record { le = j }))).le

  some_down : (t u v : Bool) → T (le_z e.v1 (pos 0)) → T (le_z e.v2 (pos 0)) → T (le_z e.v3 (pos 0)) → T (le_z (some t u v) (pos 0))
  unfolding keep
  some_down t u v h i j =
      (total_down (pos 0) (keep t e.v1) (keep u e.v2) (keep v e.v3) (record { le = tt }) (keep_down t e.v1 (record { le = h })) (keep_down u e.v2 (record { le = i })) (keep_down v e.v3 (record { le = j }))).le

  factor_up : at_least e.v1 → at_least e.v2 → at_least e.v3 → at_least factor
  factor_up h i j = subst (λ (z : ℤ). at_least (z +ℤ e.v2 +ℤ e.v3)) (+ℤ_idl e.v1) (total_up (pos 0) e.v1 e.v2 e.v3 (record { le = tt }) h i j)

  factor_down : at_most e.v1 → at_most e.v2 → at_most e.v3 → at_most factor
  factor_down h i j = subst (λ (z : ℤ). at_most (z +ℤ e.v2 +ℤ e.v3)) (+ℤ_idl e.v1) (total_down (pos 0) e.v1 e.v2 e.v3 (record { le = tt }) h i j)

  -- numbers of one sign, the last three among them, give it to the factor
  six : (x y : ℤ) → by_signs factor (neg_ℤ e.v0 ∷ e.v1 ∷ e.v2 ∷ e.v3 ∷ x ∷ y ∷ []) ≡ one_sign factor (neg_ℤ e.v0 ∷ e.v1 ∷ e.v2 ∷ e.v3 ∷ x ∷ y ∷ [])
  six x y = one_sign_lem factor (neg_ℤ e.v0 ∷ e.v1 ∷ e.v2 ∷ e.v3 ∷ x ∷ y ∷ []) up down
    where
      up : T (all_up (neg_ℤ e.v0 ∷ e.v1 ∷ e.v2 ∷ e.v3 ∷ x ∷ y ∷ [])) → at_least factor
      up t =
          let a = and_yes (le_z (pos 0) (neg_ℤ e.v0)) (all_up (e.v1 ∷ e.v2 ∷ e.v3 ∷ x ∷ y ∷ [])) t in
          let b = and_yes (le_z (pos 0) e.v1) (all_up (e.v2 ∷ e.v3 ∷ x ∷ y ∷ [])) a.1 in
          let c = and_yes (le_z (pos 0) e.v2) (all_up (e.v3 ∷ x ∷ y ∷ [])) b.1 in
          let d = and_yes (le_z (pos 0) e.v3) (all_up (x ∷ y ∷ [])) c.1 in
          factor_up (record { le = b.0 }) (record { le = c.0 }) (record { le = d.0 })

      down : T (all_down (neg_ℤ e.v0 ∷ e.v1 ∷ e.v2 ∷ e.v3 ∷ x ∷ y ∷ [])) → at_most factor
      down t =
          let a = and_yes (le_z (neg_ℤ e.v0) (pos 0)) (all_down (e.v1 ∷ e.v2 ∷ e.v3 ∷ x ∷ y ∷ [])) t in
          let b = and_yes (le_z e.v1 (pos 0)) (all_down (e.v2 ∷ e.v3 ∷ x ∷ y ∷ [])) a.1 in
          let c = and_yes (le_z e.v2 (pos 0)) (all_down (e.v3 ∷ x ∷ y ∷ [])) b.1 in
          let d = and_yes (le_z e.v3 (pos 0)) (all_down (x ∷ y ∷ [])) c.1 in
          factor_down (record { le = b.0 }) (record { le = c.0 }) (record { le = d.0 })

  pub edge_one_sign : (t0 t1 t2 t3 : Bool) → edge_verdict (four t0 t1 t2 t3) e ≡ one_sign factor (neg_ℤ e.v0 ∷ e.v1 ∷ e.v2 ∷ e.v3 ∷ own_sum t0 t1 t2 t3 e ∷ [])
  unfolding edge_verdict
  edge_one_sign false t1 t2 t3 =
      six (sum (kept (four true (not t1) (not t2) (not t3)) e)) (some t1 t2 t3)
      ∙ one_spared factor (neg_ℤ e.v0) e.v1 e.v2 e.v3 (sum (kept (four true (not t1) (not t2) (not t3)) e)) (some t1 t2 t3) (some_up t1 t2 t3) (some_down t1 t2 t3)
  edge_one_sign true t1 t2 t3 =
      six (some (not t1) (not t2) (not t3)) (sum (kept (four true t1 t2 t3) e))
      ∙ first_spared factor (neg_ℤ e.v0) e.v1 e.v2 e.v3 (sum (kept (four true t1 t2 t3) e)) (some (not t1) (not t2) (not t3)) (some_up (not t1) (not t2) (not t3)) (some_down (not t1) (not t2) (not t3))
