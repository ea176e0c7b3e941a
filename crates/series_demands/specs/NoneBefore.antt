-- 'The first step with a hit' of a series: no step before it has a listed pair that is hit, and where it is 0 no step has one.
use Rattle.std.specs.Prelude.{ℕ, ◌+◌, ◌≤◌, ◌<◌, ◌⊎◌, ◌≡◌, refl, length}
use mathlib.Core.List.Memᴰ
use mathlib.Core.List.{List, [], ◌∷◌, ◌++◌, Memᴰ}
use Rattle.std.proofs.Common.{⊎_elim, sym, ap, ◌∙◌, subst, arith}
use Rattle.meaning.specs.Scene.{Scene}
use Rattle.meaning.specs.List.{Pair, pairs}
use Rattle.meaning.specs.Series.{Series, steps_of, HitAt, hit_at, hits_here, hits_in, hits_from, hits_of, first_step, Told, ToldRight}
use Rattle.meaning.specs.declared.Settled.{Settled}
use Rattle.meaning.specs.declared.Settled.TheVariants.{Hit, Miss, Touch, Apart}
use Rattle.series_laws.specs.TrueHits.{HasWord}
use Rattle.series_demands.specs.Demand2.{every_hit}

-- ---- hits stand in the order of steps

hit_here : (n : ℕ) (p : Pair) (w : Settled) (h : HitAt) → Memᴰ h (hits_here n p w) → h.step ≡ n
unfolding hits_here
hit_here n p Hit h m = ap (λ (g : HitAt). g.step) (Memᴰ.eq_of_singleton m)
hit_here n p Miss h m = absurd (Memᴰ.not-nil m)
hit_here n p Touch h m = absurd (Memᴰ.not-nil m)
hit_here n p Apart h m = absurd (Memᴰ.not-nil m)

hit_in : (n : ℕ) (ps : List Pair) (ws : List Settled) (h : HitAt) → Memᴰ h (hits_in n ps ws) → h.step ≡ n
unfolding hits_in
hit_in n [] ws h m = absurd (Memᴰ.not-nil m)
hit_in n (p ∷ ps) [] h m = absurd (Memᴰ.not-nil m)
hit_in n (p ∷ ps) (w ∷ ws) h m = ⊎_elim (hit_here n p w h) (hit_in n ps ws h) (Memᴰ.append_cases (hits_here n p w) m)

not_below_lem : (n : ℕ) (ss : List Scene) (wss : List (List Settled)) (h : HitAt) → Memᴰ h (hits_from n ss wss) → n ≤ h.step
unfolding hits_from
not_below_lem n [] wss h m = absurd (Memᴰ.not-nil m)
not_below_lem n (s ∷ ss) [] h m = absurd (Memᴰ.not-nil m)
not_below_lem n (s ∷ ss) (ws ∷ wss) h m =
    ⊎_elim (λ here. omega (arith, hit_in n (pairs s) ws h here)) (λ later. omega (arith, not_below_lem (n + 1) ss wss h later))
    (Memᴰ.append_cases (hits_in n (pairs s) ws) m)

-- the hits of one step, then those of later ones
first_of_both : (n : ℕ) (here later : List HitAt) → ((h : HitAt) → Memᴰ h here → h.step ≡ n) → ((h : HitAt) → Memᴰ h later → n ≤ h.step)
    → ((h : HitAt) → Memᴰ h later → first_step later ≤ h.step) → (h : HitAt) → Memᴰ h (here ++ later) → first_step (here ++ later) ≤ h.step
unfolding first_step
first_of_both n [] later is after least h m = least h m
first_of_both n (g ∷ here) later is after least h m =
    let first : g.step ≡ n = is g (Memᴰ.head refl) in
    ⊎_elim (λ k. omega (arith, is h k)) (λ k. omega (arith, after h k)) (Memᴰ.append_cases (g ∷ here) m)

first_least : (n : ℕ) (ss : List Scene) (wss : List (List Settled)) (h : HitAt) → Memᴰ h (hits_from n ss wss) → first_step (hits_from n ss wss) ≤ h.step
unfolding hits_from
first_least n [] wss h m = absurd (Memᴰ.not-nil m)
first_least n (s ∷ ss) [] h m = absurd (Memᴰ.not-nil m)
first_least n (s ∷ ss) (ws ∷ wss) h m =
    first_of_both n (hits_in n (pairs s) ws) (hits_from (n + 1) ss wss) (hit_in n (pairs s) ws)
    (λ g k. omega (arith, not_below_lem (n + 1) ss wss g k)) (first_least (n + 1) ss wss) h m

-- where there is a hit, the first step with one is a step
first_is_one : (n : ℕ) (ss : List Scene) (wss : List (List Settled)) (h : HitAt) → Memᴰ h (hits_from n ss wss) → n ≤ first_step (hits_from n ss wss)
unfolding first_step
first_is_one n ss wss h m = go (hits_from n ss wss) (not_below_lem n ss wss) m
  where
    go : (hs : List HitAt) → ((g : HitAt) → Memᴰ g hs → n ≤ g.step) → Memᴰ h hs → n ≤ first_step hs
    go [] all k = absurd (Memᴰ.not-nil k)
    go (g ∷ hs) all k = all g (Memᴰ.head refl)

-- ---- of a series that is told

module _ (x : Series) (t : Told) (right : ToldRight x t) (before : List Scene) (s : Scene) (behind : List Scene)
    (steps : steps_of x ≡ before ++ (s ∷ behind)) (p : Pair) (listed : Memᴰ p (pairs s)) (hit : HasWord s p Hit) where
  stands : Memᴰ (hit_at (1 + length before) p) (hits_of x right.words)
  stands = every_hit x right.words right.settled before s behind steps p listed hit

  first_told : t.first ≡ first_step (hits_of x right.words)
  first_told = ap (λ (u : Told). u.first) right.told

  -- a step with a listed hit is not before the first, and there is a first
  pub not_before_first : (0 < t.first) × (t.first ≤ 1 + length before)
  not_before_first = (
    omega (arith, first_told, first_is_one 1 (steps_of x) right.words (hit_at (1 + length before) p) stands),
    omega (arith, first_told, first_least 1 (steps_of x) right.words (hit_at (1 + length before) p) stands),
  )

-- so of a step before the first, and of any step where the first is 0, no listed pair is hit
pub none_before_first : (x : Series) (t : Told) → ToldRight x t → (before : List Scene) (s : Scene) (behind : List Scene)
    → steps_of x ≡ before ++ (s ∷ behind) → (t.first ≡ 0) ⊎ (1 + length before < t.first)
    → (p : Pair) → Memᴰ p (pairs s) → HasWord s p Hit → ⊥
none_before_first x t right before s behind steps early p listed hit =
    let (some, least) = not_before_first x t right before s behind steps p listed hit in
    ⊎_elim (λ none. omega arith) (λ sooner. omega arith) early
