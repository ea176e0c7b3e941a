-- The hits of a series are the listed pairs of its steps that are hit: each of them, in the step that it names, and no other.
use Rattle.std.specs.Prelude.{ℕ, ◌+◌, ◌≡◌, refl}
use mathlib.Core.List.{List, [], ◌∷◌, ◌++◌, Memᴰ}
use Rattle.std.proofs.Math.Logic.{⊎_elim}
use Rattle.std.proofs.Common.{sym, ap, subst}
use native.Mathlib.Omega.{arith}
use Rattle.std.proofs.Math.ListN.{length}
use Rattle.meaning.specs.Scene.{Scene}
use Rattle.meaning.specs.List.{Pair, pairs}
use Rattle.meaning.specs.Resting.{PairSettled}
use Rattle.meaning.specs.SceneWords.{AllSettled}
use Rattle.meaning.specs.Series.{Series, steps_of, HitAt, hit_at, hits_here, hits_in, hits_from, hits_of, StepsSettled, log_of, Told, ToldRight}
use Rattle.meaning.specs.declared.Settled.{Settled}
use Rattle.meaning.specs.declared.Settled.TheVariants.{Hit, Miss, Touch, Apart}
use Rattle.series_laws.specs.Front.{log_is_front}

-- the pair has the word in the scene
abbrev pub HasWord : Scene → Pair → Settled → Type 0
HasWord s p w = PairSettled s p.kind p.first p.second w

-- step n and those behind it: the hit names one of them, and is a listed pair of that step, which is hit there
pub record HitThere (n : ℕ) (ss : List Scene) (h : HitAt) : Type 0 where
  pub before : List Scene
  pub here : Scene
  pub behind : List Scene
  pub steps : ss ≡ before ++ (here ∷ behind)
  pub number : h.step ≡ n + length before
  pub listed : Memᴰ h.pair (pairs here)
  pub hit : HasWord here h.pair Hit

-- ---- each hit is one

one_hit_lem : (n : ℕ) (s : Scene) (p : Pair) (w : Settled) (h : HitAt) → HasWord s p w → Memᴰ h (hits_here n p w)
    → (h ≡ hit_at n p) × HasWord s p Hit
unfolding hits_here
one_hit_lem n s p Hit h word m = (mathlib.Core.List.Memᴰ.eq_of_singleton m, word)
one_hit_lem n s p Miss h word m = absurd (mathlib.Core.List.Memᴰ.not-nil m)
one_hit_lem n s p Touch h word m = absurd (mathlib.Core.List.Memᴰ.not-nil m)
one_hit_lem n s p Apart h word m = absurd (mathlib.Core.List.Memᴰ.not-nil m)

hits_of_step : (n : ℕ) (s : Scene) (ps : List Pair) (ws : List Settled) (h : HitAt) → AllSettled s ps ws → Memᴰ h (hits_in n ps ws)
    → (h.step ≡ n) × Memᴰ h.pair ps × HasWord s h.pair Hit
unfolding hits_in AllSettled
hits_of_step n s [] ws h settled m = absurd (mathlib.Core.List.Memᴰ.not-nil m)
hits_of_step n s (p ∷ ps) [] h settled m = absurd (mathlib.Core.List.Memᴰ.not-nil m)
hits_of_step n s (p ∷ ps) (w ∷ ws) h settled m =
    ⊎_elim
    (λ first.
    let (is, word) = one_hit_lem n s p w h settled.0 first in (
      ap (λ (g : HitAt). g.step) is,
      mathlib.Core.List.Memᴰ.head (ap (λ (g : HitAt). g.pair) is),
      subst (λ (g : HitAt). HasWord s g.pair Hit) (sym is) word,
    ))
    (λ later.
    let (step, listed, word) = hits_of_step n s ps ws h settled.1 later in
    (step, mathlib.Core.List.Memᴰ.tail listed, word))
    (mathlib.Core.List.Memᴰ.append_cases (hits_here n p w) m)

hits_of_steps : (n : ℕ) (ss : List Scene) (wss : List (List Settled)) (h : HitAt) → StepsSettled ss wss → Memᴰ h (hits_from n ss wss)
    → HitThere n ss h
unfolding hits_from StepsSettled
hits_of_steps n [] wss h settled m = absurd (mathlib.Core.List.Memᴰ.not-nil m)
hits_of_steps n (s ∷ ss) [] h settled m = absurd (mathlib.Core.List.Memᴰ.not-nil m)
hits_of_steps n (s ∷ ss) (ws ∷ wss) h settled m =
    ⊎_elim
    (λ first.
    let (step, listed, word) = hits_of_step n s (pairs s) ws h settled.0 first in
    record { before = []; here = s; behind = ss; steps = refl; number = omega (arith, step); listed = listed; hit = word })
    (λ later.
    let g = hits_of_steps (n + 1) ss wss h settled.1 later in
    record {
      before = s ∷ g.before;
      here = g.here;
      behind = g.behind;
      steps = ap (λ (l : List Scene). s ∷ l) g.steps;
      number = omega (arith, g.number);
      listed = g.listed;
      hit = g.hit;
    })
    (mathlib.Core.List.Memᴰ.append_cases (hits_in n (pairs s) ws) m)

-- of a series that is told: an entry of the log names a step, counted from 1, and a listed pair of it that is hit
pub logged_hits : (x : Series) (t : Told) → ToldRight x t → (h : HitAt) → Memᴰ h t.log → HitThere 1 (steps_of x) h
logged_hits x t right h m =
    let (rest, all) = log_is_front (hits_of x right.words) in
    let entry : Memᴰ h (log_of (hits_of x right.words)) = subst (λ (u : Told). Memᴰ h u.log) right.told m in
    hits_of_steps 1 (steps_of x) right.words h right.settled (subst (Memᴰ h) (sym all) (mathlib.Core.List.Memᴰ.append_left rest entry))

-- ---- and each one is a hit, given that a pair has one word

module _ (one : (s : Scene) (p : Pair) (w : Settled) → HasWord s p w → HasWord s p Hit → w ≡ Hit) where
  hit_of_step : (n : ℕ) (s : Scene) (ps : List Pair) (ws : List Settled) (p : Pair) → AllSettled s ps ws → Memᴰ p ps → HasWord s p Hit
      → Memᴰ (hit_at n p) (hits_in n ps ws)
  unfolding hits_in AllSettled hits_here
  hit_of_step n s [] ws p settled m hit = absurd (mathlib.Core.List.Memᴰ.not-nil m)
  hit_of_step n s (q ∷ ps) [] p settled m hit = absurd settled
  hit_of_step n s (q ∷ ps) (w ∷ ws) p settled m hit =
      ⊎_elim
      (λ (same : p ≡ q).
      let is : w ≡ Hit = one s p w (subst (λ (r : Pair). HasWord s r w) (sym same) settled.0) hit in
      mathlib.Core.List.Memᴰ.append_left (hits_in n ps ws)
      (subst (λ (v : Settled). Memᴰ (hit_at n p) (hits_here n q v)) (sym is) (mathlib.Core.List.Memᴰ.head (ap (hit_at n) same))))
      (λ later. mathlib.Core.List.Memᴰ.append_right (hits_here n q w) (hit_of_step n s ps ws p settled.1 later hit))
      (mathlib.Core.List.Memᴰ.cases_cons m)

  pub hit_of_steps : (n : ℕ) (before : List Scene) (s : Scene) (behind : List Scene) (wss : List (List Settled)) (p : Pair)
      → StepsSettled (before ++ (s ∷ behind)) wss → Memᴰ p (pairs s) → HasWord s p Hit
      → Memᴰ (hit_at (n + length before) p) (hits_from n (before ++ (s ∷ behind)) wss)
  unfolding hits_from StepsSettled
  hit_of_steps n [] s behind [] p settled m hit = absurd settled
  hit_of_steps n [] s behind (ws ∷ wss) p settled m hit =
      let here : n + 0 ≡ n = omega arith in
      mathlib.Core.List.Memᴰ.append_left (hits_from (n + 1) behind wss)
      (subst (λ (k : ℕ). Memᴰ (hit_at k p) (hits_in n (pairs s) ws)) (sym here) (hit_of_step n s (pairs s) ws p settled.0 m hit))
  hit_of_steps n (t ∷ before) s behind [] p settled m hit = absurd settled
  hit_of_steps n (t ∷ before) s behind (ws ∷ wss) p settled m hit =
      let here : n + 1 + length before ≡ n + length (t ∷ before) = omega arith in
      mathlib.Core.List.Memᴰ.append_right (hits_in n (pairs t) ws)
      (subst (λ (k : ℕ). Memᴰ (hit_at k p) (hits_from (n + 1) (before ++ (s ∷ behind)) wss)) here
      (hit_of_steps (n + 1) before s behind wss p settled.1 m hit))
