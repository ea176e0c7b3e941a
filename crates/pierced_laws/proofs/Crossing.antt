-- Of `Crossing`: what rests on its definitions.
use Prim.Native.Nat.{ℕ, zero, suc, ◌+◌, ◌-◌, ◌≤◌, ◌<◌}
use native.Mathlib.Omega.{arith}
use Rattle.std.proofs.Math.Decide.{dec_lt}
use Rattle.std.specs.Prelude.{◌≡◌, ◌↔◌, ◌⊎◌, [], ◌∷◌, ◌+ℤ◌, ◌*ℤ◌}
use Rattle.std.proofs.Math.Path.{refl, sym, ap}
use Rattle.std.proofs.Common.{◌∙◌}
use Rattle.std.proofs.Math.IntN.{ℤ, pos, nat_abs}
use Rattle.std.proofs.Math.ListN.{get_or}
use Rattle.whole.specs.Vector.{Vector}
use Rattle.whole.specs.Quote.{quotes, combine, times}
use Rattle.meaning.specs.Scene.{Scene, start_of, end_of, stood_for, corners_of}
use Rattle.meaning.specs.Pieces.{starting, ending, moving_point, moving_triangle, piece_of, piece_count}
use Rattle.meaning.specs.Equations.{time_of, total, Touch}
use Rattle.meaning.specs.Motion.{Together}
use Rattle.meaning.specs.Pierced.{Pierced}
use Rattle.meaning.specs.Resting.{PairSettled}
use Rattle.meaning.specs.declared.Corners.{Corners}
use Rattle.meaning.specs.declared.Frame.{Frame}
use Rattle.meaning.specs.declared.Kind.TheVariants.{PointTriangle}
use Rattle.meaning.specs.declared.Settled.{Settled}
use Rattle.meaning.specs.declared.Settled as Words
use Rattle.theory.specs.Solved.{weights_there}
use Rattle.corner_laws.specs.AtRest.{Still, still_alike}
use Rattle.pierced_laws.specs.OneTime.{pierced_together}
use Rattle.pierced_laws.specs.SomeWeights.{SomeTouches, hit_or_touch}
use Rattle.pierced_laws.specs.Crossing.{letters, on_corners, weights, of_place, corners, way, Split, Resting, crossing, crossing_rests, crossing_of}

-- on plain numbers: weights a b c d, what a measure says of the starts x y z and of the ends x' y' z'
module _ (a b c d x x' y y' z z' : ℤ) (h : x' ≡ x) (k : y' ≡ y) (l : z' ≡ z) where
  sums₀ : a *ℤ x +ℤ (b *ℤ y +ℤ (c *ℤ z +ℤ (d *ℤ z' +ℤ pos 0))) ≡ a *ℤ x +ℤ (b *ℤ y +ℤ ((c +ℤ d) *ℤ z +ℤ pos 0))
  sums₀ = combine (letters a b c d x x' y y' z z' h k l) (times d l ∷ []) (search quotes depth 40 fits 9000) refl

  sums₁ : a *ℤ x +ℤ (b *ℤ y +ℤ (c *ℤ y' +ℤ (d *ℤ z' +ℤ pos 0))) ≡ a *ℤ x +ℤ ((b +ℤ c) *ℤ y +ℤ (d *ℤ z +ℤ pos 0))
  sums₁ = combine (letters a b c d x x' y y' z z' h k l) (times c k ∷ times d l ∷ []) (search quotes depth 40 fits 9000) refl

  sums₂ : a *ℤ x +ℤ (b *ℤ x' +ℤ (c *ℤ y' +ℤ (d *ℤ z' +ℤ pos 0))) ≡ (a +ℤ b) *ℤ x +ℤ (c *ℤ y +ℤ (d *ℤ z +ℤ pos 0))
  sums₂ = combine (letters a b c d x x' y y' z z' h k l) (times b h ∷ times c k ∷ times d l ∷ []) (search quotes depth 40 fits 9000) refl

module _ (s : Scene) (c : Corners) (h : Still s.positions c.low) (l : Still s.positions c.middle) (m : Still s.positions c.high) where
  corner_sums : (k : ℕ) (w : ℕ → ℕ) (f : Vector → ℤ) → total (of_place f) (λ i. pos (w i)) (moving_triangle s.positions c k) ≡ total f (weights (on_corners k w)) (corners s c h l m)
  unfolding total moving_triangle on_corners
  corner_sums k w f = go k
    where
      start : ℕ → ℤ
      start v = of_place f (starting s.positions v)

      end : ℕ → ℤ
      end v = of_place f (ending s.positions v)

      rests : {v : ℕ} → Still s.positions v → end v ≡ start v
      rests g = still_alike g (of_place f) (λ p. refl)

      go : (k : ℕ) → total (of_place f) (λ i. pos (w i)) (moving_triangle s.positions c k) ≡ total f (weights (on_corners k w)) (corners s c h l m)
      go zero = sums₀ (pos (w 0)) (pos (w 1)) (pos (w 2)) (pos (w 3)) (start c.low) (end c.low) (start c.middle) (end c.middle) (start c.high) (end c.high) (rests h) (rests l) (rests m)
      go (suc zero) = sums₁ (pos (w 0)) (pos (w 1)) (pos (w 2)) (pos (w 3)) (start c.low) (end c.low) (start c.middle) (end c.middle) (start c.high) (end c.high) (rests h) (rests l) (rests m)
      go (suc (suc k)) = sums₂ (pos (w 0)) (pos (w 1)) (pos (w 2)) (pos (w 3)) (start c.low) (end c.low) (start c.middle) (end c.middle) (start c.high) (end c.high) (rests h) (rests l) (rests m)

  module _ (p : ℕ) where
    way_sums : (w : ℕ → ℕ) (f : Vector → ℤ) → total (of_place f) (λ i. pos (w i)) (moving_point s.positions p) ≡ total f (λ i. pos (w i)) (way s c h l m p)
    unfolding total
    way_sums w f = refl

    together_of : (k : ℕ) → Touch (moving_point s.positions p) (moving_triangle s.positions c k) → Together (way s c h l m p) (corners s c h l m)
    together_of k t = record {
      u = t.u;
      v = λ i. get_or (on_corners k t.v) i 0;
      some = rw (way_sums t.u (λ p. pos 1)) at t.some;
      sums = same (λ p. pos 1) t.balanced.sums;
      xs = same (λ p. p.x) t.balanced.xs;
      ys = same (λ p. p.y) t.balanced.ys;
      zs = same (λ p. p.z) t.balanced.zs;
    }
      where
        same : (f : Vector → ℤ) → total (of_place f) (λ i. pos (t.u i)) (moving_point s.positions p) ≡ total (of_place f) (λ i. pos (t.v i)) (moving_triangle s.positions c k)
            → total f (λ i. pos (t.u i)) (way s c h l m p) ≡ total f (weights (on_corners k t.v)) (corners s c h l m)
        same f e = sym (way_sums t.u f) ∙ e ∙ corner_sums k t.v f

    split : (v : ℕ → ℕ) (n : ℕ) → n ≤ v 0 + v 1 + v 2 → Split s c h l m p v n
    unfolding total moving_triangle on_corners
    split v n few = go (dec_lt (v 2) n) (dec_lt (v 1 + v 2) n)
      where
        go : Dec (v 2 < n) → Dec (v 1 + v 2 < n) → Split s c h l m p v n
        go (no a) b = record {
          k = 0;
          there = omega arith;
          w = λ i. get_or (v 0 ∷ v 1 ∷ (v 2 - n) ∷ n ∷ []) i 0;
          low = refl;
          middle = refl;
          high = omega arith;
          ends = ap pos (omega arith);
        }
        go (yes a) (no b) = record {
          k = 1;
          there = omega arith;
          w = λ i. get_or (v 0 ∷ (v 1 + v 2 - n) ∷ (n - v 2) ∷ v 2 ∷ []) i 0;
          low = refl;
          middle = omega arith;
          high = refl;
          ends = ap pos (omega arith);
        }
        go (yes a) (yes b) = record {
          k = 2;
          there = omega arith;
          w = λ i. get_or ((v 0 + v 1 + v 2 - n) ∷ (n - (v 1 + v 2)) ∷ v 1 ∷ v 2 ∷ []) i 0;
          low = omega arith;
          middle = refl;
          high = refl;
          ends = ap pos (omega arith);
        }

    far_share : (t : Together (way s c h l m p) (corners s c h l m)) → t.u 1 ≤ t.v 0 + t.v 1 + t.v 2
    unfolding total
    far_share t = let e = ap nat_abs t.sums in omega arith

    touch_of : (t : Together (way s c h l m p) (corners s c h l m)) (q : Split s c h l m p t.v (t.u 1)) → Touch (moving_point s.positions p) (moving_triangle s.positions c q.k)
    unfolding total
    touch_of t q = record {
      u = t.u;
      v = q.w;
      balanced = record {
        sums = same (λ p. pos 1) t.sums;
        xs = same (λ p. p.x) t.xs;
        ys = same (λ p. p.y) t.ys;
        zs = same (λ p. p.z) t.zs;
        times = far_time ∙ sym q.ends;
      };
      some = rw (way_sums t.u (λ p. pos 1)) t.some;
    }
      where
        onto : (f : Vector → ℤ) → total f (λ i. pos (t.v i)) (corners s c h l m) ≡ total f (weights (on_corners q.k q.w)) (corners s c h l m)
        onto f = weights_there f (λ i. pos (t.v i)) (weights (on_corners q.k q.w)) (corners s c h l m) (λ i h. ap pos (sym (each i h)))
          where
            each : (i : ℕ) → i < 3 → get_or (on_corners q.k q.w) i 0 ≡ t.v i
            each zero h = q.low
            each (suc zero) h = q.middle
            each (suc (suc zero)) h = q.high
            each (suc (suc (suc i))) h = absurd (omega arith)

        same : (f : Vector → ℤ) → total f (λ i. pos (t.u i)) (way s c h l m p) ≡ total f (λ i. pos (t.v i)) (corners s c h l m)
            → total (of_place f) (λ i. pos (t.u i)) (moving_point s.positions p) ≡ total (of_place f) (λ i. pos (q.w i)) (moving_triangle s.positions c q.k)
        same f e = way_sums t.u f ∙ e ∙ onto f ∙ sym (corner_sums q.k q.w f)

        far_time : total time_of (λ i. pos (t.u i)) (moving_point s.positions p) ≡ pos (t.u 1)
        far_time = ap pos (omega arith)

pub crossing_is : (s : Scene) (p j : ℕ) → Resting s j
    → SomeTouches s PointTriangle p j ↔ Together (start_of s p ∷ end_of s p ∷ []) (start_of s (corners_of s j).low ∷ start_of s (corners_of s j).middle ∷ start_of s (corners_of s j).high ∷ [])
unfolding piece_of piece_count
crossing_is s p j r = (
  λ t. together_of s (corners_of s j) r.low r.middle r.high p t.which t.has,
  λ t. let q = split s (corners_of s j) r.low r.middle r.high p t.v (t.u 1) (far_share s (corners_of s j) r.low r.middle r.high p t) in
      record { which = q.k; there = q.there; has = touch_of s (corners_of s j) r.low r.middle r.high p t q },
)

module _ (p q a b c : Vector) where
  pub crossing_together : SomeTouches (crossing p q a b c) PointTriangle 0 0 ↔ Together (p ∷ q ∷ []) (a ∷ b ∷ c ∷ [])
  unfolding stood_for
  crossing_together = crossing_is (crossing p q a b c) 0 0 (crossing_rests p q a b c)

module _ (s : Scene) (f : Frame) (i j : ℕ) where
  pub pierced_crossing : Pierced s f i j ↔ SomeTouches (crossing_of s f i j) PointTriangle 0 0
  pierced_crossing =
      let there = pierced_together s f i j in
      let back = crossing_together _ _ _ _ _ in
      (λ t. back.1 (there.0 t), λ t. there.1 (back.0 t))

  -- its word is hit or touch exactly when pierced
  pub pierced_word : (w : Settled) → PairSettled (crossing_of s f i j) PointTriangle 0 0 w → Pierced s f i j ↔ (w ≡ Words.TheVariants.Hit) ⊎ (w ≡ Words.TheVariants.Touch)
  pierced_word w h =
      let word = hit_or_touch (crossing_of s f i j) PointTriangle 0 0 w h in
      (λ t. word.0 (pierced_crossing.0 t), λ e. pierced_crossing.1 (word.1 e))
