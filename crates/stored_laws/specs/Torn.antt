-- Whether a move takes a seam apart: only a seam with the moved vertex can come apart, and its other vertex stays where it is.
use Rattle.std.specs.Prelude.{ℕ, ◌+◌, ◌*◌, ◌/◌, ◌≤◌, ◌<◌, Bool, true, false, ◌||◌, List, ◌≢◌, ◌≡◌, refl, leb, ℤ, pos, length, get_or}
use Rattle.std.proofs.Math.Bool.{or_comm}
use Rattle.std.proofs.Common.{sym, ap, ap₂, ◌∙◌, arith, leb-false}
use Rattle.std.specs.Int.Signed.{lt_z}
use Rattle.meaning.specs.Scene.{Scene, Accepted, vertex_count, seam_count, sewn, onto, some_below, differ, comes_apart, not_rising, replaced, wrong_seam}
use Rattle.meaning.specs.Dragging.{placed, moved_scene}
use Rattle.answers.specs.Below.{or_left, or_rest, none_passes, some_alike}
use Rattle.scene_checks.specs.Facts.{known_inside, accepted_sized}
use Rattle.scene_seams.specs.Sewing.{seams_alone}
use Rattle.stored_laws.specs.Placed.{placed_here, placed_elsewhere}

-- vertex u is not at the six coordinates c
abbrev pub apart_from : List ℤ → ℕ → List ℤ → Bool
apart_from p u c = some_below 6 (λ k. differ (get_or p (6 * u + k) (pos 0)) (get_or c k (pos 0)))

-- the two vertices of seam k are there, are two, and are in one place
pub record Together (s : Scene) (k : ℕ) : Type 0 where
  pub inside : 2 * k + 1 < length s.seams
  pub below : onto s k < sewn s k
  pub there : sewn s k < vertex_count s
  pub whole : comes_apart s (sewn s k) (onto s k) ≡ false

pub together : {s : Scene} → Accepted s → (k : ℕ) → k < seam_count s → Together (seams_alone s.positions s.seams) k
together {s} a k h =
    let sized = accepted_sized a in
    let fine : wrong_seam s k ≡ false = none_passes (wrong_seam s) (seam_count s) a.sewn_well k h in
    let front = or_left (not_rising s k || leb (sewn s k) (onto s k) || replaced s (onto s k)) (comes_apart s (sewn s k) (onto s k)) fine in
    let two = or_left (not_rising s k || leb (sewn s k) (onto s k)) (replaced s (onto s k)) front in
    record {
      inside = omega (arith, sized.seams_long);
      below = leb-false (sewn s k) (onto s k) (or_rest (not_rising s k) (leb (sewn s k) (onto s k)) two);
      there = known_inside (vertex_count s) s.seams (search (or_left, or_rest)) (2 * k) (omega (arith, sized.seams_long));
      whole = or_rest (not_rising s k || leb (sewn s k) (onto s k) || replaced s (onto s k)) (comes_apart s (sewn s k) (onto s k)) fine;
    }

either_order : (y z : ℤ) → differ y z ≡ differ z y
either_order y z = or_comm (lt_z y z) (lt_z z y)

module _ (s : Scene) (v : ℕ) (c : List ℤ) where
  abbrev after : ℕ → ℤ
  after n = get_or (placed s.positions v c) n (pos 0)

  abbrev before : ℕ → ℤ
  before n = get_or s.positions n (pos 0)

  -- a seam without the vertex stays as it is
  pub apart_elsewhere : (a b : ℕ) → a ≢ v → b ≢ v → comes_apart (moved_scene s v c) a b ≡ comes_apart s a b
  apart_elsewhere a b m n =
      some_alike (λ k. differ (after (6 * a + k)) (after (6 * b + k))) (λ k. differ (before (6 * a + k)) (before (6 * b + k))) 6
      (λ k h. ap₂ differ (placed_elsewhere s.positions v c a k m h) (placed_elsewhere s.positions v c b k n h))

  module _ (there : v < vertex_count s) where
    -- the moved vertex is its first, or its second
    pub apart_first : (b : ℕ) → b ≢ v → comes_apart (moved_scene s v c) v b ≡ apart_from s.positions b c
    apart_first b n =
        some_alike (λ k. differ (after (6 * v + k)) (after (6 * b + k))) (λ k. differ (before (6 * b + k)) (get_or c k (pos 0))) 6
        (λ k h.
        ap₂ differ (placed_here s.positions v c (omega arith) k h) (placed_elsewhere s.positions v c b k n h)
        ∙ either_order (get_or c k (pos 0)) (before (6 * b + k)))

    pub apart_second : (a : ℕ) → a ≢ v → comes_apart (moved_scene s v c) a v ≡ apart_from s.positions a c
    apart_second a m =
        some_alike (λ k. differ (after (6 * a + k)) (after (6 * v + k))) (λ k. differ (before (6 * a + k)) (get_or c k (pos 0))) 6
        (λ k h. ap₂ differ (placed_elsewhere s.positions v c a k m h) (placed_here s.positions v c (omega arith) k h))

    module _ (k : ℕ) (so : Together s k) {i j : ℕ} (first : i ≡ sewn s k) (second : j ≡ onto s k) where
      abbrev torn : Bool
      torn = comes_apart (moved_scene s v c) (sewn s k) (onto s k)

      pub torn_first : {r : Bool} → i ≡ v → r ≡ apart_from s.positions j c → r ≡ torn
      torn_first {r} e p =
          let here : sewn s k ≡ v = sym first ∙ e in
          p ∙ ap (λ (u : ℕ). apart_from s.positions u c) second ∙ sym (apart_first (onto s k) (omega (arith, so.below)))
          ∙ ap (λ (u : ℕ). comes_apart (moved_scene s v c) u (onto s k)) (sym here)

      pub torn_second : {r : Bool} → i ≢ v → j ≡ v → r ≡ apart_from s.positions i c → r ≡ torn
      torn_second {r} n e p =
          let here : onto s k ≡ v = sym second ∙ e in
          p ∙ ap (λ (u : ℕ). apart_from s.positions u c) first ∙ sym (apart_second (sewn s k) (omega (arith, so.below)))
          ∙ ap (λ (u : ℕ). comes_apart (moved_scene s v c) (sewn s k) u) (sym here)

      pub torn_neither : i ≢ v → j ≢ v → false ≡ torn
      torn_neither m n =
          sym (apart_elsewhere (sewn s k) (onto s k) (λ e. m (first ∙ e)) (λ e. n (second ∙ e)) ∙ so.whole)
