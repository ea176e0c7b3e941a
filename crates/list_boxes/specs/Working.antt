-- A box that is worked out and stored span by span is the box that is meant.
use Rattle.std.specs.Prelude.{ℕ, ◌+◌, ◌*◌, ◌<◌, List, ◌≡◌, ℤ, pos, length, get_or}
use Rattle.std.proofs.Common.{sym, ◌∙◌, ap, subst, arith}
use Rattle.meaning.specs.Boxes.{joint}
use Rattle.meaning.specs.Scene.{Scene}
use Rattle.meaning.specs.StoredBoxes.{span_at, box_at, vertex_box}
use Rattle.list_boxes.specs.Kept.{between, numbers_between, joint_box}
use Rattle.list_boxes.specs.Storing.{BoxStored, Apart, with_span, with_box, span_kept, box_stored}

module _ (s : Scene) (l : List ℤ) (v : ℕ) {l₁ l₂ l₃ : List ℤ}
    (first : l₁ ≡ with_span l (6 * v) (numbers_between s.positions (6 * v)))
    (second : l₂ ≡ with_span l₁ (6 * v + 1) (numbers_between s.positions (6 * v + 1)))
    (third : l₃ ≡ with_span l₂ (6 * v + 2) (numbers_between s.positions (6 * v + 2))) where
  pub vertex_stored : 6 * v + 5 < length l → BoxStored l v (vertex_box s v) l₃
  vertex_stored h =
      let y : 6 * v + 1 + 3 ≡ 6 * v + 3 + 1 = omega arith in
      let z : 6 * v + 2 + 3 ≡ 6 * v + 3 + 2 = omega arith in
      let number : ℕ → ℤ = λ n. get_or s.positions n (pos 0) in
      let front = second ∙ λ t. with_span (first t) (6 * v + 1) (between (number (6 * v + 1)) (number (y t))) in
      let whole : l₃ ≡ with_box l v (vertex_box s v) = third ∙ λ t. with_span (front t) (6 * v + 2) (between (number (6 * v + 2)) (number (z t))) in
      subst (BoxStored l v (vertex_box s v)) (sym whole) (box_stored l v (vertex_box s v) h)

-- the joint box of two, wherever they stand: no number is read after one was stored in its place
module _ (l : List ℤ) (a b k : ℕ) {l₁ l₂ l₃ : List ℤ}
    (first : l₁ ≡ with_span l (6 * k) (joint (span_at l (6 * a)) (span_at l (6 * b))))
    (second : l₂ ≡ with_span l₁ (6 * k + 1) (joint (span_at l₁ (6 * a + 1)) (span_at l₁ (6 * b + 1))))
    (third : l₃ ≡ with_span l₂ (6 * k + 2) (joint (span_at l₂ (6 * a + 2)) (span_at l₂ (6 * b + 2)))) where
  once : (n : ℕ) → Apart (6 * k) n → span_at l₁ n ≡ span_at l n
  once n p = ap (λ (m : List ℤ). span_at m n) first ∙ span_kept l (6 * k) (joint (span_at l (6 * a)) (span_at l (6 * b))) n p

  twice : (n : ℕ) → Apart (6 * k) n → Apart (6 * k + 1) n → span_at l₂ n ≡ span_at l n
  twice n p q =
      ap (λ (m : List ℤ). span_at m n) second
      ∙ span_kept l₁ (6 * k + 1) (joint (span_at l₁ (6 * a + 1)) (span_at l₁ (6 * b + 1))) n q
      ∙ once n p

  joined : l₃ ≡ with_box l k (joint_box (box_at l a) (box_at l b))
  joined =
      let ay = once (6 * a + 1) (omega arith) in
      let by = once (6 * b + 1) (omega arith) in
      let az = twice (6 * a + 2) (omega arith) (omega arith) in
      let bz = twice (6 * b + 2) (omega arith) (omega arith) in
      let front = second ∙ λ t. with_span (first t) (6 * k + 1) (joint (ay t) (by t)) in
      third ∙ λ t. with_span (front t) (6 * k + 2) (joint (az t) (bz t))

  pub joint_stored : 6 * k + 5 < length l → BoxStored l k (joint_box (box_at l a) (box_at l b)) l₃
  joint_stored h = subst (BoxStored l k (joint_box (box_at l a) (box_at l b))) (sym joined) (box_stored l k (joint_box (box_at l a) (box_at l b)) h)
