-- What is promised of a tree leaves nothing open: not its height, no number of its boxes, no number of its levels.
use Prim.Native.Nat.{ℕ, zero, suc, ◌+◌, ◌*◌, ◌-◌, ◌/◌, ◌%◌, ◌≤◌, ◌<◌}
use Rattle.std.specs.Prelude.{List, ◌⊎◌, ◌≡◌, ℤ, pos, length, get_or}
use Rattle.std.proofs.Common.{inl, inr, ap, ◌∙◌, not-le_of_lt, arith, ext_get_or}
use Rattle.std.proofs.Math.Logic.{⊎_elim}
use Rattle.std.proofs.Math.Path.{sym}
use Rattle.sequences.specs.Range.{le_or_lt}
use Rattle.meaning.specs.StoredBoxes.{box_at}
use Rattle.list_boxes.specs.Storing.{same_box}
use Rattle.list_boxes.specs.Once.{numbers_same, holds_one}
use Rattle.mesh_tree.specs.Levels.{nodes_at}
use Rattle.mesh_tree.specs.Grown.{nodes_up_to, level_place, Height, Growing, Told}

not_higher : {n top other : ℕ} → Height n top → Height n other → top ≤ other
not_higher {n} {top} {other} h k =
    ⊎_elim
    (λ fits. fits)
    (λ higher.
    ⊎_elim
    (λ one. absurd (not-le_of_lt (h.more other higher) one))
    (λ high. omega (arith, h.most))
    k.ends)
    (le_or_lt top other)

pub one_height : {n top other : ℕ} → Height n top → Height n other → top ≡ other
one_height h k = omega (arith, not_higher h k, not_higher k h)

module _ {l l₁ l₂ : List ℤ} {first n to top : ℕ} (p : Growing l first n to top l₁) (q : Growing l first n to top l₂) where
  boxes_same : (v : ℕ) → v ≤ top → (k : ℕ) → k < to + nodes_up_to n v → box_at l₁ k ≡ box_at l₂ k
  unfolding nodes_up_to level_place
  boxes_same zero h k below = same_box l₂ l₁ k (λ i u v. p.front i (omega arith) ∙ sym (q.front i (omega arith)))
  boxes_same (suc v) h k below =
      ⊎_elim
      (λ here. holds_one (p.nodes (suc v) h) (q.nodes (suc v) h) k here (omega arith))
      (λ before. boxes_same v (omega arith) k before)
      (le_or_lt (to + nodes_up_to n v) k)

  pub one_growing : l₁ ≡ l₂
  one_growing =
      ext_get_or (pos 0) l₁ l₂ (p.same ∙ sym q.same)
      (λ i h.
      ⊎_elim
      (λ behind. p.behind i behind ∙ sym (q.behind i behind))
      (λ before. numbers_same l₁ l₂ (to + nodes_up_to n top) (boxes_same top (omega arith)) i before)
      (le_or_lt (6 * (to + nodes_up_to n top)) i))

even_or_odd : (i : ℕ) → (i ≡ 2 * (i / 2)) ⊎ (i ≡ 2 * (i / 2) + 1)
even_or_odd i = ⊎_elim (λ odd. inr (omega arith)) (λ even. inl (omega arith)) (le_or_lt 1 (i % 2))

module _ {t t₁ t₂ : List ℕ} {first n to top : ℕ} (p : Told t first n to top t₁) (q : Told t first n to top t₂) where
  level_same : (i u : ℕ) → u ≤ top → (i ≡ 2 * u) ⊎ (i ≡ 2 * u + 1) → get_or t₁ i 0 ≡ get_or t₂ i 0
  level_same i u h =
      ⊎_elim
      (λ even. rw even (p.places u h ∙ sym (q.places u h)))
      (λ odd. rw odd (p.counts u h ∙ sym (q.counts u h)))

  pub one_telling : t₁ ≡ t₂
  one_telling =
      ext_get_or 0 t₁ t₂ (p.same ∙ sym q.same)
      (λ i h.
      ⊎_elim
      (λ behind. p.behind i behind ∙ sym (q.behind i behind))
      (λ before. level_same i (i / 2) (omega arith) (even_or_odd i))
      (le_or_lt (2 * top + 2) i))
