-- What is promised of a list of boxes leaves nothing open: the boxes give its front number by number, and the rest is as it was.
use Rattle.std.specs.Prelude.{ℕ, zero, suc, ◌+◌, ◌*◌, ◌-◌, ◌/◌, ◌%◌, ◌≤◌, ◌<◌, List, ◌≡◌, refl, ℤ, pos, length, get_or}
use Rattle.std.proofs.Common.{⊎_elim, sym, ◌∙◌, ap, add-zero, arith, ext_get_or}
use Rattle.sequences.specs.Range.{le_or_lt}
use Rattle.meaning.specs.Scene.{Scene, vertex_count, edge_count, triangle_count}
use Rattle.meaning.specs.StoredBoxes.{Box, box_at, BoxesStand, Boxed}
use Rattle.list_boxes.specs.Storing.{BoxStored, others_kept}
use Rattle.meaning.specs.StoredBoxes.{Filled}

-- a box's numbers in their order
abbrev number_of : Box → ℕ → ℤ
number_of b zero = b.x.low
number_of b (suc zero) = b.y.low
number_of b (suc (suc zero)) = b.z.low
number_of b (suc (suc (suc zero))) = b.x.high
number_of b (suc (suc (suc (suc zero)))) = b.y.high
number_of b (suc (suc (suc (suc (suc r))))) = b.z.high

number_at_lem : (l : List ℤ) (k r : ℕ) → r < 6 → get_or l (6 * k + r) (pos 0) ≡ number_of (box_at l k) r
number_at_lem l k zero h = rw (add-zero (6 * k))
number_at_lem l k (suc zero) h = refl
number_at_lem l k (suc (suc zero)) h = refl
number_at_lem l k (suc (suc (suc zero))) h = refl
number_at_lem l k (suc (suc (suc (suc zero)))) h = ap (λ (n : ℕ). get_or l n (pos 0)) (omega arith)
number_at_lem l k (suc (suc (suc (suc (suc zero))))) h = ap (λ (n : ℕ). get_or l n (pos 0)) (omega arith)
number_at_lem l k (suc (suc (suc (suc (suc (suc r)))))) h = absurd (omega arith)

-- lists whose boxes up to n are the same have the same numbers there
pub numbers_same : (l l' : List ℤ) (n : ℕ) → ((k : ℕ) → k < n → box_at l k ≡ box_at l' k) → (i : ℕ) → i < 6 * n → get_or l i (pos 0) ≡ get_or l' i (pos 0)
numbers_same l l' n e i h =
    let place : 6 * (i / 6) + i % 6 ≡ i = omega arith in
    rw (← place)
    (number_at_lem l (i / 6) (i % 6) (omega arith) ∙ ap (λ (b : Box). number_of b (i % 6)) (e (i / 6) (omega arith)) ∙ sym (number_at_lem l' (i / 6) (i % 6) (omega arith)))

pub holds_one : {l l' : List ℤ} {first n : ℕ} {want : ℕ → Box} → BoxesStand l first n want → BoxesStand l' first n want → (k : ℕ) → first ≤ k
    → k < first + n → box_at l k ≡ box_at l' k
holds_one {l} {l'} {first} p q k h e =
    let place : first + (k - first) ≡ k = omega arith in
    rw (← place) (p.at (k - first) (omega arith) ∙ sym (q.at (k - first) (omega arith)))

boxed_one : (s : Scene) (l l' : List ℤ) → Boxed s l → Boxed s l' → (k : ℕ) → k < vertex_count s + edge_count s + triangle_count s
    → box_at l k ≡ box_at l' k
boxed_one s l l' p q k h =
    ⊎_elim
    (λ v.
    ⊎_elim
    (λ e. holds_one p.triangles q.triangles k e h)
    (λ e. holds_one p.edges q.edges k v e)
    (le_or_lt (vertex_count s + edge_count s) k))
    (λ v. holds_one p.vertices q.vertices k (omega arith) (omega arith))
    (le_or_lt (vertex_count s) k)

pub one_filling : (s : Scene) {l l₁ l₂ : List ℤ} → Filled s l l₁ → Filled s l l₂ → l₁ ≡ l₂
one_filling s {l} {l₁} {l₂} p q =
    let all = vertex_count s + edge_count s + triangle_count s in
    ext_get_or (pos 0) l₁ l₂ (p.kept.same ∙ sym q.kept.same)
    (λ i h.
    ⊎_elim
    (λ behind. p.kept.at i behind ∙ sym (q.kept.at i behind))
    (λ front. numbers_same l₁ l₂ all (boxed_one s l₁ l₂ p.boxed q.boxed) i front)
    (le_or_lt (6 * all) i))

pub one_storing : {l l₁ l₂ : List ℤ} {k : ℕ} {b : Box} → BoxStored l k b l₁ → BoxStored l k b l₂ → l₁ ≡ l₂
one_storing {l} {l₁} {l₂} {k} {b} p q =
    ext_get_or (pos 0) l₁ l₂ (p.same ∙ sym q.same)
    (λ i h.
    ⊎_elim
    (λ behind. p.behind i behind ∙ sym (q.behind i behind))
    (λ front. numbers_same l₁ l₂ (k + 1) (λ j r. boxes_up_to j r) i (omega arith))
    (le_or_lt (6 * k + 6) i))
  where
    boxes_up_to : (j : ℕ) → j < k + 1 → box_at l₁ j ≡ box_at l₂ j
    boxes_up_to j h =
        ⊎_elim
        (λ here. let same : j ≡ k = omega arith in rw same (p.here ∙ sym q.here))
        (λ before. others_kept p j (omega arith) ∙ sym (others_kept q j (omega arith)))
        (le_or_lt k j)
