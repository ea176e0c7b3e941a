-- What is promised of the boxes after a move leaves nothing open.
use Rattle.std.specs.Prelude.{ℕ, ◌+◌, ◌*◌, ◌-◌, ◌≤◌, ◌<◌, List, ◌≡◌, ℤ, pos, length, get_or}
use Rattle.std.proofs.Common.{⊎_elim, sym, ◌∙◌, arith, ext_get_or}
use Rattle.sequences.specs.Range.{le_or_lt}
use Rattle.meaning.specs.Scene.{Scene, vertex_count, edge_count, triangle_count}
use Rattle.meaning.specs.StoredBoxes.{box_at, edge_place, triangle_place}
use Rattle.meaning.specs.Dragging.{BoxesMoved}
use Rattle.list_boxes.specs.Once.{numbers_same}

pub one_move : (s : Scene) (v : ℕ) {b b₁ b₂ : List ℤ} → BoxesMoved s v b b₁ → BoxesMoved s v b b₂ → b₁ ≡ b₂
one_move s v {b} {b₁} {b₂} p q =
    let all = vertex_count s + edge_count s + triangle_count s in
    ext_get_or (pos 0) b₁ b₂ (p.behind.same ∙ sym q.behind.same)
    (λ i h.
    ⊎_elim
    (λ behind. p.behind.at i behind ∙ sym (q.behind.at i behind))
    (λ front. numbers_same b₁ b₂ all box i front)
    (le_or_lt (6 * all) i))
  where
    box : (k : ℕ) → k < vertex_count s + edge_count s + triangle_count s → box_at b₁ k ≡ box_at b₂ k
    box k h =
        ⊎_elim
        (λ v.
        ⊎_elim
        (λ e.
        let place : triangle_place s (k - vertex_count s - edge_count s) ≡ k = omega arith in
        rw (← place) (p.triangles (k - vertex_count s - edge_count s) (omega arith) ∙ sym (q.triangles (k - vertex_count s - edge_count s) (omega arith))))
        (λ e.
        let place : edge_place s (k - vertex_count s) ≡ k = omega arith in
        rw (← place) (p.edges (k - vertex_count s) (omega arith) ∙ sym (q.edges (k - vertex_count s) (omega arith))))
        (le_or_lt (vertex_count s + edge_count s) k))
        (λ v. p.vertices k v ∙ sym (q.vertices k v))
        (le_or_lt (vertex_count s) k)
