-- What is promised of boxes that are filled in leaves nothing open, whatever the vertices' boxes and the orders are.
use Rattle.std.specs.Prelude.{ℕ, ◌+◌, ◌*◌, ◌<◌, List, ◌≡◌, ℤ, pos}
use Rattle.std.proofs.Common.{⊎_elim, sym, ◌∙◌, arith, ext_get_or}
use Rattle.sequences.specs.Range.{le_or_lt}
use Rattle.meaning.specs.Scene.{Scene, vertex_count, edge_count, triangle_count}
use Rattle.meaning.specs.StoredBoxes.{Box, box_at}
use Rattle.list_boxes.specs.Once.{numbers_same, holds_one}
use Rattle.mesh_boxes.specs.Joining.{BoxedBy, FilledBy}

boxed_one : (s : Scene) {b : ℕ → Box} {e t : List ℕ} {l l' : List ℤ} → BoxedBy s b e t l → BoxedBy s b e t l' → (k : ℕ)
    → k < vertex_count s + edge_count s + triangle_count s
    → box_at l k ≡ box_at l' k
boxed_one s p q k h =
    ⊎_elim
    (λ e.
    ⊎_elim
    (λ t. holds_one p.triangles q.triangles k t (omega arith))
    (λ below. holds_one p.edges q.edges k e (omega arith))
    (le_or_lt (vertex_count s + edge_count s) k))
    (λ v. holds_one p.vertices q.vertices k (omega arith) (omega arith))
    (le_or_lt (vertex_count s) k)

pub one_filling_by : (s : Scene) {b : ℕ → Box} {e t : List ℕ} {l l₁ l₂ : List ℤ} → FilledBy s b e t l l₁ → FilledBy s b e t l l₂ → l₁ ≡ l₂
one_filling_by s {l₁ = l₁} {l₂ = l₂} p q =
    let all = vertex_count s + edge_count s + triangle_count s in
    ext_get_or (pos 0) l₁ l₂ (p.kept.same ∙ sym q.kept.same)
    (λ i h.
    ⊎_elim
    (λ behind. p.kept.at i behind ∙ sym (q.kept.at i behind))
    (λ front. numbers_same l₁ l₂ all (boxed_one s p.boxed q.boxed) i front)
    (le_or_lt (6 * all) i))
