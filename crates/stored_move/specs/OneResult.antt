-- Two results that meet the promise are equal, refused calls too: boxes filled in, and a vertex moved.
use Rattle.std.specs.Prelude.{ℕ, List, ◌++◌, ◌≡◌, refl, ℤ, Result}
use Rattle.std.proofs.Common.{sym, subst, ◌∙◌}
use Rattle.meaning.specs.Scene.{Scene}
use Rattle.meaning.specs.Refusals.{Outcome, given, refused, outcome_alone}
use Rattle.meaning.specs.StoredBoxes.{box_checks, FillsAfter, BoxesFilled}
use Rattle.meaning.specs.Dragging.{moved_scene, move_checks, MovesAfter, VertexMoved}
use Rattle.answers.specs.Answering.{one_answer}
use Rattle.list_boxes.specs.Once.{one_filling}
use Rattle.stored_laws.specs.Once.{one_move}
use Rattle.meaning.specs.declared.Refusal.{Refusal}
use Rattle.answers.specs.Speaking.{one_alone}

abbrev Fine : Unit {0} → Type 0
Fine t = Unit {0}

fills_one : (o : Outcome (Unit {0})) (s : Scene) (b b₁ b₂ : List ℤ) → FillsAfter o s b b₁ → FillsAfter o s b b₂ → b₁ ≡ b₂
unfolding FillsAfter
fills_one (given t) s b b₁ b₂ p q = one_filling s p q
fills_one (refused n c) s b b₁ b₂ p q = p ∙ sym q

pub one_filled : (s : Scene) (b b₁ b₂ : List ℤ) (r r' : Result (Unit {0}) Refusal) → BoxesFilled s b b₁ r → BoxesFilled s b b₂ r' → (r ≡ r') × (b₁ ≡ b₂)
one_filled s b b₁ b₂ r r' p q =
    let same : outcome_alone r ≡ outcome_alone r' = one_answer Fine (λ x y h k. refl) (box_checks s b) (outcome_alone r) (outcome_alone r') p.answer q.answer in
    (one_alone r r' same, fills_one (outcome_alone r') s b b₁ b₂ (subst (λ (o : Outcome (Unit {0})). FillsAfter o s b b₁) same p.buffer) q.buffer)

moves_one : (o : Outcome (Unit {0})) (s : Scene) (v : ℕ) (c p₁ p₂ b b₁ b₂ : List ℤ) → MovesAfter o s v c p₁ b b₁ → MovesAfter o s v c p₂ b b₂
    → (p₁ ≡ p₂) × (b₁ ≡ b₂)
unfolding MovesAfter
moves_one (given t) s v c p₁ p₂ b b₁ b₂ p q = (p.0 ∙ sym q.0, one_move (moved_scene s v c) v p.1 q.1)
moves_one (refused n k) s v c p₁ p₂ b b₁ b₂ p q = (p.0 ∙ sym q.0, p.1 ∙ sym q.1)

pub one_moved : (s : Scene) (v : ℕ) (c p₁ p₂ b b₁ b₂ : List ℤ) (r r' : Result (Unit {0}) Refusal) → VertexMoved s v c p₁ b b₁ r → VertexMoved s v c p₂ b b₂ r'
    → (r ≡ r') × (p₁ ≡ p₂) × (b₁ ≡ b₂)
one_moved s v c p₁ p₂ b b₁ b₂ r r' p q =
    let same : outcome_alone r ≡ outcome_alone r' =
    one_answer Fine (λ x y h k. refl) (box_checks s b ++ move_checks s v c) (outcome_alone r) (outcome_alone r') p.answer q.answer in
    let (places, boxes) =
    moves_one (outcome_alone r') s v c p₁ p₂ b b₁ b₂ (subst (λ (o : Outcome (Unit {0})). MovesAfter o s v c p₁ b b₁) same p.buffers) q.buffers in
    (one_alone r r' same, places, boxes)
