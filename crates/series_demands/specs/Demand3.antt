-- Demand 3 of a series: 'one matrix serves the series and each boundary between steps has its own shift'. Every step keeps its verdicts.
use Rattle.std.specs.Prelude.{ℕ, ◌+◌, ◌*◌, ◌<◌, true, false, ◌≡◌, refl, ℤ, pos, length, get_or}
use mathlib.Core.List.{List, [], ◌∷◌}
use Rattle.std.proofs.Common.{ap, ◌∙◌, arith}
use Rattle.whole.specs.Vector.{Vector, plus}
use Rattle.whole.specs.VectorLaws.{Matrix, apply}
use Rattle.meaning.specs.Scene.{Scene, vertex_count, vector_at, start_of, end_of, Accepted}
use Rattle.meaning.specs.Refusals.{not_there, shares}
use Rattle.meaning.specs.declared.Kind.{Kind}
use Rattle.theory.specs.Moved.{Moves}
use Rattle.demands.specs.Demand3.{KeepsVerdicts}
use Rattle.meaning.specs.Series.{Series, goes_on, step_after}
use Rattle.series_laws.specs.Stepping.{step_at}

module _ (m : Matrix) (shift : ℕ → Vector) where
  -- the next ends of a block are sent and shifted as boundary n
  abbrev pub BlockMoves : ℕ → ℕ → List ℤ → List ℤ → Type 0
  BlockMoves n count e f = (v : ℕ) → v < count → vector_at f (3 * v) ≡ plus (apply m (vector_at e (3 * v))) (shift n)

  unfoldable pub BlocksMove : ℕ → ℕ → List (List ℤ) → List (List ℤ) → Type 0
  BlocksMove n count [] [] = Unit {0}
  BlocksMove n count [] (f ∷ fs) = ⊥
  BlocksMove n count (e ∷ es) [] = ⊥
  BlocksMove n count (e ∷ es) (f ∷ fs) = BlockMoves n count e f × BlocksMove (n + 1) count es fs

  -- boundary 0 is the start of step 1, and boundary n the end of step n
  pub record SeriesMoves (x y : Series) : Type 0 where
    pub scene : Moves m (shift 0) (shift 1) x.scene y.scene
    pub blocks : BlocksMove 2 (vertex_count x.scene) x.blocks y.blocks

  -- both series have as many steps, and each is sent with the shifts of its two boundaries
  unfoldable pub StepsMove : ℕ → List Scene → List Scene → Type 0
  StepsMove n [] [] = Unit {0}
  StepsMove n [] (t ∷ ts) = ⊥
  StepsMove n (s ∷ ss) [] = ⊥
  StepsMove n (s ∷ ss) (t ∷ ts) = Moves m (shift n) (shift (n + 1)) s t × StepsMove (n + 1) ss ts

-- ---- a step starts at the last ends, and ends at the next

module _ (s : Scene) (e : List ℤ) (v : ℕ) (h : v < vertex_count s) where
  coordinate : (k : ℕ) → k < 6 → (i : ℕ) → i ≡ v * 6 + k → get_or (step_after s e).positions i (pos 0) ≡ get_or (goes_on s e v) k (pos 0)
  coordinate k l i at = ap (λ (n : ℕ). get_or (step_after s e).positions n (pos 0)) at ∙ step_at s e v k h l

  pub step_starts : start_of (step_after s e) v ≡ end_of s v
  step_starts =
      let a = coordinate 0 (omega arith) (6 * v) (omega arith) in
      let b = coordinate 1 (omega arith) (6 * v + 1) (omega arith) in
      let c = coordinate 2 (omega arith) (6 * v + 2) (omega arith) in
      λ i. record { x = a i; y = b i; z = c i }

  pub step_ends : end_of (step_after s e) v ≡ vector_at e (3 * v)
  step_ends =
      let a = coordinate 3 (omega arith) (6 * v + 3) (omega arith) in
      let b = coordinate 4 (omega arith) (6 * v + 3 + 1) (omega arith) in
      let c = coordinate 5 (omega arith) (6 * v + 3 + 2) (omega arith) in
      λ i. record { x = a i; y = b i; z = c i }

-- ---- the demand, step by step

unfoldable pub AllAccepted : List Scene → Type 0
AllAccepted [] = Unit {0}
AllAccepted (s ∷ ss) = Accepted s × AllAccepted ss

-- every pair of a step without a shared vertex, and each of its pieces, keeps its verdict and its word; culled in either, it is hit or touch in neither
unfoldable pub StepsKeep : List Scene → List Scene → Type 0
StepsKeep [] [] = Unit {0}
StepsKeep [] (t ∷ ts) = ⊥
StepsKeep (s ∷ ss) [] = ⊥
StepsKeep (s ∷ ss) (t ∷ ts) =
    ((kind : Kind) (i j : ℕ) → not_there s kind i j ≡ false → shares s kind i j ≡ false → KeepsVerdicts s t kind i j) × StepsKeep ss ts
