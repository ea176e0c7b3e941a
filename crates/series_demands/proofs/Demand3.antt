-- Demand 3 of a series: where a series moves each of its steps moves, and every step keeps its verdicts.
use Rattle.std.specs.Prelude.{ℕ, ◌+◌, ◌*◌, ◌/◌, ◌<◌, ◌≡◌, ℤ}
use mathlib.Core.List.{List, [], ◌∷◌}
use Rattle.std.proofs.Common.{sym, ap, ◌∙◌, subst}
use Rattle.whole.specs.Vector.{Vector, plus}
use Rattle.whole.specs.VectorLaws.{Matrix, apply}
use Rattle.meaning.specs.Scene.{Scene, vertex_count}
use Rattle.theory.specs.Moved.{Moves}
use Rattle.demands.specs.Demand3.{demand3}
use Rattle.meaning.specs.Series.{Series, step_after, steps_from, steps_of}
use Rattle.series_laws.specs.Stepping.{step_length, step_vertices, step_edges, step_triangles, step_seams}
use Rattle.series_demands.specs.Demand3.{BlockMoves, BlocksMove, SeriesMoves, StepsMove, step_starts, step_ends, AllAccepted, StepsKeep}

module _ (m : Matrix) (shift : ℕ → Vector) where
  -- the step after a step that is sent is sent
  next_moves : (n : ℕ) {a : Vector} {s t : Scene} (e f : List ℤ) → Moves m a (shift n) s t → BlockMoves m shift (n + 1) (vertex_count s) e f
      → Moves m (shift n) (shift (n + 1)) (step_after s e) (step_after t f)
  next_moves n {a} {s} {t} e f h k =
      let as_many : vertex_count t ≡ vertex_count s = ap (λ (l : ℕ). l / 6) h.size in
      let inside : (v : ℕ) → v < vertex_count (step_after s e) → v < vertex_count s = λ v l. subst (λ (c : ℕ). v < c) (step_vertices s e) l in
      let inside' : (v : ℕ) → v < vertex_count s → v < vertex_count t = λ v l. subst (λ (c : ℕ). v < c) (sym as_many) l in
      record {
        nonzero = h.nonzero;
        starts = λ v l.
            step_starts t f v (inside' v (inside v l)) ∙ h.ends v (inside v l) ∙ ap (λ (p : Vector). plus (apply m p) (shift n)) (sym (step_starts s e v (inside v l)));
        ends = λ v l.
            step_ends t f v (inside' v (inside v l)) ∙ k v (inside v l) ∙ ap (λ (p : Vector). plus (apply m p) (shift (n + 1))) (sym (step_ends s e v (inside v l)));
        edges = step_edges t f ∙ h.edges ∙ sym (step_edges s e);
        triangles = step_triangles t f ∙ h.triangles ∙ sym (step_triangles s e);
        seams = step_seams t f ∙ h.seams ∙ sym (step_seams s e);
        size = step_length t f ∙ ap (λ (c : ℕ). 6 * c) as_many ∙ sym (step_length s e);
      }

  moves_from : (n : ℕ) (s t : Scene) (es fs : List (List ℤ)) → Moves m (shift n) (shift (n + 1)) s t → BlocksMove m shift (n + 1 + 1) (vertex_count s) es fs
      → StepsMove m shift n (steps_from s es) (steps_from t fs)
  unfolding StepsMove BlocksMove steps_from
  moves_from n s t [] [] h k = (h, tt)
  moves_from n s t [] (f ∷ fs) h k = absurd k
  moves_from n s t (e ∷ es) [] h k = absurd k
  moves_from n s t (e ∷ es) (f ∷ fs) h k = (
    h,
    moves_from (n + 1) (step_after s e) (step_after t f) es fs (next_moves (n + 1) e f h k.0)
        (subst (λ (c : ℕ). BlocksMove m shift (n + 1 + 1 + 1) c es fs) (sym (step_vertices s e)) k.1),
  )

  pub steps_move : (x y : Series) → SeriesMoves m shift x y → StepsMove m shift 0 (steps_of x) (steps_of y)
  steps_move x y h = moves_from 0 x.scene y.scene x.blocks y.blocks h.scene h.blocks

steps_keep : (m : Matrix) (shift : ℕ → Vector) (n : ℕ) (ss ts : List Scene) → StepsMove m shift n ss ts → AllAccepted ss → AllAccepted ts → StepsKeep ss ts
unfolding StepsMove AllAccepted StepsKeep
steps_keep m shift n [] [] h a b = tt
steps_keep m shift n [] (t ∷ ts) h a b = absurd h
steps_keep m shift n (s ∷ ss) [] h a b = absurd h
steps_keep m shift n (s ∷ ss) (t ∷ ts) h a b = (
  λ kind i j there apart. demand3 h.0 a.0 b.0 kind i j there apart,
  steps_keep m shift (n + 1) ss ts h.1 a.1 b.1,
)

pub demand3_series : (m : Matrix) (shift : ℕ → Vector) (x y : Series) → SeriesMoves m shift x y → AllAccepted (steps_of x) → AllAccepted (steps_of y)
    → StepsKeep (steps_of x) (steps_of y)
demand3_series m shift x y h a b = steps_keep m shift 0 (steps_of x) (steps_of y) (steps_move m shift x y h) a b
