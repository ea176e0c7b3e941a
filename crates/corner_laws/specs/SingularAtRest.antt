-- Where a simplex holds a vertex at both times and that vertex rests, its two points differ in time alone: 1 for the start and -1 for the end
-- measure 0 in everything but time. Where both simplices of a piece do so, these numbers balance and are not all 0: the piece is singular.
use Prim.Native.Nat.{ℕ, zero, suc, ◌/◌, ◌%◌, ◌<◌}
use Rattle.std.proofs.Common.{arith, sym, ◌∙◌, ap}
use Rattle.std.specs.Prelude.{◌≡◌, List, [], ◌∷◌, ℤ, pos, negsuc, ◌+ℤ◌, ◌*ℤ◌, length, get_or}
use Rattle.std.proofs.Math.Path.{refl}
use Rattle.std.proofs.Math.IntN.{zero-*ℤ}
use Rattle.whole.specs.Vector.{Vector}
use Rattle.whole.specs.Laws.{*ℤ_idl}
use Rattle.whole.specs.Quote.{quotes, combine, times}
use Rattle.whole.specs.Cramer.{Four, volumes}
use Rattle.meaning.specs.Scene.{Scene}
use Rattle.meaning.specs.Pieces.{Event, starting, ending, moving_point, moving_edge, moving_triangle, piece_of}
use Rattle.meaning.specs.Equations.{one, time_of, total, determinant_of, Balanced}
use Rattle.meaning.specs.declared.Ends.{Ends}
use Rattle.meaning.specs.declared.Corners.{Corners}
use Rattle.meaning.specs.declared.Kind.{Kind}
use Rattle.meaning.specs.declared.Kind.TheVariants.{PointTriangle, EdgeEdge}
use Rattle.theory.specs.Differences.{differences, Form, alone, around, formed}
use Rattle.theory.specs.Spread.{factor, first_numbers, weights_of}
use Rattle.theory.proofs.Shapes.{solved}
use Rattle.theory.specs.Bridge.{singular_is}
use Rattle.corner_laws.specs.Level.{Measure, ones, in_x, in_y, in_z, in_time, read, balanced_by}
use Rattle.corner_laws.specs.AtRest.{Still, Timeless, still_alike, AllStill}

abbrev numbers : List ℤ → ℕ → ℤ
numbers l i = get_or l i (pos 0)

-- numbers of the points of one simplex that measure 0 in everything but time, and there -1
record Turns (a : List Event) (u : List ℤ) : Type 0 where
  nothing : (f : Event → ℤ) → Timeless f → total f (numbers u) a ≡ pos 0
  back : total time_of (numbers u) a ≡ negsuc 0

turns_balance : {a b : List Event} {u v : List ℤ} → Turns a u → Turns b v → Balanced a b (numbers u) (numbers v)
turns_balance {a} {b} {u} {v} p q = balanced_by go
  where
    go : (m : Measure) → total (read m) (numbers u) a ≡ total (read m) (numbers v) b
    go ones = p.nothing one (λ x. refl) ∙ sym (q.nothing one (λ x. refl))
    go in_x = p.nothing (read in_x) (λ x. refl) ∙ sym (q.nothing (read in_x) (λ x. refl))
    go in_y = p.nothing (read in_y) (λ x. refl) ∙ sym (q.nothing (read in_y) (λ x. refl))
    go in_z = p.nothing (read in_z) (λ x. refl) ∙ sym (q.nothing (read in_z) (λ x. refl))
    go in_time = p.back ∙ sym q.back

-- a piece with such numbers on both sides is singular
singular : (form : Form) (p q : Vector) (o : Four Event) (u v : List ℤ) → Turns (formed form p q o).first u → Turns (formed form p q o).second v → (i : ℕ) → i < length (formed form p q o).first → numbers u i ≡ pos 1 → determinant_of (formed form p q o) ≡ pos 0
singular form p q o u v h k i l e =
    (singular_is form p q o).1
    (sym (*ℤ_idl D) ∙ ap (λ z. z *ℤ D) (sym e) ∙ (solved form p q o).first (numbers u) (numbers v) (turns_balance h k) i l ∙ ap (λ z. z *ℤ d) (h.nothing one (λ x. refl)) ∙ zero-*ℤ d)
  where
    D : ℤ
    D = factor form (volumes (differences p q o))

    d : ℤ
    d = weights_of (first_numbers form o (volumes (differences p q o))) i

-- ---- of each moving part

two_gone : (x x' : ℤ) → x' ≡ x → pos 1 *ℤ x +ℤ (negsuc 0 *ℤ x' +ℤ pos 0) ≡ pos 0
two_gone x x' h = combine (x ∷ x' ∷ []) (times (negsuc 0) h ∷ []) (search quotes depth 40 fits 9000) refl

last_gone : (a x x' : ℤ) → x' ≡ x → pos 0 *ℤ a +ℤ (pos 1 *ℤ x +ℤ (negsuc 0 *ℤ x' +ℤ pos 0)) ≡ pos 0
last_gone a x x' h = combine (a ∷ x ∷ x' ∷ []) (times (negsuc 0) h ∷ []) (search quotes depth 40 fits 9000) refl

first_gone : (x x' a : ℤ) → x' ≡ x → pos 1 *ℤ x +ℤ (negsuc 0 *ℤ x' +ℤ (pos 0 *ℤ a +ℤ pos 0)) ≡ pos 0
first_gone x x' a h = combine (x ∷ x' ∷ a ∷ []) (times (negsuc 0) h ∷ []) (search quotes depth 40 fits 9000) refl

four_gone₀ : (a b x x' : ℤ) → x' ≡ x → pos 0 *ℤ a +ℤ (pos 0 *ℤ b +ℤ (pos 1 *ℤ x +ℤ (negsuc 0 *ℤ x' +ℤ pos 0))) ≡ pos 0
four_gone₀ a b x x' h = combine (a ∷ b ∷ x ∷ x' ∷ []) (times (negsuc 0) h ∷ []) (search quotes depth 40 fits 9000) refl

four_gone₁ : (a x x' b : ℤ) → x' ≡ x → pos 0 *ℤ a +ℤ (pos 1 *ℤ x +ℤ (negsuc 0 *ℤ x' +ℤ (pos 0 *ℤ b +ℤ pos 0))) ≡ pos 0
four_gone₁ a x x' b h = combine (a ∷ x ∷ x' ∷ b ∷ []) (times (negsuc 0) h ∷ []) (search quotes depth 40 fits 9000) refl

four_gone₂ : (x x' a b : ℤ) → x' ≡ x → pos 1 *ℤ x +ℤ (negsuc 0 *ℤ x' +ℤ (pos 0 *ℤ a +ℤ (pos 0 *ℤ b +ℤ pos 0))) ≡ pos 0
four_gone₂ x x' a b h = combine (x ∷ x' ∷ a ∷ b ∷ []) (times (negsuc 0) h ∷ []) (search quotes depth 40 fits 9000) refl

abbrev point_turn : List ℤ
point_turn = pos 1 ∷ negsuc 0 ∷ []

abbrev edge_turn : ℕ → List ℤ
edge_turn zero = pos 0 ∷ pos 1 ∷ negsuc 0 ∷ []
edge_turn (suc k) = pos 1 ∷ negsuc 0 ∷ pos 0 ∷ []

abbrev triangle_turn : ℕ → List ℤ
triangle_turn zero = pos 0 ∷ pos 0 ∷ pos 1 ∷ negsuc 0 ∷ []
triangle_turn (suc zero) = pos 0 ∷ pos 1 ∷ negsuc 0 ∷ pos 0 ∷ []
triangle_turn (suc (suc k)) = pos 1 ∷ negsuc 0 ∷ pos 0 ∷ pos 0 ∷ []

module _ (ps : List ℤ) where
  point_turns : {p : ℕ} → Still ps p → Turns (moving_point ps p) point_turn
  unfolding total
  point_turns {p} h = record { nothing = λ f t. two_gone (f (starting ps p)) (f (ending ps p)) (still_alike h f t); back = refl }

  edge_turns : {e : Ends} → Still ps e.low → Still ps e.high → (k : ℕ) → Turns (moving_edge ps e k) (edge_turn k)
  unfolding total moving_edge
  edge_turns {e} h l zero = record { nothing = λ f t. last_gone (f (starting ps e.low)) (f (starting ps e.high)) (f (ending ps e.high)) (still_alike l f t); back = refl }
  edge_turns {e} h l (suc k) = record { nothing = λ f t. first_gone (f (starting ps e.low)) (f (ending ps e.low)) (f (ending ps e.high)) (still_alike h f t); back = refl }

  triangle_turns : {c : Corners} → Still ps c.low → Still ps c.middle → Still ps c.high → (k : ℕ) → Turns (moving_triangle ps c k) (triangle_turn k)
  unfolding total moving_triangle
  triangle_turns {c} h l m zero = record { nothing = λ f t. four_gone₀ (f (starting ps c.low)) (f (starting ps c.middle)) (f (starting ps c.high)) (f (ending ps c.high)) (still_alike m f t); back = refl }
  triangle_turns {c} h l m (suc zero) = record { nothing = λ f t. four_gone₁ (f (starting ps c.low)) (f (starting ps c.middle)) (f (ending ps c.middle)) (f (ending ps c.high)) (still_alike l f t); back = refl }
  triangle_turns {c} h l m (suc (suc k)) = record { nothing = λ f t. four_gone₂ (f (starting ps c.low)) (f (ending ps c.low)) (f (ending ps c.middle)) (f (ending ps c.high)) (still_alike h f t); back = refl }

-- ---- so every piece of a pair that rests is singular

module _ (s : Scene) where
  abbrev ps : List ℤ
  ps = s.positions

  point_singular : {p : ℕ} {c : Corners} → Still ps p → Still ps c.low → Still ps c.middle → Still ps c.high → (k : ℕ)
      → determinant_of (record { first = moving_point ps p; second = moving_triangle ps c k }) ≡ pos 0
  unfolding formed moving_triangle
  point_singular h l m n zero = singular alone _ _ _ point_turn (triangle_turn 0) (point_turns ps h) (triangle_turns ps l m n 0) 0 (omega arith) refl
  point_singular h l m n (suc zero) = singular alone _ _ _ point_turn (triangle_turn 1) (point_turns ps h) (triangle_turns ps l m n 1) 0 (omega arith) refl
  point_singular h l m n (suc (suc k)) = singular alone _ _ _ point_turn (triangle_turn (suc (suc k))) (point_turns ps h) (triangle_turns ps l m n (suc (suc k))) 0 (omega arith) refl

  edges_singular : {e f : Ends} → Still ps e.low → Still ps e.high → Still ps f.low → Still ps f.high → (i j : ℕ)
      → determinant_of (record { first = moving_edge ps e i; second = moving_edge ps f j }) ≡ pos 0
  unfolding formed moving_edge
  edges_singular h l m n zero zero = singular around _ _ _ (edge_turn 0) (edge_turn 0) (edge_turns ps h l 0) (edge_turns ps m n 0) 1 (omega arith) refl
  edges_singular h l m n zero (suc j) = singular around _ _ _ (edge_turn 0) (edge_turn (suc j)) (edge_turns ps h l 0) (edge_turns ps m n (suc j)) 1 (omega arith) refl
  edges_singular h l m n (suc i) zero = singular around _ _ _ (edge_turn (suc i)) (edge_turn 0) (edge_turns ps h l (suc i)) (edge_turns ps m n 0) 0 (omega arith) refl
  edges_singular h l m n (suc i) (suc j) = singular around _ _ _ (edge_turn (suc i)) (edge_turn (suc j)) (edge_turns ps h l (suc i)) (edge_turns ps m n (suc j)) 0 (omega arith) refl

  pub singular_at_rest : (kind : Kind) (i j k : ℕ) → AllStill s kind i j → determinant_of (piece_of s kind i j k) ≡ pos 0
  unfolding AllStill piece_of
  singular_at_rest PointTriangle i j k h = point_singular h.0 h.1 h.2 h.3 k
  singular_at_rest EdgeEdge i j k h = edges_singular h.0 h.1 h.2 h.3 (k / 2) (k % 2)
