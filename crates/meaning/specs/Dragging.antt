-- Document 02, §8: 'A new operation sets one vertex's six coordinates.' The scene after the move, what refuses it, and what it leaves in the
-- positions and in the stored boxes.
use Rattle.std.specs.Prelude.{ℕ, ◌+◌, ◌*◌, ◌<◌, Bool, cond, ◌||◌, List, [], ◌∷◌, ◌++◌, ◌≡◌, leb, eqb, ℤ, pos, get_or, set, Result}
use Rattle.meaning.specs.Scene.{Scene, scene_of, vertex_count, edge_count, triangle_count, seam_count, edge_end, corner, sewn, onto, some_below, outside, comes_apart}
use Rattle.meaning.specs.Refusals.{Outcome, given, refused, Check, Answers, outcome_alone}
use Rattle.meaning.specs.StoredBoxes.{box_at, vertex_box, edge_box, triangle_box, edge_place, triangle_place, KeptBehind, box_checks}
use Rattle.meaning.specs.declared.Refusal.{Refusal}

-- the positions with the six coordinates of vertex v set to those of c
abbrev pub placed : List ℤ → ℕ → List ℤ → List ℤ
placed p v c =
    set
    (set
    (set
    (set
    (set (set p (6 * v) (get_or c 0 (pos 0))) (6 * v + 1) (get_or c 1 (pos 0)))
    (6 * v + 2) (get_or c 2 (pos 0)))
    (6 * v + 3) (get_or c 3 (pos 0)))
    (6 * v + 4) (get_or c 4 (pos 0)))
    (6 * v + 5) (get_or c 5 (pos 0))

-- the scene after the move
abbrev pub moved_scene : Scene → ℕ → List ℤ → Scene
moved_scene s v c = scene_of (placed s.positions v c) s.edges s.triangles s.seams

-- 2 for the new coordinates
abbrev pub new_outside : List ℤ → Bool
new_outside c = some_below 6 (λ i. outside (get_or c i (pos 0)))

-- 15: a seam would come apart, whichever of its two vertices is moved
abbrev pub tears_seam : Scene → ℕ → List ℤ → Bool
tears_seam s v c = some_below (seam_count s) (λ k. comes_apart (moved_scene s v c) (sewn s k) (onto s k))

-- 12, the scene's, 5, 2, 15
abbrev pub move_checks : Scene → ℕ → List ℤ → List Check
move_checks s v c =
    record { number = 5; holds = leb (vertex_count s) v; carries = 0 }
    ∷ record { number = 2; holds = new_outside c; carries = 0 }
    ∷ record { number = 15; holds = tears_seam s v c; carries = 0 }
    ∷ []

-- the parts with that vertex, by its number
abbrev pub edge_has : Scene → ℕ → ℕ → Bool
edge_has s v j = eqb (edge_end s j 0) v || eqb (edge_end s j 1) v

abbrev pub triangle_has : Scene → ℕ → ℕ → Bool
triangle_has s v j = eqb (corner s j 0) v || eqb (corner s j 1) v || eqb (corner s j 2) v

-- 'boxes of parts with that vertex are then the ones worked out, boxes of parts without that vertex are untouched'; s is the scene after the
-- move
pub record BoxesMoved (s : Scene) (v : ℕ) (b b' : List ℤ) : Type 0 where
  pub vertices : (u : ℕ) → u < vertex_count s → box_at b' u ≡ cond (eqb u v) (vertex_box s u) (box_at b u)
  pub edges : (j : ℕ) → j < edge_count s → box_at b' (edge_place s j) ≡ cond (edge_has s v j) (edge_box s j) (box_at b (edge_place s j))
  pub triangles : (j : ℕ) → j < triangle_count s
      → box_at b' (triangle_place s j) ≡ cond (triangle_has s v j) (triangle_box s j) (box_at b (triangle_place s j))
  pub behind : KeptBehind b b' (vertex_count s + edge_count s + triangle_count s)

-- positions and boxes after the call; a refusal changes nothing
unfoldable pub MovesAfter : {A : Type 0} → Outcome A → Scene → ℕ → List ℤ → List ℤ → List ℤ → List ℤ → Type 0
MovesAfter (given a) s v c p' b b' = (p' ≡ placed s.positions v c) × BoxesMoved (moved_scene s v c) v b b'
MovesAfter (refused n k) s v c p' b b' = (p' ≡ s.positions) × (b' ≡ b)

-- vertex v of a scene is moved to c: its positions are p' then, and the box buffer held b and holds b'
pub record VertexMoved (s : Scene) (v : ℕ) (c p' b b' : List ℤ) (r : Result (Unit {0}) Refusal) : Type 0 where
  pub answer : Answers (box_checks s b ++ move_checks s v c) (λ t. Unit {0}) (outcome_alone r)
  pub buffers : MovesAfter (outcome_alone r) s v c p' b b'
