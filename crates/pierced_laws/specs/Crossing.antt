-- A point that goes from one end of an edge to the other against a resting triangle: some piece of that pt pair has weights, singular or not,
-- exactly when the edge and the triangle have a place in common. Down: the weights of a corner's start and end add up. Up: the share of the
-- edge's far end is the time, and the corners' weights are put on their ends from the highest corner on until so much is used up; in which
-- corner that comes to pass is the piece. Nothing is multiplied out.
use Prim.Native.Nat.{ℕ, zero, suc, ◌+◌, ◌<◌}
use Rattle.std.specs.Prelude.{◌≡◌, List, [], ◌∷◌, ◌++◌}
use Rattle.std.proofs.Math.Path.{refl}
use Rattle.std.proofs.Math.IntN.{ℤ, pos}
use Rattle.std.proofs.Math.ListN.{get_or}
use Rattle.whole.specs.Vector.{Vector}
use Rattle.meaning.specs.Scene.{Scene, scene_of, start_of, end_of, edge_end, corner, stood_for, corners_of}
use Rattle.meaning.specs.Pieces.{Event, moving_triangle}
use Rattle.meaning.specs.Equations.{time_of, total}
use Rattle.meaning.specs.Text.{coordinates}
use Rattle.meaning.specs.Near.{where_at}
use Rattle.meaning.specs.declared.Corners.{Corners}
use Rattle.meaning.specs.declared.Frame.{Frame}
use Rattle.corner_laws.specs.AtRest.{Still}

-- ---- the weights of a piece of a resting triangle, each corner's two taken together

-- on plain numbers: weights a b c d, what a measure says of the starts x y z and of the ends x' y' z'
module _ (a b c d x x' y y' z z' : ℤ) (h : x' ≡ x) (k : y' ≡ y) (l : z' ≡ z) where
  abbrev pub letters : List ℤ
  letters = a ∷ b ∷ c ∷ d ∷ x ∷ x' ∷ y ∷ y' ∷ z ∷ z' ∷ []

unfoldable pub on_corners : ℕ → (ℕ → ℕ) → List ℕ
on_corners zero w = w 0 ∷ w 1 ∷ (w 2 + w 3) ∷ []
on_corners (suc zero) w = w 0 ∷ (w 1 + w 2) ∷ w 3 ∷ []
on_corners (suc (suc k)) w = (w 0 + w 1) ∷ w 2 ∷ w 3 ∷ []

abbrev pub weights : List ℕ → ℕ → ℤ
weights l i = pos (get_or l i 0)

-- a measure of places, as one of events
abbrev pub of_place : (Vector → ℤ) → Event → ℤ
of_place f e = f e.place

module _ (s : Scene) (c : Corners) (h : Still s.positions c.low) (l : Still s.positions c.middle) (m : Still s.positions c.high) where
  abbrev pub corners : List Vector
  corners = start_of s c.low ∷ start_of s c.middle ∷ start_of s c.high ∷ []

  module _ (p : ℕ) where
    -- the edge goes from the point's start to its end
    abbrev pub way : List Vector
    way = start_of s p ∷ end_of s p ∷ []

    -- ---- up

    -- weights of a piece that are v on the corners, of which n on ends
    pub record Split (v : ℕ → ℕ) (n : ℕ) : Type 0 where
      pub k : ℕ
      pub there : k < 3
      pub w : ℕ → ℕ
      pub low : get_or (on_corners k w) 0 0 ≡ v 0
      pub middle : get_or (on_corners k w) 1 0 ≡ v 1
      pub high : get_or (on_corners k w) 2 0 ≡ v 2
      pub ends : total time_of (λ i. pos (w i)) (moving_triangle s.positions c k) ≡ pos n

-- ---- the key law: vertex p against triangle j, whose corners rest

-- the corners of triangle j rest
pub record Resting (s : Scene) (j : ℕ) : Type 0 where
  pub low : Still s.positions (corners_of s j).low
  pub middle : Still s.positions (corners_of s j).middle
  pub high : Still s.positions (corners_of s j).high

-- ---- so an edge and a triangle at one time are such a pair

-- a scene of one point that goes from p to q, and of a triangle that rests at a b c
abbrev pub crossing : Vector → Vector → Vector → Vector → Vector → Scene
crossing p q a b c = scene_of (coordinates p q ++ coordinates a a ++ coordinates b b ++ coordinates c c) [] (1 ∷ 2 ∷ 3 ∷ []) []

module _ (p q a b c : Vector) where
  pub crossing_rests : Resting (crossing p q a b c) 0
  unfolding stood_for
  crossing_rests = record { low = record { place = refl }; middle = record { place = refl }; high = record { place = refl } }

module _ (s : Scene) (f : Frame) (i j : ℕ) where
  -- the point goes from the first end of edge i to the second, and the triangle rests where triangle j stands at that time
  abbrev pub crossing_of : Scene
  crossing_of = crossing (where_at f s (edge_end s i 0)) (where_at f s (edge_end s i 1)) (where_at f s (corner s j 0)) (where_at f s (corner s j 1)) (where_at f s (corner s j 2))
