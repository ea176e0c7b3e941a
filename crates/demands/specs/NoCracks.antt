-- 'They cut two faces that share an edge along different diagonals, and a corner slips through the crack': not in an accepted scene. Two faces
-- share an edge when they have two corners in common, whether or not the scene has an edge of these two; and what touches a piece of this
-- moving edge touches a piece of both moving triangles, in whatever order their corners are written. Two faces either side of a seam share an
-- edge too: each has corners of its own, and they stand for the same two vertices.
use Rattle.std.specs.Prelude.{ℕ, ◌<◌, List, ◌≡◌, refl}
use Rattle.meaning.specs.Scene.{Scene, Accepted, triangle_count, counts_as, rising, corners_of}
use Rattle.meaning.specs.Pieces.{Event, moving_edge, moving_triangle}
use Rattle.meaning.specs.Equations.{Touch}
use Rattle.theory.specs.NoCrack.{HasTwo, side_pieces_are_faces, touch_through, cut_alike}
use Rattle.demands.specs.StillAccepted.{different_corners}
use Rattle.demands.specs.Sewn.{accepted_sewn}

-- some piece of the moving triangle t touches these points
pub record TouchesTriangle (s : Scene) (t : ℕ) (points : List Event) : Type 0 where
  pub piece : ℕ
  pub there : piece < 3
  pub touch : Touch (moving_triangle s.positions (corners_of s t) piece) points

-- what touches a piece of the moving side a b touches a piece of every moving triangle that has the corners a and b
pub side_touched : {s : Scene} → Accepted s → (a b t : ℕ) → t < triangle_count s → HasTwo s t a b
    → (m : ℕ) (points : List Event) → Touch (moving_edge s.positions (rising s a b) m) points → TouchesTriangle s t points
side_touched {s} accepted a b t there has m points touch =
    let face = side_pieces_are_faces s t a b (different_corners accepted t there) has m in
    let (k, below, through) = touch_through s (corners_of s t) (moving_edge s.positions (rising s a b) m) points face touch in
    record { piece = k; there = below; touch = through }

-- so of two triangles that have the corners a and b both are touched: there is no crack between them
pub no_cracks : {s : Scene} → Accepted s → (a b t t' : ℕ) → t < triangle_count s → t' < triangle_count s → HasTwo s t a b → HasTwo s t' a b
    → (m : ℕ) (points : List Event) → Touch (moving_edge s.positions (rising s a b) m) points → TouchesTriangle s t points × TouchesTriangle s t' points
no_cracks accepted a b t t' there there' has has' m points touch =
    (side_touched accepted a b t there has m points touch, side_touched accepted a b t' there' has' m points touch)

-- ---- at a seam

-- Two faces share an edge: each has two corners of its own, and these stand for the same two vertices. Faces that have two corners in common do,
-- and so do the faces either side of a seam.
pub record ShareAnEdge (s : Scene) (t t' : ℕ) : Type 0 where
  pub a : ℕ
  pub b : ℕ
  pub c : ℕ
  pub d : ℕ
  pub first : HasTwo s t a b
  pub second : HasTwo s t' c d
  pub one : counts_as s a ≡ counts_as s c
  pub other : counts_as s b ≡ counts_as s d

pub corners_in_common : {s : Scene} {t t' : ℕ} (a b : ℕ) → HasTwo s t a b → HasTwo s t' a b → ShareAnEdge s t t'
corners_in_common a b has has' = record { a = a; b = b; c = a; d = b; first = has; second = has'; one = refl; other = refl }

module _ {s : Scene} (accepted : Accepted s) (t t' : ℕ) (there : t < triangle_count s) (there' : t' < triangle_count s) (e : ShareAnEdge s t t') where
  -- both faces cut the moving edge between them into the same two pieces
  pub cut_once : (m : ℕ) → moving_edge s.positions (rising s e.a e.b) m ≡ moving_edge s.positions (rising s e.c e.d) m
  cut_once = cut_alike (accepted_sewn accepted) e.a e.b e.c e.d e.one e.other
