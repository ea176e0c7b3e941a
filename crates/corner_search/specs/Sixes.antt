-- The six points of each of a pair's pieces: a vertex stands at 6 v at the start and at 6 v + 3 at the end.
use Rattle.std.specs.Prelude.{ℕ, zero, suc, ◌+◌, ◌*◌, ◌/◌, ◌%◌, min, max, ◌≡◌, refl, true, false, [], ◌∷◌}
use Rattle.std.proofs.Common.{arith}
use Rattle.meaning.specs.Scene.{Scene, ends_of, corners_of}
use Rattle.meaning.specs.Pieces.{moving_point, moving_edge, moving_triangle, piece_of}
use Rattle.meaning.specs.declared.Kind.{Kind}
use Rattle.meaning.specs.declared.Kind.TheVariants.{PointTriangle, EdgeEdge}
use Rattle.meaning.specs.declared.Ends.{Ends}
use Rattle.meaning.specs.declared.Corners.{Corners}
use Rattle.corner_leaf.specs.declared.SixPoints.{SixPoints}
use Rattle.corner_leaf.specs.Points.{piece_at, Timed}

abbrev start_at : ℕ → ℕ
start_at v = 6 * v

abbrev end_at : ℕ → ℕ
end_at v = 6 * v + 3

-- point p against piece k of a triangle
unfoldable pub point_six : ℕ → Corners → ℕ → SixPoints
point_six p c zero = record {
  at = start_at p ∷ end_at p ∷ start_at c.low ∷ start_at c.middle ∷ start_at c.high ∷ end_at c.high ∷ [];
  ends = false ∷ true ∷ false ∷ false ∷ false ∷ true ∷ [];
  first = 2;
}
point_six p c (suc zero) = record {
  at = start_at p ∷ end_at p ∷ start_at c.low ∷ start_at c.middle ∷ end_at c.middle ∷ end_at c.high ∷ [];
  ends = false ∷ true ∷ false ∷ false ∷ true ∷ true ∷ [];
  first = 2;
}
point_six p c (suc (suc k)) = record {
  at = start_at p ∷ end_at p ∷ start_at c.low ∷ end_at c.low ∷ end_at c.middle ∷ end_at c.high ∷ [];
  ends = false ∷ true ∷ false ∷ true ∷ true ∷ true ∷ [];
  first = 2;
}

-- piece A (0) or B (1) of the first edge against that of the second
unfoldable pub edges_six : Ends → ℕ → Ends → ℕ → SixPoints
edges_six e zero f zero = record {
  at = start_at e.low ∷ start_at e.high ∷ end_at e.high ∷ start_at f.low ∷ start_at f.high ∷ end_at f.high ∷ [];
  ends = false ∷ false ∷ true ∷ false ∷ false ∷ true ∷ [];
  first = 3;
}
edges_six e zero f (suc j) = record {
  at = start_at e.low ∷ start_at e.high ∷ end_at e.high ∷ start_at f.low ∷ end_at f.low ∷ end_at f.high ∷ [];
  ends = false ∷ false ∷ true ∷ false ∷ true ∷ true ∷ [];
  first = 3;
}
edges_six e (suc i) f zero = record {
  at = start_at e.low ∷ end_at e.low ∷ end_at e.high ∷ start_at f.low ∷ start_at f.high ∷ end_at f.high ∷ [];
  ends = false ∷ true ∷ true ∷ false ∷ false ∷ true ∷ [];
  first = 3;
}
edges_six e (suc i) f (suc j) = record {
  at = start_at e.low ∷ end_at e.low ∷ end_at e.high ∷ start_at f.low ∷ end_at f.low ∷ end_at f.high ∷ [];
  ends = false ∷ true ∷ true ∷ false ∷ true ∷ true ∷ [];
  first = 3;
}

-- the piece of a pair that is asked for
unfoldable pub six_of : Scene → Kind → ℕ → ℕ → ℕ → SixPoints
six_of s PointTriangle i j k = point_six i (corners_of s j) k
six_of s EdgeEdge i j k = edges_six (ends_of s (min i j)) (k / 2) (ends_of s (max i j)) (k % 2)

-- ---- the six points are the piece's, and as they are in every piece

pub point_piece : (s : Scene) (p : ℕ) (c : Corners) (k : ℕ) → piece_at s.positions (point_six p c k) ≡ record { first = moving_point s.positions p; second = moving_triangle s.positions c k }
unfolding point_six moving_triangle
point_piece s p c zero = refl
point_piece s p c (suc zero) = refl
point_piece s p c (suc (suc k)) = refl

pub point_timed : (p : ℕ) (c : Corners) (k : ℕ) → Timed (point_six p c k)
unfolding point_six
point_timed p c zero = record { starts = refl; ends = refl; split = omega arith }
point_timed p c (suc zero) = record { starts = refl; ends = refl; split = omega arith }
point_timed p c (suc (suc k)) = record { starts = refl; ends = refl; split = omega arith }

pub edges_piece : (s : Scene) (e : Ends) (i : ℕ) (f : Ends) (j : ℕ) → piece_at s.positions (edges_six e i f j) ≡ record { first = moving_edge s.positions e i; second = moving_edge s.positions f j }
unfolding edges_six moving_edge
edges_piece s e zero f zero = refl
edges_piece s e zero f (suc j) = refl
edges_piece s e (suc i) f zero = refl
edges_piece s e (suc i) f (suc j) = refl

pub edges_timed : (e : Ends) (i : ℕ) (f : Ends) (j : ℕ) → Timed (edges_six e i f j)
unfolding edges_six
edges_timed e zero f zero = record { starts = refl; ends = refl; split = omega arith }
edges_timed e zero f (suc j) = record { starts = refl; ends = refl; split = omega arith }
edges_timed e (suc i) f zero = record { starts = refl; ends = refl; split = omega arith }
edges_timed e (suc i) f (suc j) = record { starts = refl; ends = refl; split = omega arith }

module _ (s : Scene) where
  pub six_piece : (kind : Kind) (i j k : ℕ) → piece_at s.positions (six_of s kind i j k) ≡ piece_of s kind i j k
  unfolding six_of piece_of
  six_piece PointTriangle i j k = point_piece s i (corners_of s j) k
  six_piece EdgeEdge i j k = edges_piece s (ends_of s (min i j)) (k / 2) (ends_of s (max i j)) (k % 2)

  pub six_timed : (kind : Kind) (i j k : ℕ) → Timed (six_of s kind i j k)
  unfolding six_of
  six_timed PointTriangle i j k = point_timed i (corners_of s j) k
  six_timed EdgeEdge i j k = edges_timed (ends_of s (min i j)) (k / 2) (ends_of s (max i j)) (k % 2)
