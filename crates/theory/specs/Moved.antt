-- Demand 3: a scene sent through a whole-number 3 by 3 matrix of nonzero determinant, with one shift added to all start positions and another to all
-- end positions, keeps the verdict of every piece and of every pair. A pair culled in either scene is hit in neither.
use Rattle.std.specs.Prelude.{◌≡◌, refl, ◌≢◌, ℕ, ◌<◌, pos, length}
use Rattle.std.proofs.Common.{sym, ◌∙◌, ap, arith}
use Rattle.std.proofs.Math.Path.{ap₂}
use mathlib.Core.List.{List, []}
use Rattle.whole.specs.Vector.{Vector, plus}
use Rattle.whole.specs.VectorLaws.{Matrix, apply, det}
use Rattle.meaning.specs.Scene.{Scene, scene_of, vertex_count, start_of, end_of, ends_of, corners_of}
use Rattle.meaning.specs.Pieces.{piece_of}
use Rattle.meaning.specs.Resting.{PairSettled}
use Rattle.meaning.specs.Motion.{first_part, second_part}
use Rattle.meaning.specs.Text.{coordinates}
use Rattle.meaning.specs.declared.Kind.{Kind}
use Rattle.meaning.specs.declared.Kind.TheVariants.{PointTriangle, EdgeEdge}
use Rattle.meaning.specs.declared.Settled as Words
use Rattle.theory.specs.Bounds.{Every}
use Rattle.theory.specs.Differences.{at_start, at_end}
use Rattle.theory.specs.MovingParts.{Follows, SameParts, piece_follows}
use Rattle.theory.specs.Sent.{sent}
use Rattle.theory.specs.SentPieces.{sent_piece, start_sent, end_sent}

-- t is s sent through m, with the shift a at the start and b at the end; the edges, triangles and seams stay
pub record Moves (m : Matrix) (a b : Vector) (s t : Scene) : Type 0 where
  pub nonzero : det m ≢ pos 0
  pub starts : (v : ℕ) → v < vertex_count s → start_of t v ≡ plus (apply m (start_of s v)) a
  pub ends : (v : ℕ) → v < vertex_count s → end_of t v ≡ plus (apply m (end_of s v)) b
  pub edges : t.edges ≡ s.edges
  pub triangles : t.triangles ≡ s.triangles
  pub seams : t.seams ≡ s.seams
  pub size : length t.positions ≡ length s.positions

-- there are such scenes: one vertex, sent and shifted, whatever edges, triangles and seams are beside it
pub one_vertex : (m : Matrix) (a b p q : Vector) (e f w : List ℕ) → det m ≢ pos 0
    → Moves m a b (scene_of (coordinates p q) e f w) (scene_of (coordinates (plus (apply m p) a) (plus (apply m q) b)) e f w)
one_vertex m a b p q e f w nonzero = record {
  nonzero = nonzero;
  starts = λ v below. let first : v ≡ 0 = omega arith in rw first refl;
  ends = λ v below. let first : v ≡ 0 = omega arith in rw first refl;
  edges = refl;
  triangles = refl;
  seams = refl;
  size = refl;
}

-- every vertex of the pair's two parts is there
pub record Known (s : Scene) (kind : Kind) (i j : ℕ) : Type 0 where
  pub first : Every (λ v. v < vertex_count s) (first_part s kind i)
  pub second : Every (λ v. v < vertex_count s) (second_part s kind j)

module _ {m : Matrix} {a b : Vector} {s t : Scene} (h : Moves m a b s t) where
  abbrev pub There : ℕ → Type 0
  There v = v < vertex_count s

  pub follows : Follows s t (sent m a b) There
  follows = record {
    starts = λ v k. ap at_start (h.starts v k) ∙ sym (start_sent m a b (start_of s v));
    ends = λ v k. ap at_end (h.ends v k) ∙ sym (end_sent m a b (end_of s v));
  }

  pub same_parts : (kind : Kind) (i j : ℕ) → SameParts s t kind i j
  unfolding SameParts
  same_parts PointTriangle i j =
      ap₂ (λ (l w : List ℕ). corners_of (scene_of [] [] l w) j) h.triangles h.seams
  same_parts EdgeEdge i j = (edge i, edge j)
    where
      edge : (j : ℕ) → ends_of t j ≡ ends_of s j
      edge j = ap₂ (λ (l w : List ℕ). ends_of (scene_of [] l [] w) j) h.edges h.seams

  pub piece_moves : (kind : Kind) (i j : ℕ) → Known s kind i j → (k : ℕ) → piece_of t kind i j k ≡ sent_piece m a b (piece_of s kind i j k)
  piece_moves kind i j known = piece_follows follows kind i j (same_parts kind i j) known.first known.second

  -- ---- the theorem

  module _ (kind : Kind) (i j : ℕ) (known : Known s kind i j) where
    -- neither hit nor touch
    abbrev pub NeverMeets : Scene → Type 0
    NeverMeets u = ¬ PairSettled u kind i j Words.TheVariants.Hit × ¬ PairSettled u kind i j Words.TheVariants.Touch
