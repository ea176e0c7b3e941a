-- Demand 3: 'Send a scene through a whole-number 3 by 3 matrix of nonzero determinant, then add one shift to all start positions and another
-- to all end positions. If both scenes are accepted, every pair without a shared vertex, and each of its pieces, keeps its verdict. A pair
-- culled in either scene is hit in neither.' The verdicts are those of demand 2, in three words and in four; culled in either, a pair is also touch
-- in neither.
use Rattle.std.specs.Prelude.{ℕ, true, false, ◌↔◌, ◌⊎◌, ◌≡◌}
use Rattle.std.proofs.Common.{arith}
use Rattle.whole.specs.Vector.{Vector}
use Rattle.whole.specs.VectorLaws.{Matrix}
use Rattle.meaning.specs.Limits.{contact_limit}
use Rattle.meaning.specs.Scene.{Scene, AcceptedWithin, vertex_count, edge_count, triangle_count}
use Rattle.meaning.specs.Pieces.{piece_of}
use Rattle.meaning.specs.Verdicts.{PieceIs, PairIs}
use Rattle.meaning.specs.Resting.{PieceSettled, PairSettled}
use Rattle.meaning.specs.Refusals.{not_there, shares}
use Rattle.meaning.specs.Boxes.{culled}
use Rattle.meaning.specs.Motion.{first_part, second_part}
use Rattle.meaning.specs.declared.Kind.{Kind}
use Rattle.meaning.specs.declared.Kind.TheVariants.{PointTriangle, EdgeEdge}
use Rattle.meaning.specs.declared.Verdict.{Verdict}
use Rattle.meaning.specs.declared.Verdict.TheVariants.{Hit}
use Rattle.meaning.specs.declared.Settled.{Settled}
use Rattle.meaning.specs.declared.Settled.TheVariants.{Touch}
use Rattle.theory.specs.Moved.{Moves, Known}
use Rattle.theory.proofs.Moved.{moved_keeps_pieces, moved_keeps_pairs, moved_keeps_words, moved_keeps_pair_words, culled_in_either_hit_in_neither, culled_in_either_meets_in_neither}
use Rattle.scene_checks.specs.Facts.{SoundWithin, accepted_sound}
use Rattle.list_pairs.specs.InOrder.{are_there}

-- in a scene or a mesh that can be judged, of whatever size, the vertices of a pair that is there are there
pub vertices_known : {s : Scene} {B : ℕ} → SoundWithin B s → (kind : Kind) (i j : ℕ) → not_there s kind i j ≡ false → Known s kind i j
unfolding not_there first_part second_part
vertices_known {s} a PointTriangle i j there =
    let (h, k) = are_there (vertex_count s) (triangle_count s) i j there in
    record {
      first = (h, tt);
      second = (a.corners j 0 k (omega arith), (a.corners j 1 k (omega arith), (a.corners j 2 k (omega arith), tt)));
    }
vertices_known {s} a EdgeEdge i j there =
    let (h, k) = are_there (edge_count s) (edge_count s) i j there in
    record {
      first = (a.ends i 0 h (omega arith), (a.ends i 1 h (omega arith), tt));
      second = (a.ends j 0 k (omega arith), (a.ends j 1 k (omega arith), tt));
    }

-- so in an accepted scene
pub vertices_there : {s : Scene} {B : ℕ} → AcceptedWithin B s → (kind : Kind) (i j : ℕ) → not_there s kind i j ≡ false → Known s kind i j
vertices_there a = vertices_known (accepted_sound a)

-- in both scenes the pair and each of its pieces have the same verdict and the same word; culled in either, it is hit or touch in neither
pub record KeepsVerdicts (s t : Scene) (kind : Kind) (i j : ℕ) : Type 0 where
  pub pieces : (k : ℕ) (v : Verdict) → PieceIs (piece_of s kind i j k) v ↔ PieceIs (piece_of t kind i j k) v
  pub pair : (v : Verdict) → PairIs s kind i j v ↔ PairIs t kind i j v
  pub piece_words : (k : ℕ) (w : Settled) → PieceSettled (piece_of s kind i j k) w ↔ PieceSettled (piece_of t kind i j k) w
  pub pair_word : (w : Settled) → PairSettled s kind i j w ↔ PairSettled t kind i j w
  pub culled_in_either : (culled s kind i j ≡ true) ⊎ (culled t kind i j ≡ true) → ¬ PairIs s kind i j Hit × ¬ PairIs t kind i j Hit
  pub touch_in_neither : (culled s kind i j ≡ true) ⊎ (culled t kind i j ≡ true) → ¬ PairSettled s kind i j Touch × ¬ PairSettled t kind i j Touch

-- of whatever size: what is asked is that the pair's vertices are there
pub demand3_known : {m : Matrix} {a b : Vector} {s t : Scene} → Moves m a b s t → (kind : Kind) (i j : ℕ) → Known s kind i j → KeepsVerdicts s t kind i j
demand3_known moves kind i j known =
    record {
      pieces = moved_keeps_pieces moves kind i j known;
      pair = moved_keeps_pairs moves kind i j known;
      piece_words = moved_keeps_words moves kind i j known;
      pair_word = moved_keeps_pair_words moves kind i j known;
      culled_in_either = culled_in_either_hit_in_neither moves kind i j known;
      touch_in_neither = λ c. let n = culled_in_either_meets_in_neither moves kind i j known c in (n.0.1, n.1.1);
    }

-- 'Show the verdicts once for any bound up to the new one': whatever ranges the two scenes are accepted in, the limit's or a narrower one
pub demand3 : {m : Matrix} {a b : Vector} {s t : Scene} {B C : ℕ} → Moves m a b s t → AcceptedWithin B s → AcceptedWithin C t
    → (kind : Kind) (i j : ℕ) → not_there s kind i j ≡ false → shares s kind i j ≡ false → KeepsVerdicts s t kind i j
demand3 moves accepted also kind i j there apart = demand3_known moves kind i j (vertices_there accepted kind i j there)

-- so in the range that coordinates had at first, where contacts are given
pub demand3_first_range : {m : Matrix} {a b : Vector} {s t : Scene} → Moves m a b s t → AcceptedWithin contact_limit s → AcceptedWithin contact_limit t
    → (kind : Kind) (i j : ℕ) → not_there s kind i j ≡ false → shares s kind i j ≡ false → KeepsVerdicts s t kind i j
demand3_first_range = demand3
