-- Demand 3 for an edge and a triangle at one time: maps and shifts keep the word; the order of writing changes nothing; and one frame given twice
-- has one word.
use Rattle.std.specs.Prelude.{ℕ, ◌<◌, false, ◌↔◌, ◌⊎◌, ◌≡◌}
use Rattle.std.proofs.Common.{arith, inl, inr}
use Rattle.whole.specs.Vector.{Vector}
use Rattle.whole.specs.VectorLaws.{Matrix}
use Rattle.meaning.specs.Scene.{Scene, AcceptedWithin, vertex_count}
use Rattle.meaning.specs.Pierced.{no_edge_or_triangle, end_is_corner, Pierced}
use Rattle.meaning.specs.declared.Frame.{Frame}
use Rattle.theory.specs.Bounds.{Every}
use Rattle.theory.specs.Moved.{Moves}
use Rattle.theory.specs.Rewritten.{Rewritten}
use Rattle.theory.specs.Written.{ends_written, corners_written}
use Rattle.scene_checks.specs.Facts.{accepted_end, accepted_corner}
use Rattle.pierced_laws.specs.BoxesApart.{boxes_meet_at, boxes_apart_lem}
use Rattle.pierced_laws.specs.Kept.{moved_keeps_pierced, rewritten_keeps_pierced}
use Rattle.pierced_pair.specs.Asked.{parts_there}

-- in both scenes the pair has the same word; where its boxes at that time do not meet in either, it is pierced in neither
pub record KeepsPierced (s t : Scene) (f : Frame) (i j : ℕ) : Type 0 where
  pub word : Pierced s f i j ↔ Pierced t f i j
  pub apart_in_either : (boxes_meet_at s f i j ≡ false) ⊎ (boxes_meet_at t f i j ≡ false) → ¬ Pierced s f i j × ¬ Pierced t f i j

pub demand3_pierced : {m : Matrix} {a b : Vector} {s t : Scene} {B C : ℕ} → Moves m a b s t → AcceptedWithin B s → AcceptedWithin C t
    → (f : Frame) (i j : ℕ) → no_edge_or_triangle s i j ≡ false → end_is_corner s i j ≡ false → KeepsPierced s t f i j
demand3_pierced {s = s} {t = t} moves accepted also f i j there apart = record { word = word; apart_in_either = neither }
  where
    ends : Every (λ v. v < vertex_count s) (ends_written s i)
    ends = let h = (parts_there s f i j there).0 in (accepted_end accepted i 0 h (omega arith), (accepted_end accepted i 1 h (omega arith), tt))

    corners : Every (λ v. v < vertex_count s) (corners_written s j)
    corners =
        let k = (parts_there s f i j there).1 in
        (accepted_corner accepted j 0 k (omega arith), (accepted_corner accepted j 1 k (omega arith), (accepted_corner accepted j 2 k (omega arith), tt)))

    word : Pierced s f i j ↔ Pierced t f i j
    word = moved_keeps_pierced moves f i j ends corners

    neither : (boxes_meet_at s f i j ≡ false) ⊎ (boxes_meet_at t f i j ≡ false) → ¬ Pierced s f i j × ¬ Pierced t f i j
    neither (inl e) = let n = boxes_apart_lem s f i j e in (n, λ p. n (word.1 p))
    neither (inr e) = let n = boxes_apart_lem t f i j e in (λ p. n (word.0 p), n)

-- the order in which ends and corners are written
pub pierced_as_written : {s t : Scene} → Rewritten s t → (f : Frame) (i j : ℕ) → no_edge_or_triangle s i j ≡ false → Pierced s f i j ↔ Pierced t f i j
pierced_as_written {s} h f i j there = let (edge, triangle) = parts_there s f i j there in rewritten_keeps_pierced h f i j edge triangle
