-- What code computes of a piece: four differences of positions, and the verdict read off the signs of their volumes. `SevenPieces` shows
-- that it is the verdict of the piece.
use Rattle.std.specs.Prelude.{List, [], ◌∷◌, map, ℕ, zero, suc, ◌/◌, ◌%◌, min, max, ℤ, neg_ℤ, ◌+ℤ◌}
use Rattle.whole.specs.Vector.{Vector, minus}
use Rattle.whole.specs.Signs.{sgn}
use Rattle.whole.specs.Cramer.{Four, volumes, all}
use Rattle.meaning.specs.Scene.{Scene, start_of, end_of, ends_of, corners_of}
use Rattle.meaning.specs.Pieces.{piece_count}
use Rattle.meaning.specs.declared.Ends.{Ends}
use Rattle.meaning.specs.declared.Corners.{Corners}
use Rattle.meaning.specs.declared.Kind.{Kind}
use Rattle.meaning.specs.declared.Kind.TheVariants.{PointTriangle, EdgeEdge}
use Rattle.meaning.specs.declared.Verdict.{Verdict}
use Rattle.meaning.specs.declared.Verdict.TheVariants.{Hit, Miss, Degenerate}
use Rattle.theory.specs.Reading.{verdict_of}

-- vertex v less the base b, both at the start, and both at the end
abbrev pub start_from : Scene → ℕ → ℕ → Vector
start_from s b v = minus (start_of s v) (start_of s b)

abbrev pub end_from : Scene → ℕ → ℕ → Vector
end_from s b v = minus (end_of s v) (end_of s b)

-- point p against piece 0, 1 or 2 of the triangle with the corners c; the base is p
unfoldable pub point_differences : Scene → ℕ → Corners → ℕ → Four Vector
point_differences s p c zero =
    record {
      v0 = start_from s p c.low;
      v1 = start_from s p c.middle;
      v2 = start_from s p c.high;
      v3 = end_from s p c.high;
    }
point_differences s p c (suc zero) =
    record {
      v0 = start_from s p c.low;
      v1 = start_from s p c.middle;
      v2 = end_from s p c.middle;
      v3 = end_from s p c.high;
    }
point_differences s p c (suc (suc k)) =
    record {
      v0 = start_from s p c.low;
      v1 = end_from s p c.low;
      v2 = end_from s p c.middle;
      v3 = end_from s p c.high;
    }

abbrev pub point_verdict : Four ℤ → Verdict
point_verdict E = verdict_of (sgn (E.v0 +ℤ E.v1 +ℤ E.v2 +ℤ E.v3)) (map sgn (all E))

-- edge e's piece i against edge f's piece j, 0 for A and 1 for B. Both pieces of e hold its lower end at the start and its higher end at the
-- end: starts are seen from the one, ends from the other. The third event of e's piece comes first among the four others
unfoldable pub edge_differences : Scene → Ends → ℕ → Ends → ℕ → Four Vector
edge_differences s e zero f zero =
    record {
      v0 = start_from s e.low e.high;
      v1 = start_from s e.low f.low;
      v2 = start_from s e.low f.high;
      v3 = end_from s e.high f.high;
    }
edge_differences s e zero f (suc j) =
    record {
      v0 = start_from s e.low e.high;
      v1 = start_from s e.low f.low;
      v2 = end_from s e.high f.low;
      v3 = end_from s e.high f.high;
    }
edge_differences s e (suc i) f zero =
    record {
      v0 = end_from s e.high e.low;
      v1 = start_from s e.low f.low;
      v2 = start_from s e.low f.high;
      v3 = end_from s e.high f.high;
    }
edge_differences s e (suc i) f (suc j) =
    record {
      v0 = end_from s e.high e.low;
      v1 = start_from s e.low f.low;
      v2 = end_from s e.high f.low;
      v3 = end_from s e.high f.high;
    }

-- the volumes that stand at the start, and those at the end, summed
unfoldable pub start_sum : ℕ → ℕ → Four ℤ → ℤ
start_sum zero zero E = E.v0 +ℤ E.v1 +ℤ E.v2
start_sum zero (suc j) E = E.v0 +ℤ E.v1
start_sum (suc i) zero E = E.v1 +ℤ E.v2
start_sum (suc i) (suc j) E = E.v1

unfoldable pub end_sum : ℕ → ℕ → Four ℤ → ℤ
end_sum zero zero E = E.v3
end_sum zero (suc j) E = E.v2 +ℤ E.v3
end_sum (suc i) zero E = E.v0 +ℤ E.v3
end_sum (suc i) (suc j) E = E.v0 +ℤ E.v2 +ℤ E.v3

abbrev pub edge_numbers : ℕ → ℕ → Four ℤ → List ℤ
edge_numbers i j E = neg_ℤ E.v0 ∷ E.v1 ∷ E.v2 ∷ E.v3 ∷ start_sum i j E ∷ end_sum i j E ∷ []

abbrev pub edge_verdict : ℕ → ℕ → Four ℤ → Verdict
edge_verdict i j E = verdict_of (sgn (E.v1 +ℤ E.v2 +ℤ E.v3)) (map sgn (edge_numbers i j E))

-- ---- the piece of a pair that is asked for, and the pair

unfoldable pub piece_verdict : Scene → Kind → ℕ → ℕ → ℕ → Verdict
piece_verdict s PointTriangle i j k = point_verdict (volumes (point_differences s i (corners_of s j) k))
piece_verdict s EdgeEdge i j k =
    edge_verdict (k / 2) (k % 2) (volumes (edge_differences s (ends_of s (min i j)) (k / 2) (ends_of s (max i j)) (k % 2)))

-- a hit comes before a degenerate, and that before a miss
unfoldable pub joined : Verdict → Verdict → Verdict
joined Hit w = Hit
joined Miss w = w
joined Degenerate Hit = Hit
joined Degenerate Miss = Degenerate
joined Degenerate Degenerate = Degenerate

unfoldable pub joined_below : ℕ → (ℕ → Verdict) → Verdict
joined_below zero f = Miss
joined_below (suc n) f = joined (f 0) (joined_below n (λ k. f (suc k)))

abbrev pub pair_verdict : Scene → Kind → ℕ → ℕ → Verdict
pair_verdict s kind i j = joined_below (piece_count kind) (piece_verdict s kind i j)
