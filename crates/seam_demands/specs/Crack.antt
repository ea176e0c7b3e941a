-- A crack, and the seam that closes it: two faces either side of a border, each with its own two vertices there, numbered from either end. A point
-- goes through the second face. Not sewn, the faces cut the border along different diagonals, and the point misses both; sewn, it hits.
use Rattle.std.specs.Prelude.{List, [], ◌∷◌, ◌++◌, ◌≡◌, refl, ℕ, ℤ, pos}
use Rattle.std.proofs.Common.{arith}
use Rattle.whole.specs.Vector.{volume}
use Rattle.meaning.specs.Scene.{Scene, scene_of, Accepted, stood_for, some_below}
use Rattle.meaning.specs.Pieces.{piece_count}
use Rattle.meaning.specs.Resting.{PairSettled}
use Rattle.meaning.specs.Text.{coordinates}
use Rattle.meaning.specs.declared.Kind.TheVariants.{PointTriangle}
use Rattle.meaning.specs.declared.Settled.TheVariants.{Hit, Miss}
use Rattle.theory.specs.NoCrack.{any_two_corners}
use Rattle.theory.specs.Reading.{verdict_of, agreeing}
use Rattle.theory.specs.Computed.{piece_verdict, joined, joined_below, point_differences}
use Rattle.corner_search.specs.Decided.{settled_by, pair_word, pair_word_is}
use Rattle.demands.specs.NoCracks.{ShareAnEdge}
use Rattle.demands.proofs.EitherSide.{either_side_shares}
use Rattle.demands.specs.Table.{at}

-- the border of the first face is 0 1, that of the second 5 4; the point is vertex 3
abbrev pub cloth : List ℤ
cloth =
    coordinates (at (pos 0) (pos 1) (pos 2)) (at (pos 1) (pos 1) (pos 1)) ++ coordinates (at (pos 1) (pos 1) (pos 0)) (at (pos 0) (pos 0) (pos 0))
    ++ coordinates (at (pos 1) (pos 0) (pos 0)) (at (pos 1) (pos 0) (pos 0)) ++ coordinates (at (pos 2) (pos 0) (pos 0)) (at (pos 0) (pos 1) (pos 1))
    ++ coordinates (at (pos 1) (pos 1) (pos 0)) (at (pos 0) (pos 0) (pos 0)) ++ coordinates (at (pos 0) (pos 1) (pos 2)) (at (pos 1) (pos 1) (pos 1))
    ++ coordinates (at (pos 2) (pos 2) (pos 0)) (at (pos 0) (pos 1) (pos 0))

abbrev pub seam_open : Scene
seam_open = scene_of cloth [] (0 ∷ 1 ∷ 2 ∷ 4 ∷ 5 ∷ 6 ∷ []) []

abbrev pub seam_closed : Scene
seam_closed = scene_of cloth [] (0 ∷ 1 ∷ 2 ∷ 4 ∷ 5 ∷ 6 ∷ []) (4 ∷ 1 ∷ 5 ∷ 0 ∷ [])

pub both_are_accepted : Accepted seam_open × Accepted seam_closed
unfolding some_below stood_for
both_are_accepted = (
  record { shapely = refl; in_range = refl; known = refl; sewn_well = refl; distinct = refl },
  record { shapely = refl; in_range = refl; known = refl; sewn_well = refl; distinct = refl },
)

-- the point slips through
pub open_missed : PairSettled seam_open PointTriangle 3 0 Miss × PairSettled seam_open PointTriangle 3 1 Miss
unfolding stood_for piece_count piece_verdict joined_below joined point_differences volume verdict_of agreeing pair_word settled_by
open_missed = ((pair_word_is seam_open PointTriangle 3 0 Miss).1 refl, (pair_word_is seam_open PointTriangle 3 1 Miss).1 refl)

-- and does not
pub closed_hit : PairSettled seam_closed PointTriangle 3 1 Hit
unfolding stood_for piece_count piece_verdict joined_below joined point_differences volume verdict_of agreeing pair_word settled_by
closed_hit = (pair_word_is seam_closed PointTriangle 3 1 _).1 refl

-- since the two faces share an edge: the corners 1 and 0 of the first are the vertices that 4 and 5, corners of the second, stand for
pub shared_when_closed : ShareAnEdge seam_closed 0 1
shared_when_closed =
    either_side_shares seam_closed both_are_accepted.1 0 1 0 1 (omega arith) (omega arith)
    (any_two_corners seam_closed 0 1 0 (omega arith) (omega arith) (λ (e : 1 ≡ 0). omega arith))
    (any_two_corners seam_closed 1 0 1 (omega arith) (omega arith) (λ (e : 0 ≡ 1). omega arith))
