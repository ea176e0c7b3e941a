-- Of what it is said: a step in which an edge comes near a triangle and does not touch it, and goes on towards it in a second step; and an edge that
-- is through a triangle at the start, moves without touching anything, and is through it at the end. All hypotheses hold, by computing.
use Rattle.std.specs.Prelude.{ℕ, zero, suc, ◌≡◌, refl, true, false, List, [], ◌∷◌, leb, ℤ, pos}
use Rattle.std.proofs.Common.{arith, sym, subst, true≢false, ⊎_elim, leb-false}
use mathlib.Core.List.Memᴰ
use Rattle.whole.specs.Vector.{volume}
use Rattle.sequences.specs.Gather.{gather}
use Rattle.meaning.specs.Scene.{Accepted, stood_for, some_below}
use Rattle.meaning.specs.Pieces.{piece_count}
use Rattle.meaning.specs.Refusals.{shares}
use Rattle.meaning.specs.Boxes.{meet_on}
use Rattle.meaning.specs.List.{pair, pairs}
use Rattle.meaning.specs.MeshEdges.{JoinedTo}
use Rattle.meaning.specs.Pierced.{Pierced, no_edge_or_triangle, end_is_corner}
use Rattle.meaning.specs.Report.{is_one, how_many}
use Rattle.meaning.specs.Series.{Series, step_after, steps_from, steps_of}
use Rattle.meaning.specs.SceneWords.{byte_of, AllSettled}
use Rattle.meaning.specs.declared.Frame.{Frame}
use Rattle.meaning.specs.declared.Frame.TheVariants.{Start}
use Rattle.meaning.specs.declared.Kind.TheVariants.{PointTriangle, EdgeEdge}
use Rattle.meaning.specs.declared.Settled.TheVariants.{Miss}
use Rattle.theory.specs.Reading.{verdict_of, agreeing}
use Rattle.theory.specs.Computed.{piece_verdict, joined, joined_below, point_differences, edge_differences, start_sum, end_sum}
use Rattle.answers.specs.Below.{or_left, or_rest}
use Rattle.corner_search.specs.Decided.{settled_by, pair_word, pair_word_is}
use Rattle.clean_demands.specs.OnePair.{NothingTouches}
use Rattle.clean_demands.specs.Mesh.{scene_well_made, CleanAt}
use Rattle.clean_demands.specs.Listed.{ListUntroubled, words_untroubled, nothing_touched}
use Rattle.clean_demands.specs.Steps.{UntouchedStep, EachStep}
use Rattle.clean_demands.specs.Motions.{Says, motion, Seven, seven, down_to, comes_near, comes_nearer, sewn_side, stays_through, all_computed}

-- ---- an edge, a triangle and its sides

-- the certificate: the sides 2 3, 3 4 and 4 2 are the edges 1, 2 and 3
pub motion_joined : (ps : List ℤ) → JoinedTo (motion ps) (1 ∷ 2 ∷ 3 ∷ []) [] 3
motion_joined ps zero h = refl
motion_joined ps (suc zero) h = refl
motion_joined ps (suc (suc zero)) h = refl
motion_joined ps (suc (suc (suc i))) h = absurd (omega arith)

-- the sides themselves share corners with the triangle, so edge 0 is left
motion_clean : (ps : List ℤ) (f : Frame) → ¬ Pierced (motion ps) f 0 0 → CleanAt (motion ps) f
unfolding stood_for shares
motion_clean ps f n = record { none = go }
  where
    go : (i j : ℕ) → no_edge_or_triangle (motion ps) i j ≡ false → end_is_corner (motion ps) i j ≡ false → ¬ Pierced (motion ps) f i j
    go zero zero there apart = n
    go (suc zero) zero there apart = absurd (true≢false apart)
    go (suc (suc zero)) zero there apart = absurd (true≢false apart)
    go (suc (suc (suc zero))) zero there apart = absurd (true≢false apart)
    go (suc (suc (suc (suc i)))) zero there apart = absurd (omega (arith, leb-false 4 (suc (suc (suc (suc i)))) (or_left (leb 4 (suc (suc (suc (suc i))))) (leb 1 0) there)))
    go i (suc j) there apart = absurd (omega (arith, leb-false 1 (suc j) (or_rest (leb 4 i) (leb 1 (suc j)) there)))

-- ---- it comes near

pub near_accepted : Accepted comes_near × Accepted comes_nearer
unfolding some_below stood_for
near_accepted = (
  record { shapely = refl; in_range = refl; known = refl; sewn_well = refl; distinct = refl },
  record { shapely = refl; in_range = refl; known = refl; sewn_well = refl; distinct = refl },
)

-- both ends and one side are listed, the other sides are culled
pub near_pairs : pairs comes_near ≡ pair PointTriangle 0 0 ∷ pair PointTriangle 1 0 ∷ pair EdgeEdge 0 2 ∷ []
unfolding pairs gather shares meet_on stood_for
near_pairs = refl

nearer_pairs : pairs comes_nearer ≡ pair PointTriangle 0 0 ∷ pair PointTriangle 1 0 ∷ pair EdgeEdge 0 2 ∷ []
unfolding pairs gather shares meet_on stood_for
nearer_pairs = refl

pub near_missed : AllSettled comes_near (pairs comes_near) (Miss ∷ Miss ∷ Miss ∷ []) × AllSettled comes_nearer (pairs comes_nearer) (Miss ∷ Miss ∷ Miss ∷ [])
unfolding AllSettled stood_for piece_count piece_verdict joined_below joined point_differences edge_differences start_sum end_sum volume verdict_of agreeing pair_word settled_by
near_missed = (
  rw near_pairs ((pair_word_is comes_near PointTriangle 0 0 Miss).1 refl, ((pair_word_is comes_near PointTriangle 1 0 Miss).1 refl, ((pair_word_is comes_near EdgeEdge 0 2 Miss).1 refl, tt))),
  rw nearer_pairs ((pair_word_is comes_nearer PointTriangle 0 0 Miss).1 refl, ((pair_word_is comes_nearer PointTriangle 1 0 Miss).1 refl, ((pair_word_is comes_nearer EdgeEdge 0 2 Miss).1 refl, tt))),
)

pub near_untroubled : ListUntroubled comes_near
unfolding how_many is_one byte_of
near_untroubled = record { none = words_untroubled comes_near (pairs comes_near) (Miss ∷ Miss ∷ Miss ∷ []) near_missed.0 refl refl }

pub nearer_untroubled : ListUntroubled comes_nearer
unfolding how_many is_one byte_of
nearer_untroubled = record { none = words_untroubled comes_nearer (pairs comes_nearer) (Miss ∷ Miss ∷ Miss ∷ []) near_missed.1 refl refl }

-- none of the five pairs touches
pub near_seven : Seven comes_near false false false false false false false
near_seven = seven comes_near false false false false false false false all_computed.near

pub near_touches_nothing : NothingTouches comes_near 0 0 1 2 3
unfolding Says
near_touches_nothing =
    let n = near_seven in
    record { first_end = n.first_end; second_end = n.second_end; first_side = n.first_side; second_side = n.second_side; third_side = n.third_side }

-- clean at the start, so clean at the end
pub near_clean_at_start : CleanAt comes_near Start
unfolding Says
near_clean_at_start = motion_clean (down_to (pos 6) (pos 3)) Start near_seven.at_start

-- ---- and nearer still: a series of two steps

abbrev pub two_steps : Series
two_steps =
    record {
      scene = comes_near;
      blocks = (pos 1 ∷ pos 1 ∷ pos 2 ∷ pos 2 ∷ pos 1 ∷ pos 2 ∷ pos 0 ∷ pos 0 ∷ pos 0 ∷ pos 4 ∷ pos 0 ∷ pos 0 ∷ pos 0 ∷ pos 4 ∷ pos 4 ∷ []) ∷ [];
    }

two_steps_lem : steps_of two_steps ≡ comes_near ∷ comes_nearer ∷ []
unfolding steps_from step_after gather
two_steps_lem = refl

pub untouched_steps : EachStep UntouchedStep (steps_of two_steps)
untouched_steps = subst (EachStep UntouchedStep) (sym two_steps_lem) each
  where
    each : EachStep UntouchedStep (comes_near ∷ comes_nearer ∷ [])
    each s m =
        ⊎_elim
        (λ e. subst UntouchedStep (sym e) (record { well = scene_well_made near_accepted.0; nothing = nothing_touched comes_near near_untroubled }))
        (λ l. ⊎_elim (λ e. subst UntouchedStep (sym e) (record { well = scene_well_made near_accepted.1; nothing = nothing_touched comes_nearer nearer_untroubled })) (λ none. absurd (Memᴰ.not-nil none)) (Memᴰ.cases_cons l))
        (Memᴰ.cases_cons m)

-- ---- with a seam: the sides bear another number than the corner, and are edges all the same

pub sewn_accepted : Accepted sewn_side
unfolding some_below stood_for
sewn_accepted = record { shapely = refl; in_range = refl; known = refl; sewn_well = refl; distinct = refl }

-- ---- through at the start, and still

pub through_at_both : Seven stays_through false false false false false true true
through_at_both = seven stays_through false false false false false true true all_computed.through
