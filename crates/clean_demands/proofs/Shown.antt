-- What is said of an edge that comes near a triangle, of a series of two steps, and of sides that are sewn.
use Rattle.std.specs.Prelude.{◌≡◌, refl, false, List, [], ◌∷◌, ◌↔◌, ℤ, pos}
use Rattle.std.proofs.Common.{arith}
use Rattle.sequences.specs.Gather.{gather}
use Rattle.meaning.specs.Scene.{stood_for}
use Rattle.meaning.specs.Refusals.{shares}
use Rattle.meaning.specs.Boxes.{meet_on}
use Rattle.meaning.specs.List.{pair}
use Rattle.meaning.specs.Near.{where_at, first_span_at, second_span_at}
use Rattle.meaning.specs.MeshRows.{row_test, row_count, rows_in}
use Rattle.meaning.specs.PiercedRows.{AllPierced, yes_of}
use Rattle.meaning.specs.declared.RowPairs.TheVariants.{Near}
use Rattle.meaning.specs.Pierced.{Pierced}
use Rattle.meaning.specs.Report.{is_one, how_many}
use Rattle.meaning.specs.Series.{steps_of}
use Rattle.meaning.specs.SceneWords.{byte_of}
use Rattle.meaning.specs.declared.Frame.TheVariants.{Start, End}
use Rattle.meaning.specs.declared.Kind.TheVariants.{PointTriangle, EdgeEdge}
use Rattle.meaning.specs.declared.Settled.TheVariants.{Miss}
use Rattle.clean_demands.specs.Sides.{along, against, SidesOf}
use Rattle.clean_demands.proofs.OnePair.{stays_pierced}
use Rattle.clean_demands.specs.Words.{FiveUntroubled}
use Rattle.clean_demands.proofs.Words.{five_touch_nothing}
use Rattle.clean_demands.specs.Mesh.{scene_well_made, SidesAreEdges, CleanAt}
use Rattle.clean_demands.proofs.Mesh.{clean_at_the_end}
use Rattle.clean_demands.proofs.Lent.{sides_are_edges}
use Rattle.clean_demands.specs.Listed.{nothing_touched}
use Rattle.clean_demands.specs.Rows.{stretch_untroubled}
use Rattle.clean_demands.specs.Through.{stretch_clean}
use Rattle.clean_demands.specs.Drape.{ToldClean, ToldStep}
use Rattle.clean_demands.specs.Steps.{CleanStep, EachStep}
use Rattle.clean_demands.proofs.Steps.{clean_series}
use Rattle.clean_demands.specs.Motions.{Says, motion, seven, down_to, comes_near, sewn_side, all_computed}
use Rattle.clean_demands.specs.Shown.{motion_joined, near_accepted, near_pairs, near_missed, near_untroubled, near_touches_nothing, near_clean_at_start, two_steps, untouched_steps, sewn_accepted}

pub all_sides : (ps : List ℤ) → SidesAreEdges (motion ps)
all_sides ps = sides_are_edges (motion ps) (1 ∷ 2 ∷ 3 ∷ []) [] (motion_joined ps)

pub near_in_words : FiveUntroubled comes_near 0 0 1 2 3
near_in_words = (five_touch_nothing comes_near 0 0 1 2 3).1 near_touches_nothing

pub near_clean_at_end : CleanAt comes_near End
near_clean_at_end = clean_at_the_end (scene_well_made near_accepted.0) (all_sides (down_to (pos 6) (pos 3))) (nothing_touched comes_near near_untroubled) near_clean_at_start

near_rows : rows_in Near comes_near 0 (row_count comes_near) ≡ pair PointTriangle 0 0 ∷ pair PointTriangle 1 0 ∷ pair EdgeEdge 0 2 ∷ []
unfolding gather row_test shares meet_on stood_for where_at first_span_at second_span_at
near_rows = refl

-- its near rows have no hit and no touch, and no row of edges is pierced at the start
pub near_told : ToldClean Near comes_near
unfolding gather shares stood_for where_at AllPierced yes_of how_many is_one byte_of
near_told = record {
  well = scene_well_made near_accepted.0;
  sides = all_sides (down_to (pos 6) (pos 3));
  start = λ i h. stretch_clean Start comes_near 0 4 [] tt refl i (omega arith) h;
  rows = λ i h. stretch_untroubled Near comes_near 0 (row_count comes_near) (Miss ∷ Miss ∷ Miss ∷ []) (rw (near_rows, ← near_pairs) near_missed.0) refl refl i (omega arith) h;
}

pub near_step : ToldStep Near comes_near
near_step = record { well = near_told.well; rows = near_told.rows }

pub clean_steps : EachStep CleanStep (steps_of two_steps)
clean_steps = clean_series two_steps (all_sides (down_to (pos 6) (pos 3))) untouched_steps near_clean_at_start

pub sewn_sides : SidesOf sewn_side 0 1 2 3
unfolding stood_for
sewn_sides = record { first = along refl refl; second = against refl refl; third = against refl refl }

pub sewn_alike : Pierced sewn_side Start 0 0 ↔ Pierced sewn_side End 0 0
unfolding Says
sewn_alike =
    let n = seven sewn_side false false false false false false false all_computed.sewn in
    stays_pierced (scene_well_made sewn_accepted).in_one_place 0 0 1 2 3 sewn_sides
    (record { first_end = n.first_end; second_end = n.second_end; first_side = n.first_side; second_side = n.second_side; third_side = n.third_side })
