-- Both vertices of a seam moved one behind the other, shown, and after it the seam is whole again. The moves and the boxes stand in `MovedTwice` of specs/.
use Rattle.std.specs.Prelude.{◌≤◌, List, ◌++◌, ◌≡◌, ℤ, length}
use Rattle.std.proofs.Math.Path.{refl}
use Rattle.std.proofs.Math.Dec.{eqb}
use Rattle.meaning.specs.Scene.{scene_of, stood_for, counts_as, some_below}
use Rattle.meaning.specs.Refusals.{Answers}
use Rattle.meaning.specs.StoredBoxes.{box_numbers}
use Rattle.meaning.specs.Dragging.{placed, moved_scene, BoxesMoved}
use Rattle.stored_demands.specs.Chain.{Dragged, Right}
use Rattle.stored_demands.specs.SewnMoves.{unsewn, to_one_place, placed_all, has}
use Rattle.stored_demands.specs.SewnTogether.{sewn_dragged}
use Rattle.stored_demands.specs.Shown.{sewn}
use Rattle.stored_demands.specs.MovedTwice.{kept, move_shown, each_of_four, only_one, VertexAfter, EdgeAfter, TriangleAfter, long, aside, sewn_boxes, sewn_between, sewn_after, both, sewn_right}

module _ (rest : List ℤ) (room : box_numbers ≤ length rest) where
  sewn_first : BoxesMoved (moved_scene (unsewn sewn) 3 aside) 3 (sewn_boxes ++ rest) (sewn_between ++ rest)
  sewn_first = record {
    vertices = each_of_four (VertexAfter (moved_scene (unsewn sewn) 3 aside) 3 (sewn_boxes ++ rest) (sewn_between ++ rest)) refl refl refl refl;
    edges = only_one (EdgeAfter (moved_scene (unsewn sewn) 3 aside) 3 (sewn_boxes ++ rest) (sewn_between ++ rest)) refl;
    triangles = only_one (TriangleAfter (moved_scene (unsewn sewn) 3 aside) 3 (sewn_boxes ++ rest) (sewn_between ++ rest)) refl;
    behind = kept sewn_boxes sewn_between rest 6 refl refl;
  }

  sewn_second : BoxesMoved (moved_scene (moved_scene (unsewn sewn) 3 aside) 0 aside) 0 (sewn_between ++ rest) (sewn_after ++ rest)
  sewn_second = record {
    vertices = each_of_four (VertexAfter (moved_scene (moved_scene (unsewn sewn) 3 aside) 0 aside) 0 (sewn_between ++ rest) (sewn_after ++ rest)) refl refl refl refl;
    edges = only_one (EdgeAfter (moved_scene (moved_scene (unsewn sewn) 3 aside) 0 aside) 0 (sewn_between ++ rest) (sewn_after ++ rest)) refl;
    triangles = only_one (TriangleAfter (moved_scene (moved_scene (unsewn sewn) 3 aside) 0 aside) 0 (sewn_between ++ rest) (sewn_after ++ rest)) refl;
    behind = kept sewn_between sewn_after rest 6 refl refl;
  }

  pub seam_moved : Dragged (unsewn sewn) (sewn_boxes ++ rest) (to_one_place both aside) (sewn_after ++ rest)
  unfolding Dragged to_one_place Answers some_below stood_for
  seam_moved = (
    sewn_between ++ rest,
    placed sewn.positions 3 aside,
    move_shown (unsewn sewn) 3 aside (sewn_boxes ++ rest) (sewn_between ++ rest) (long rest room sewn_boxes)
        (record { shapely = refl; in_range = refl; known = refl; sewn_well = refl; distinct = refl }) tt sewn_first,
    (
      sewn_after ++ rest,
      placed (moved_scene (unsewn sewn) 3 aside).positions 0 aside,
      move_shown (moved_scene (unsewn sewn) 3 aside) 0 aside (sewn_between ++ rest) (sewn_after ++ rest) (long rest room sewn_between)
          (record { shapely = refl; in_range = refl; known = refl; sewn_well = refl; distinct = refl }) tt sewn_second,
      refl,
    ),
  )

  -- and after: the seam whole again, and each box the one worked out
  pub seam_right : Right (scene_of (placed_all sewn.positions both aside) sewn.edges sewn.triangles sewn.seams) (sewn_after ++ rest)
  unfolding has stood_for
  seam_right =
      sewn_dragged sewn (sewn_boxes ++ rest) 3 both aside (sewn_after ++ rest) (sewn_right rest room)
      (each_of_four (λ u. has both u ≡ eqb (counts_as sewn u) (counts_as sewn 3)) refl refl refl refl) seam_moved
