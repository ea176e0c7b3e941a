use mathlib.Core.Path.{◌∙◌}
use native.Mathlib.Omega.{arith}
use Rattle.obj_draft.specs.Reading.{same_room, room_then, same_roomy, draft_starts, draft_goes, draft_fails, draft_ends}
use Rattle.obj_draft.proofs.draft_file.Goals as goal

pub loop-at-init : goal.loop-at-init
loop-at-init c = (draft_starts _ _ _ _ c.requires.knows, same_room _ _ _)

pub take_line-requires : goal.take_line-requires
take_line-requires c =
    let i = c.loop-at.invariant in
    record {
      inside = c.loop-at-test.true;
      room = same_roomy c.requires.draft_room i.1;
      bounded = i.0.drafted.above.bounded;
      knows = i.0.drafted.knows;
    }

pub shape_of-positions-in-Err : goal.shape_of-positions-in-Err
shape_of-positions-in-Err c = c.take_line.auto.positions ∙ c.loop-at.invariant.1.positions

pub shape_of-edges-in-Err : goal.shape_of-edges-in-Err
shape_of-edges-in-Err c = c.take_line.auto.edges ∙ c.loop-at.invariant.1.edges

pub shape_of-triangles-in-Err : goal.shape_of-triangles-in-Err
shape_of-triangles-in-Err c = c.take_line.auto.triangles ∙ c.loop-at.invariant.1.triangles

pub returns-in-Err : goal.returns-in-Err
returns-in-Err c = draft_fails c.loop-at.invariant.0 _ _ _ c.take_line.ensures c.in-Err.is

pub overflow_add-line : goal.overflow_add-line
overflow_add-line c = omega (arith, c.loop-at.invariant.0.few, c.loop-at-test.true)

pub loop-at-smaller : goal.loop-at-smaller
loop-at-smaller c =
    let i = c.loop-at.invariant.0 in
    let on = draft_goes i _ _ _ c.take_line.ensures c.in-Ok.is in
    omega (arith, on.1, i.reached.within, on.0.reached.within)

pub loop-at-preserved : goal.loop-at-preserved
loop-at-preserved c =
    let i = c.loop-at.invariant in (
      (draft_goes i.0 _ _ _ c.take_line.ensures c.in-Ok.is).0,
      room_then (record {
        positions = c.take_line.auto.positions;
        edges = c.take_line.auto.edges;
        triangles = c.take_line.auto.triangles;
      }) i.1,
    )

pub shape_of-positions : goal.shape_of-positions
shape_of-positions c = c.loop-at.invariant.1.positions

pub shape_of-edges : goal.shape_of-edges
shape_of-edges c = c.loop-at.invariant.1.edges

pub shape_of-triangles : goal.shape_of-triangles
shape_of-triangles c = c.loop-at.invariant.1.triangles

pub returns : goal.returns
returns c = draft_ends c.loop-at.invariant.0 c.loop-at-test.false
