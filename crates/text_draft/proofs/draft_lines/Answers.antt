use mathlib.Core.Path.{◌∙◌}
use native.Mathlib.Omega.{arith}
use borrow.Author.Rules.{rules}
use Rattle.text_draft.specs.Reading.{same_room, room_then, same_roomy, draft_starts, draft_of, draft_goes, draft_stops, draft_ends}
use Rattle.text_draft.proofs.draft_lines.Goals as goal

pub loop-at-init : goal.loop-at-init
loop-at-init c = (draft_starts _ _ _ c.requires.blank_table, same_room _ _, search rules, search rules)

pub take_line-requires : goal.take_line-requires
take_line-requires c =
    let i = c.loop-at.invariant in
    record {
      inside = c.loop-at-test.true;
      sized = omega (arith, i.2);
      signed = omega (arith, i.3);
      roomy = same_roomy c.requires.roomy i.1;
      draft = draft_of i.0;
    }

pub shape_of-positions-in-Err : goal.shape_of-positions-in-Err
shape_of-positions-in-Err c = c.take_line.auto.positions ∙ c.loop-at.invariant.1.positions

pub shape_of-edges-in-Err : goal.shape_of-edges-in-Err
shape_of-edges-in-Err c = c.take_line.auto.edges ∙ c.loop-at.invariant.1.edges

pub shape_of-triangles-in-Err : goal.shape_of-triangles-in-Err
shape_of-triangles-in-Err c = c.take_line.auto.triangles ∙ c.loop-at.invariant.1.triangles

pub shape_of-seams-in-Err : goal.shape_of-seams-in-Err
shape_of-seams-in-Err c = c.take_line.auto.seams ∙ c.loop-at.invariant.1.seams

pub shape_of-stands-in-Err : goal.shape_of-stands-in-Err
shape_of-stands-in-Err c = c.take_line.auto.stands ∙ c.loop-at.invariant.1.sewn

pub returns-in-Err : goal.returns-in-Err
returns-in-Err c =
    let take = c in
    let test = take in
    draft_stops test.loop-at.invariant.0 _ _ take.take_line.ensures test.loop-at-test.true c.in-Err.is

pub loop-at-smaller : goal.loop-at-smaller
loop-at-smaller c =
    let take = c in
    let i = take.loop-at.invariant.0 in
    let on = draft_goes i _ _ take.take_line.ensures c.in-Ok.is in
    omega (arith, on.1, i.reached.within, on.0.reached.within)

pub loop-at-preserved : goal.loop-at-preserved
loop-at-preserved c =
    let take = c in
    let i = take.loop-at.invariant in (
      (draft_goes i.0 _ _ take.take_line.ensures c.in-Ok.is).0,
      room_then (record {
        positions = take.take_line.auto.positions;
        edges = take.take_line.auto.edges;
        triangles = take.take_line.auto.triangles;
        seams = take.take_line.auto.seams;
        sewn = take.take_line.auto.stands;
      }) i.1,
      take.take_line.auto.sizes ∙ i.2,
      take.take_line.auto.minus ∙ i.3,
    )

pub shape_of-positions : goal.shape_of-positions
shape_of-positions c = c.loop-at.invariant.1.positions

pub shape_of-edges : goal.shape_of-edges
shape_of-edges c = c.loop-at.invariant.1.edges

pub shape_of-triangles : goal.shape_of-triangles
shape_of-triangles c = c.loop-at.invariant.1.triangles

pub shape_of-seams : goal.shape_of-seams
shape_of-seams c = c.loop-at.invariant.1.seams

pub shape_of-stands : goal.shape_of-stands
shape_of-stands c = c.loop-at.invariant.1.sewn

pub returns : goal.returns
returns c = draft_ends c.loop-at.invariant.0 c.loop-at-test.false
