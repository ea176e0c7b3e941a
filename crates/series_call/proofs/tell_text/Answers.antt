-- `tell_text`: refused as the front is, or as the steps are; else the last step is left in the lent buffers.
use mathlib.Core.List.{[]}
use mathlib.Core.Path.{refl, ◌∙◌}
use Rattle.text_draft.specs.Reading.{own_table, own_room, same_roomy}
use Rattle.series_call.specs.Answering.{front_refused, front_is_read, leave_ready, text_given, text_not_given}
use Rattle.series_call.proofs.tell_text.Goals as goal

pub draft_front-requires : goal.draft_front-requires
draft_front-requires c = record { roomy = own_room; blank_table = own_table }

pub tell_draft-answer-requires : goal.tell_draft-answer-requires
tell_draft-answer-requires c = (
  front_is_read _ _ _ c.draft_front.ensures c.in-Ok.is,
  same_roomy {table₀ = []} {table = []} own_room (record {
    positions = c.draft_front.auto.positions;
    edges = c.draft_front.auto.edges;
    triangles = c.draft_front.auto.triangles;
    seams = c.draft_front.auto.seams;
    sewn = refl;
  }),
  c.requires.brief,
)

pub returns-in-Err-outcome : goal.returns-in-Err-outcome
returns-in-Err-outcome c =
    let front = front_is_read _ _ _ c.draft_front.ensures c.in-Ok.is in
    text_not_given front refl
    (same_roomy {table₀ = []} {table = []} own_room (record {
      positions = c.tell_draft-answer.auto.p ∙ c.draft_front.auto.positions;
      edges = c.draft_front.auto.edges;
      triangles = c.draft_front.auto.triangles;
      seams = c.draft_front.auto.seams;
      sewn = refl;
    }))
    c.tell_draft-answer.result c.tell_draft-answer.ensures _ _ c.in-Err-outcome.is

pub leave_last-count-requires : goal.leave_last-count-requires
leave_last-count-requires c =
    let front = front_is_read _ _ _ c.draft_front.ensures c.in-Ok.is in
    leave_ready front refl
    (same_roomy {table₀ = []} {table = []} own_room (record {
      positions = c.tell_draft-answer.auto.p ∙ c.draft_front.auto.positions;
      edges = c.draft_front.auto.edges;
      triangles = c.draft_front.auto.triangles;
      seams = c.draft_front.auto.seams;
      sewn = refl;
    }))
    c.tell_draft-answer.result c.tell_draft-answer.ensures c.requires c.in-Ok-outcome.is

pub returns-in-Err : goal.returns-in-Err
returns-in-Err c = rw c.refused.ensures (front_refused _ _ _ _ _ _ c.draft_front.ensures c.in-Err.is)

pub returns-in-Ok-outcome : goal.returns-in-Ok-outcome
returns-in-Ok-outcome c =
    let front = front_is_read _ _ _ c.draft_front.ensures c.in-Ok.is in
    text_given front refl
    (same_roomy {table₀ = []} {table = []} own_room (record {
      positions = c.tell_draft-answer.auto.p ∙ c.draft_front.auto.positions;
      edges = c.draft_front.auto.edges;
      triangles = c.draft_front.auto.triangles;
      seams = c.draft_front.auto.seams;
      sewn = refl;
    }))
    c.tell_draft-answer.result c.tell_draft-answer.ensures c.in-Ok-outcome.is c.leave_last-count.ensures
