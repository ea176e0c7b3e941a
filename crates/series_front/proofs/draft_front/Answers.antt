-- `series_front::draft_front` meets its contract: a scene's lines go on to the end, or to the first at fault, where an `n` may stand.
use mathlib.Core.Path.{sym, ◌∙◌}
use Rattle.text_draft.specs.Reading.{stopped_at, went_on}
use Rattle.series_front.specs.Fronts.{front_ends, front_next, front_fails}
use Rattle.series_front.proofs.draft_front.Goals as goal

pub next_here-requires : goal.next_here-requires
next_here-requires c = (stopped_at _ _ _ c.draft_lines.ensures c.in-Err.is).inside

pub line_number-requires : goal.line_number-requires
line_number-requires c =
    let told = c in
    (stopped_at _ _ _ told.draft_lines.ensures told.in-Err.is).bounded

pub returns-in-Ok : goal.returns-in-Ok
returns-in-Ok c =
    let (i, ended) = went_on _ _ _ c.draft_lines.ensures c.in-Ok.is in
    front_ends i ended

pub returns-then-next_here : goal.returns-then-next_here
returns-then-next_here c =
    let told = c in
    front_next (stopped_at _ _ _ told.draft_lines.ensures told.in-Err.is) (sym c.next_here.ensures ∙ c.if-next_here.true)

pub returns-else-next_here : goal.returns-else-next_here
returns-else-next_here c =
    let told = c in
    front_fails (stopped_at _ _ _ told.draft_lines.ensures told.in-Err.is)
    (sym c.next_here.ensures ∙ c.if-next_here.false) c.line_number.ensures
