-- `text_draft::draft_text` meets its contract: what its lines give is what a scene's text is.
use Rattle.text_draft.specs.Reading.{stopped_at, text_refused, text_read}
use Rattle.text_draft.proofs.draft_text.Goals as goal

pub line_number-requires : goal.line_number-requires
line_number-requires c = (stopped_at _ _ _ c.draft_lines.ensures c.in-Err.is).bounded

pub returns-in-Err : goal.returns-in-Err
returns-in-Err c = text_refused _ _ _ c.draft_lines.ensures c.in-Err.is c.line_number.ensures

pub returns-in-Ok : goal.returns-in-Ok
returns-in-Ok c = text_read _ _ _ c.draft_lines.ensures c.in-Ok.is
