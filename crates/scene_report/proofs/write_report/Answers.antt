-- `scene_report::write_report` meets its contract: the text is read, and its scene reported; a text that is refused has one line.
use Prim.Native.Nat.{ℕ}
use mathlib.Core.Path.{refl, ap}
use borrow.Author.Rules.{rules}
use Rattle.meaning.specs.Refusals.{number_of}
use Rattle.meaning.specs.Report.{refused_line}
use Rattle.report_words.specs.Lines.{wrote_as}
use Rattle.text_scene.specs.Using.{fronts_read, holds_read, accepted_read, short_read}
use Rattle.scene_report.specs.FromCalls.{refused_read}
use Rattle.scene_report.specs.Whole.{scene_to_text, refused_text}
use Rattle.scene_report.proofs.write_report.Goals as goal

pub scene_report-requires : goal.scene_report-requires
scene_report-requires c = (accepted_read c.read_scene.ensures c.in-Ok.is, search rules)

pub returns-in-Ok : goal.returns-in-Ok
returns-in-Ok c =
    let a = c.read_scene.ensures in
    scene_to_text _ (short_read a c.in-Ok.is) (holds_read a c.in-Ok.is) c.scene_report.ensures

pub returns-in-Err : goal.returns-in-Err
returns-in-Err c =
    let why = c.in-Err.refused.why in
    let line = c.in-Err.refused.carries in
    refused_text (number_of why) line (refused_read refl c.read_scene.ensures c.in-Err.is)
    (wrote_as (ap (λ (n : ℕ). refused_line n line) c.number_of.ensures) c.refused_line.ensures)

pub overflow_mul-p : goal.overflow_mul-p
overflow_mul-p c = (fronts_read c.read_scene.ensures c.in-Ok.is).points_fit

pub overflow_mul-e : goal.overflow_mul-e
overflow_mul-e c = (fronts_read c.read_scene.ensures c.in-Ok.is).sides_fit

pub overflow_mul-t : goal.overflow_mul-t
overflow_mul-t c = (fronts_read c.read_scene.ensures c.in-Ok.is).corners_fit

pub overflow_mul-w : goal.overflow_mul-w
overflow_mul-w c = (fronts_read c.read_scene.ensures c.in-Ok.is).sewn_fit

pub slice_bounds-positions-end : goal.slice_bounds-positions-end
slice_bounds-positions-end c = (fronts_read c.read_scene.ensures c.in-Ok.is).points

pub slice_bounds-scene_report-end : goal.slice_bounds-scene_report-end
slice_bounds-scene_report-end c = (fronts_read c.read_scene.ensures c.in-Ok.is).points_long

pub slice_bounds-edges-end : goal.slice_bounds-edges-end
slice_bounds-edges-end c = (fronts_read c.read_scene.ensures c.in-Ok.is).sides

pub slice_bounds-scene_report-end-in-Ok : goal.slice_bounds-scene_report-end-in-Ok
slice_bounds-scene_report-end-in-Ok c = (fronts_read c.read_scene.ensures c.in-Ok.is).sides_long

pub slice_bounds-triangles-end : goal.slice_bounds-triangles-end
slice_bounds-triangles-end c = (fronts_read c.read_scene.ensures c.in-Ok.is).corners

pub slice_bounds-scene_report-end-in-Ok-2 : goal.slice_bounds-scene_report-end-in-Ok-2
slice_bounds-scene_report-end-in-Ok-2 c = (fronts_read c.read_scene.ensures c.in-Ok.is).corners_long

pub slice_bounds-seams-end : goal.slice_bounds-seams-end
slice_bounds-seams-end c = (fronts_read c.read_scene.ensures c.in-Ok.is).sewn

pub slice_bounds-scene_report-end-in-Ok-3 : goal.slice_bounds-scene_report-end-in-Ok-3
slice_bounds-scene_report-end-in-Ok-3 c = (fronts_read c.read_scene.ensures c.in-Ok.is).sewn_long
