-- The two files are brought in and their scene shown; a refusal has one line.
use Prim.Native.Nat.{ℕ}
use mathlib.Core.Path.{refl, ap, ◌∙◌}
use Rattle.std.specs.Prelude.{Err}
use Rattle.meaning.specs.declared.ImportRefusal.{ImportRefusal}
use Rattle.meaning.specs.declared.Refused.{Refused}
use Rattle.meaning.specs.Refusals.{number_of}
use borrow.Author.Rules.{rules}
use Rattle.meaning.specs.Report.{refused_line}
use Rattle.meaning.specs.ObjPrinted.{file_line}
use Rattle.report_words.specs.Lines.{wrote_as}
use Rattle.obj_scene.specs.Using.{scene_imported, fronts_imported, accepted_imported}
use Rattle.obj_report.specs.Printed.{printed_scene, printed_refusal, printed_refusal_in}
use Rattle.obj_report.proofs.pair_shown.Goals as goal

pub overflow_mul-p : goal.overflow_mul-p
overflow_mul-p c = (fronts_imported (scene_imported c.import_plain.ensures c.in-Ok.is)).points_fit

pub overflow_mul-e : goal.overflow_mul-e
overflow_mul-e c = (fronts_imported (scene_imported c.import_plain.ensures c.in-Ok.is)).sides_fit

pub overflow_mul-t : goal.overflow_mul-t
overflow_mul-t c = (fronts_imported (scene_imported c.import_plain.ensures c.in-Ok.is)).corners_fit

pub overflow_mul-w : goal.overflow_mul-w
overflow_mul-w c = (fronts_imported (scene_imported c.import_plain.ensures c.in-Ok.is)).sewn_fit

pub slice_bounds-positions-end : goal.slice_bounds-positions-end
slice_bounds-positions-end c = (fronts_imported (scene_imported c.import_plain.ensures c.in-Ok.is)).points

pub slice_bounds-scene_shown-end : goal.slice_bounds-scene_shown-end
slice_bounds-scene_shown-end c = (fronts_imported (scene_imported c.import_plain.ensures c.in-Ok.is)).points_long

pub slice_bounds-edges-end : goal.slice_bounds-edges-end
slice_bounds-edges-end c = (fronts_imported (scene_imported c.import_plain.ensures c.in-Ok.is)).sides

pub slice_bounds-scene_shown-end-in-Ok : goal.slice_bounds-scene_shown-end-in-Ok
slice_bounds-scene_shown-end-in-Ok c = (fronts_imported (scene_imported c.import_plain.ensures c.in-Ok.is)).sides_long

pub slice_bounds-triangles-end : goal.slice_bounds-triangles-end
slice_bounds-triangles-end c = (fronts_imported (scene_imported c.import_plain.ensures c.in-Ok.is)).corners

pub slice_bounds-scene_shown-end-in-Ok-2 : goal.slice_bounds-scene_shown-end-in-Ok-2
slice_bounds-scene_shown-end-in-Ok-2 c = (fronts_imported (scene_imported c.import_plain.ensures c.in-Ok.is)).corners_long

pub slice_bounds-seams-end : goal.slice_bounds-seams-end
slice_bounds-seams-end c = (fronts_imported (scene_imported c.import_plain.ensures c.in-Ok.is)).sewn

pub slice_bounds-scene_shown-end-in-Ok-3 : goal.slice_bounds-scene_shown-end-in-Ok-3
slice_bounds-scene_shown-end-in-Ok-3 c = (fronts_imported (scene_imported c.import_plain.ensures c.in-Ok.is)).sewn_long

pub scene_shown-requires : goal.scene_shown-requires
scene_shown-requires c = (accepted_imported (scene_imported c.import_plain.ensures c.in-Ok.is), search rules)

pub returns-in-Ok : goal.returns-in-Ok
returns-in-Ok c = printed_scene _ c.import_plain.ensures c.in-Ok.is c.scene_shown.ensures

pub returns-in-Err-Of : goal.returns-in-Err-Of
returns-in-Err-Of c =
    printed_refusal _ c.import_plain.ensures refl (c.in-Err-Of.is ∙ ap (λ (e : ImportRefusal). Err e) c.in-Err-Of.field-0-is)
    (wrote_as (ap (λ (n : ℕ). refused_line n 0) (c.number_of.ensures ∙ ap number_of c.in-Err-Of.why-is)) c.refused_line.ensures)

pub returns-in-Err-In : goal.returns-in-Err-In
returns-in-Err-In c =
    let file = c.in-Err-In.file in
    let line = c.in-Err-In.refused.carries in
    printed_refusal_in _ c.import_plain.ensures refl (c.in-Err-In.is ∙ ap (λ (e : ImportRefusal). Err e) c.in-Err-In.field-0-is)
    (wrote_as (λ t. file_line (c.in-Err-In.file-is t) ((c.number_of-in-Err-In.ensures ∙ ap (λ (r : Refused). number_of r.why) c.in-Err-In.refused-is) t) (c.in-Err-In.refused-is t).carries) c.file_line.ensures)
