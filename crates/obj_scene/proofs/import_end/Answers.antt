-- `obj_scene::import_end` meets its contract: the end file has a faulty line, or differs from the start file, or both are copied.
use mathlib.Core.Path.{◌≡◌, sym, ◌∙◌}
use native.Mathlib.Omega.{arith}
use lib.Seq.{length-take-le}
use Rattle.obj_scene.specs.Ending.{end_faulty, end_bounded, end_differs, end_read}
use Rattle.obj_edges.specs.Chains.{blank_knows}
use Rattle.obj_scene.specs.Importing.{own_room}
use Rattle.std.proofs.lemmas.Result.{err_from_is_err_and}
use Rattle.meaning.specs.declared.WhichFile.TheVariants.{End}
use Rattle.meaning.specs.declared.ImportRefusal.TheVariants.{In}
use Rattle.obj_scene.specs.Mapped.{mapped_ok, mapped_err}
use Rattle.obj_scene.specs.Same.{same_pointwise}
use Rattle.obj_scene.proofs.import_end.Goals as goal

pub draft_file-requires : goal.draft_file-requires
draft_file-requires c = record { draft_room = own_room; knows = blank_knows }

pub overflow_mul-others : goal.overflow_mul-others
overflow_mul-others c = omega (arith, (end_bounded _ _ _ _ c.draft_file.ensures (mapped_ok _ _ c.map_err.ensures.cases c.in_ok-d.was)).triangles)

pub slice_bounds-eq-end : goal.slice_bounds-eq-end
slice_bounds-eq-end c = sym (length-take-le _ c.args.t.now (omega (arith, c.requires.on_start.corners, c.requires.on_start.bounded.triangles)))

pub slice_bounds-u-end : goal.slice_bounds-u-end
slice_bounds-u-end c = omega (arith, (end_bounded _ _ _ _ c.draft_file.ensures (mapped_ok _ _ c.map_err.ensures.cases c.in_ok-d.was)).triangles)

pub slice_bounds-eq-end-2 : goal.slice_bounds-eq-end-2
slice_bounds-eq-end-2 c = sym (length-take-le _ _ (omega (arith, (end_bounded _ _ _ _ c.draft_file.ensures (mapped_ok _ _ c.map_err.ensures.cases c.in_ok-d.was)).triangles, c.draft_file.auto.triangles)))

pub returns-then-c-d : goal.returns-then-c-d
returns-then-c-d c = end_differs _ _ _ _ c.draft_file.ensures (mapped_ok _ _ c.map_err.ensures.cases c.in_ok-d.was) _ _ _ _ (c.eq-same.ensures ∙ sym (same_pointwise _ _)) _ _ _ c.if-c-d.true

pub copy_pair-requires : goal.copy_pair-requires
copy_pair-requires c =
    record {
      bounded = c.requires.on_start.bounded;
      drafts = record {
        starts = c.requires.on_start.points;
        ends = omega (arith, own_room.positions, c.draft_file.auto.positions);
        sides = c.requires.on_start.sides;
        corners = c.requires.on_start.corners;
      };
      lent = c.requires.lent;
    }

pub returns-in_err-d : goal.returns-in_err-d
returns-in_err-d c =
    let (y, is, same) = err_from_is_err_and c.from_residual.result c.from_residual.ensures.1 in
    let (x, was, sent) = mapped_err _ _ c.map_err.ensures.cases c.in_err-d.was in
    let told : c.in_err-d.field-0.0 ≡ In End x = grind arith in
    rw (is, same, told) (end_faulty _ _ _ _ c.draft_file.ensures _ _ _ _ _ _ _ was)

pub returns : goal.returns
returns c = end_read _ _ _ _ c.draft_file.ensures (mapped_ok _ _ c.map_err.ensures.cases c.in_ok-d.was) _ _ _ _ (c.eq-same.ensures ∙ sym (same_pointwise _ _)) _ _ _ c.if-c-d.false c.copy_pair.ensures
