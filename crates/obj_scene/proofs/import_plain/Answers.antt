-- `obj_scene::import_plain` meets its contract: 12, 8 for either file, the start file's first faulty line, and what the end file gives beside it.
use native.Mathlib.Omega.{arith}
use borrow.Author.Rules.{rules}
use mathlib.Core.Path.{◌≡◌}
use Rattle.std.proofs.lemmas.Result.{err_from_is_err_and}
use Rattle.meaning.specs.Scene.{scene_of}
use Rattle.meaning.specs.declared.WhichFile.TheVariants.{Start}
use Rattle.meaning.specs.declared.ImportRefusal.TheVariants.{In}
use Rattle.obj_scene.specs.Mapped.{mapped_ok, mapped_err}
use Rattle.obj_edges.specs.Chains.{blank_knows}
use Rattle.obj_scene.specs.Importing.{own_room, lent_room, start_bounded, import_short, import_long_start, import_long_end, import_faulty, import_ended}
use Rattle.obj_scene.proofs.import_plain.Goals as goal

pub returns-then-few-triangles : goal.returns-then-few-triangles
returns-then-few-triangles c = import_short _ _ _ c.if-few-triangles.true

pub returns-then-start-gt-TEXT_LIMIT : goal.returns-then-start-gt-TEXT_LIMIT
returns-then-start-gt-TEXT_LIMIT c = rw c.from.ensures (import_long_start _ _ _ c.if-few-triangles.false c.if-start-gt-TEXT_LIMIT.true)

pub returns-then-end-gt-TEXT_LIMIT : goal.returns-then-end-gt-TEXT_LIMIT
returns-then-end-gt-TEXT_LIMIT c = rw c.from-then-end-gt-TEXT_LIMIT.ensures (import_long_end _ _ _ c.if-few-triangles.false c.if-start-gt-TEXT_LIMIT.false c.if-end-gt-TEXT_LIMIT.true)

pub draft_file-requires : goal.draft_file-requires
draft_file-requires c = record { draft_room = own_room; knows = blank_knows }

pub import_end-requires : goal.import_end-requires
import_end-requires c =
    let d = c in
    let a = c.args in record {
      on_start = record {
        points = omega (arith, own_room.positions, d.draft_file.auto.positions);
        sides = omega (arith, own_room.faces.sides, d.draft_file.auto.edges);
        corners = omega (arith, own_room.faces.corners, d.draft_file.auto.triangles);
        bounded = start_bounded _ _ _ _ d.draft_file.ensures (mapped_ok _ _ c.map_err.ensures.cases c.in_ok-c.was);
      };
      lent = lent_room (scene_of a.positions.now a.edges.now a.triangles.now a.seams.now) c.if-few-triangles.false;
    }

pub returns-in_err-c : goal.returns-in_err-c
returns-in_err-c c =
    let (y, is, same) = err_from_is_err_and c.from_residual.result c.from_residual.ensures.1 in
    let (x, was, sent) = mapped_err _ _ c.map_err.ensures.cases c.in_err-c.was in
    let told : c.in_err-c.field-0.0 ≡ In Start x = search rules in
    rw (is, same, told)
    (import_faulty _ _ _ c.if-few-triangles.false c.if-start-gt-TEXT_LIMIT.false c.if-end-gt-TEXT_LIMIT.false _ _ _ c.draft_file.ensures was)

pub returns : goal.returns
returns c = import_ended _ _ _ c.if-few-triangles.false c.if-start-gt-TEXT_LIMIT.false c.if-end-gt-TEXT_LIMIT.false _ _ _ c.draft_file.ensures (mapped_ok _ _ c.map_err.ensures.cases c.in_ok-c.was) c.import_end.ensures
