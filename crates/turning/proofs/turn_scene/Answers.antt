-- `turn_scene`: the scene's own refusals, and only where none holds the three lists are turned round.
use mathlib.Core.List.{[]}
use Rattle.std.proofs.lemmas.Result.{err_from_is_err_and}
use Rattle.meaning.specs.Scene.{scene_of}
use Rattle.scene_checks.specs.Accepting.{accepted_by}
use Rattle.turning.specs.Scene.{ends_below, corners_below, few_vertices_lem, few_positions, turned_scene, scene_refused}
use Rattle.turning.proofs.turn_scene.Goals as goal

pub returns-in_err-check_scene : goal.returns-in_err-check_scene
returns-in_err-check_scene c =
    let a = c.args in
    let s = scene_of a.positions.now a.edges.now a.triangles.now [] in
    let (y, is, same) = err_from_is_err_and c.from_residual.result c.from_residual.ensures.1 in
    rw (is, same) (scene_refused s _ c.in_err-check_scene.was c.check_scene.ensures)

pub turn_positions-requires : goal.turn_positions-requires
turn_positions-requires c =
    let a = c.args in
    let s = scene_of a.positions.now a.edges.now a.triangles.now [] in
    few_positions (accepted_by s c.in_ok-check_scene.was c.check_scene.ensures)

pub renumber-requires : goal.renumber-requires
renumber-requires c =
    let a = c.args in
    let s = scene_of a.positions.now a.edges.now a.triangles.now [] in
    let accepted = accepted_by s c.in_ok-check_scene.was c.check_scene.ensures in
    (few_vertices_lem accepted, ends_below accepted)

pub renumber-requires-2 : goal.renumber-requires-2
renumber-requires-2 c =
    let a = c.args in
    let s = scene_of a.positions.now a.edges.now a.triangles.now [] in
    let accepted = accepted_by s c.in_ok-check_scene.was c.check_scene.ensures in
    (few_vertices_lem accepted, corners_below accepted)

pub returns : goal.returns
returns c =
    let a = c.args in
    let s = scene_of a.positions.now a.edges.now a.triangles.now [] in
    turned_scene s (accepted_by s c.in_ok-check_scene.was c.check_scene.ensures)
    c.turn_positions.ensures c.renumber.ensures c.renumber-2.ensures
