-- `asked`: the scene is checked, then 5 and 6 are decided over the table.
use mathlib.Core.Bool.{◌||◌}
use mathlib.Core.Path.{sym, ◌∙◌, ap}
use Rattle.std.proofs.lemmas.Result.{err_from_is_err_and}
use Rattle.meaning.specs.Scene.{Scene, scene_of}
use Rattle.meaning.specs.Refusals.{not_there, shares, outcome_alone}
use Rattle.scene_checks.specs.Accepting.{accepted_by, after_refused}
use Rattle.scene_checks.specs.Checking.{one_scene}
use Rattle.three_words.specs.Asked.{Passes, asked_checks, gone_asked, there_asked}
use Rattle.three_words.proofs.asked.Goals as goal

pub returns-in_err-check_into : goal.returns-in_err-check_into
unfolding outcome_alone
returns-in_err-check_into c =
    let a = c.args in
    let s = scene_of a.positions.now a.edges.now a.triangles.now a.seams.now in
    let called = c.check_into in
    let (y, is, same) = err_from_is_err_and c.from_residual.result c.from_residual.ensures.1 in
    (rw (is, same) (after_refused s (asked_checks (not_there s a.kind a.first a.second || a.missing) (shares s a.kind a.first a.second)) Passes c.in_err-check_into.was called.ensures.checked), called.ensures.into)

pub returns-then-not_there : goal.returns-then-not_there
returns-then-not_there c =
    let a = c.args in
    let s = scene_of a.positions.now a.edges.now a.triangles.now a.seams.now in
    let called = c.check_into in (
      gone_asked s a.kind a.first a.second a.missing (accepted_by s c.in_ok-check_into.was called.ensures.checked) c.first_of.result
          (sym (c.not_there.ensures _) ∙ c.if-not_there.true) c.first_of.ensures,
      called.ensures.into,
    )

pub shares_vertex-shared-requires : goal.shares_vertex-shared-requires
shares_vertex-shared-requires c = sym (c.not_there.ensures _) ∙ c.if-not_there.false

pub returns : goal.returns
returns c =
    let a = c.args in
    let s = scene_of a.positions.now a.edges.now a.triangles.now a.seams.now in
    let called = c.check_into in
    let accepted = accepted_by s c.in_ok-check_into.was called.ensures.checked in (
      there_asked s a.kind a.first a.second a.missing accepted c.first_of-2.result
          (sym (c.not_there.ensures _) ∙ c.if-not_there.false)
          (c.shares_vertex-shared.ensures ∙ ap (λ (u : Scene). shares u a.kind a.first a.second) (one_scene called.ensures.into accepted))
          c.first_of-2.ensures,
      called.ensures.into,
    )
