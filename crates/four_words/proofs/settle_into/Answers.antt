-- `settle_into`: refused as its verdict is, or decided from it over the same table.
use mathlib.Core.Bool.{false}
use mathlib.Core.Path.{◌≡◌}
use Rattle.std.proofs.lemmas.Result.{err_from_is_err_and}
use Rattle.meaning.specs.Scene.{Scene, scene_of, Accepted}
use Rattle.meaning.specs.Refusals.{not_there}
use Rattle.meaning.specs.Verdicts.{PairIs}
use Rattle.meaning.specs.Resting.{PairSettled}
use Rattle.scene_checks.specs.Checking.{to_table, from_table}
use Rattle.four_words.specs.Deciding.{pair_given, pair_decided, pair_refused}
use Rattle.four_words.proofs.settle_into.Goals as goal

pub pair_word-requires : goal.pair_word-requires
pair_word-requires c =
    let a = c.args in
    let s = scene_of a.positions.now a.edges.now a.triangles.now a.seams.now in
    let called = c.pair_into.ensures in
    let given = pair_given s a.kind a.first a.second _ called.0 c.in_ok-verdict.was in
    to_table (λ (u : Scene). Accepted u × (not_there u a.kind a.first a.second ≡ false) × PairIs u a.kind a.first a.second c.in_ok-verdict.verdict) called.1 given.0 given

pub returns : goal.returns
returns c =
    let a = c.args in
    let s = scene_of a.positions.now a.edges.now a.triangles.now a.seams.now in
    let called = c.pair_into.ensures in
    let given = pair_given s a.kind a.first a.second _ called.0 c.in_ok-verdict.was in (
      pair_decided s a.kind a.first a.second _ called.0 c.in_ok-verdict.was c.pair_word.result
          (from_table (λ (u : Scene). PairSettled u a.kind a.first a.second c.pair_word.result) called.1 given.0 c.pair_word.ensures),
      called.1,
    )

pub returns-in_err-verdict : goal.returns-in_err-verdict
returns-in_err-verdict c =
    let a = c.args in
    let s = scene_of a.positions.now a.edges.now a.triangles.now a.seams.now in
    let called = c.pair_into.ensures in
    let (y, is, same) = err_from_is_err_and c.from_residual.result c.from_residual.ensures.1 in
    (rw (is, same) (pair_refused s a.kind a.first a.second _ called.0 c.in_err-verdict.was), called.1)
