-- `pair_into`: refused as it is asked for, or judged over the table.
use mathlib.Core.Bool.{false}
use mathlib.Core.Path.{◌≡◌}
use Rattle.std.proofs.lemmas.Result.{err_from_is_err_and}
use Rattle.meaning.specs.Scene.{Scene, scene_of, Accepted}
use Rattle.meaning.specs.Refusals.{not_there, outcome_alone}
use Rattle.meaning.specs.Verdicts.{PairIs}
use Rattle.scene_checks.specs.Checking.{to_table, from_table}
use Rattle.three_words.specs.Asked.{asked_there, then_judged, then_refused, of_pair}
use Rattle.three_words.proofs.pair_into.Goals as goal

pub pair-requires : goal.pair-requires
pair-requires c =
    let a = c.args in
    let s = scene_of a.positions.now a.edges.now a.triangles.now a.seams.now in
    let called = c.asked.ensures in
    let there = asked_there s a.kind a.first a.second false _ called.0 c.in_ok-asked.was in
    to_table (λ (u : Scene). Accepted u × (not_there u a.kind a.first a.second ≡ false)) called.1 there.0 there

pub returns-in_err-asked : goal.returns-in_err-asked
unfolding outcome_alone
returns-in_err-asked c =
    let a = c.args in
    let s = scene_of a.positions.now a.edges.now a.triangles.now a.seams.now in
    let called = c.asked.ensures in
    let (y, is, same) = err_from_is_err_and c.from_residual.result c.from_residual.ensures.1 in
    (rw (is, same) (of_pair s a.kind a.first a.second (PairIs s a.kind a.first a.second) _ (then_refused s a.kind a.first a.second false _ called.0 (PairIs s a.kind a.first a.second) c.in_err-asked.was)), called.1)

pub returns : goal.returns
unfolding outcome_alone
returns c =
    let a = c.args in
    let s = scene_of a.positions.now a.edges.now a.triangles.now a.seams.now in
    let called = c.asked.ensures in
    let told = c.in_ok-asked.was in
    let there = asked_there s a.kind a.first a.second false _ called.0 told in (
      of_pair s a.kind a.first a.second (PairIs s a.kind a.first a.second) _
          (then_judged s a.kind a.first a.second false _ called.0 told (PairIs s a.kind a.first a.second) c.pair.result
          (from_table (λ (u : Scene). PairIs u a.kind a.first a.second c.pair.result) called.1 there.0 c.pair.ensures)),
      called.1,
    )
