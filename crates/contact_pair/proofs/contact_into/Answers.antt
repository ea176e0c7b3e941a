-- A refusal stays; then 16; then the contact, over the table of the scene's seams.
use mathlib.Core.Bool.{false}
use mathlib.Core.Path.{◌≡◌, sym, ◌∙◌}
use Rattle.std.proofs.lemmas.Result.{err_from_is_err_and}
use Rattle.meaning.specs.Limits.{contact_limit}
use Rattle.meaning.specs.Scene.{Scene, scene_of, AcceptedWithin}
use Rattle.meaning.specs.Refusals.{not_there}
use Rattle.meaning.specs.Resting.{PairSettled}
use Rattle.meaning.specs.WholeContacts.{WholeContactIs}
use Rattle.scene_checks.specs.Checking.{to_table, from_table}
use Rattle.contact_pair.specs.Ready.{old_accepted}
use Rattle.contact_pair.specs.Answering.{decided_there, whole_contact_refused, whole_contact_beyond, whole_contact_found}
use Rattle.contact_pair.proofs.contact_into.Goals as goal

pub returns-then-beyond_old_range : goal.returns-then-beyond_old_range
returns-then-beyond_old_range c =
    let a = c.args in
    let called = c.settle_into.ensures in
    (whole_contact_beyond (scene_of a.positions.now a.edges.now a.triangles.now a.seams.now) a.kind a.first a.second _ called.0 c.in_ok-word.was (sym c.beyond_old_range.ensures ∙ c.if-beyond_old_range.true), called.1)

pub contact_of_word-requires : goal.contact_of_word-requires
contact_of_word-requires c =
    let a = c.args in
    let called = c.settle_into.ensures in
    let there = decided_there (scene_of a.positions.now a.edges.now a.triangles.now a.seams.now) a.kind a.first a.second _ called.0 c.in_ok-word.was (sym c.beyond_old_range.ensures ∙ c.if-beyond_old_range.false) in
    to_table (λ (u : Scene). AcceptedWithin contact_limit u × (not_there u a.kind a.first a.second ≡ false) × PairSettled u a.kind a.first a.second c.in_ok-word.word) called.1 (old_accepted there.0) there

pub returns-in_err-word : goal.returns-in_err-word
returns-in_err-word c =
    let a = c.args in
    let called = c.settle_into.ensures in
    let (y, is, same) = err_from_is_err_and c.from_residual.result c.from_residual.ensures.1 in
    (rw (is, same) (whole_contact_refused (scene_of a.positions.now a.edges.now a.triangles.now a.seams.now) a.kind a.first a.second _ called.0 c.in_err-word.was), called.1)

pub returns : goal.returns
returns c =
    let a = c.args in
    let called = c.settle_into.ensures in
    let near = sym c.beyond_old_range.ensures ∙ c.if-beyond_old_range.false in
    let there = decided_there (scene_of a.positions.now a.edges.now a.triangles.now a.seams.now) a.kind a.first a.second _ called.0 c.in_ok-word.was near in (
      whole_contact_found (scene_of a.positions.now a.edges.now a.triangles.now a.seams.now) a.kind a.first a.second _ called.0 c.in_ok-word.was near _
          (from_table (λ (u : Scene). WholeContactIs u a.kind a.first a.second c.contact_of_word.result) called.1 (old_accepted there.0) c.contact_of_word.ensures),
      called.1,
    )
