use mathlib.Core.List.{List}
use mathlib.Core.Path.{sym, ◌∙◌, subst}
use Prim.Native.Nat.{ℕ}
use Rattle.meaning.specs.Limits.{contact_limit}
use Rattle.meaning.specs.Scene.{scene_of, AcceptedWithin}
use Rattle.scene_report.specs.FromCalls.{accepted_sewable, accepted_tabled}
use Rattle.contact_pair.specs.Ready.{within_old}
use Rattle.hit_report.specs.Told.{beyond_refused, told_as}
use Rattle.contact_report.proofs.scene_lines.Goals as goal

pub returns-then-beyond_old_range : goal.returns-then-beyond_old_range
returns-then-beyond_old_range c =
    let a = c.args in
    beyond_refused (scene_of a.positions.now a.edges.now a.triangles.now a.seams.now) (sym c.beyond_old_range.ensures ∙ c.if-beyond_old_range.true) c.refused_line.ensures

pub sew_all-requires : goal.sew_all-requires
sew_all-requires c = accepted_sewable c.requires.0

pub near_contacts-requires : goal.near_contacts-requires
near_contacts-requires c =
    let start = c in
    let a = start.args in
    let same = accepted_tabled start.requires.0 c.sew_all.ensures in
    let near = within_old start.requires.0 (sym c.beyond_old_range.ensures ∙ c.if-beyond_old_range.false) in (
      subst (λ (w : List ℕ). AcceptedWithin contact_limit (scene_of a.positions.now a.edges.now a.triangles.now w)) (sym same) near,
      start.requires.1,
    )

pub returns : goal.returns
returns c = told_as (accepted_tabled c.requires.0 c.sew_all.ensures) c.near_contacts.ensures
