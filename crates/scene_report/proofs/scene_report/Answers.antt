-- `scene_report::scene_report` meets its contract: the table that the seams are taken into has them, so the scene by the table is the scene.
use mathlib.Core.List.{List}
use mathlib.Core.Path.{sym, subst}
use Prim.Native.Nat.{ℕ}
use Rattle.meaning.specs.Scene.{scene_of, Accepted}
use Rattle.scene_report.specs.FromCalls.{accepted_sewable, accepted_tabled}
use Rattle.scene_report.specs.Whole.{reported_as}
use Rattle.scene_report.proofs.scene_report.Goals as goal

pub sew_all-requires : goal.sew_all-requires
sew_all-requires c = accepted_sewable c.requires.0

pub tabled_report-requires : goal.tabled_report-requires
tabled_report-requires c =
    let start = c in
    let a = start.args in
    let same = accepted_tabled start.requires.0 c.sew_all.ensures in (
      subst (λ (w : List ℕ). Accepted (scene_of a.positions.now a.edges.now a.triangles.now w)) (sym same) start.requires.0,
      start.requires.1,
    )

pub returns : goal.returns
returns c =
    let start = c in
    reported_as (accepted_tabled start.requires.0 c.sew_all.ensures) c.tabled_report.ensures
