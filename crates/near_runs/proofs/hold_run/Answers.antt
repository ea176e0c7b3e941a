use native.Mathlib.Omega.{arith}
use mathlib.Core.Path.{◌≡◌, ◌∙◌}
use Rattle.scene_seams.specs.Alone.{tabled}
use Rattle.near_runs.specs.Held.{held_none, held_next}
use Rattle.near_runs.proofs.hold_run.Goals as goal

pub loop-i-init : goal.loop-i-init
loop-i-init c =
    let a = c.args in
    held_none (tabled a.positions.now a.edges.now a.triangles.now a.stands.now) a.kind a.first _

pub loop-i-preserved : goal.loop-i-preserved
loop-i-preserved c = held_next c.loop-i.invariant c.widen_row.ensures c.widen_row-in-loop-i.ensures

pub returns : goal.returns
returns c =
    let loop = c.loop-i in
    let all : loop.i ≡ c.args.end = omega (arith, c.loop-i-test.false, loop.auto.i-end c.requires.1) in
    (rw all at loop.invariant, loop.auto.own ∙ c.empty_box-2.ensures ∙ c.empty_box.ensures)
