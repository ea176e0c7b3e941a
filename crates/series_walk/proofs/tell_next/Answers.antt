-- `tell_next`: nothing more where a step had no room; else the step is told, and its room looked at.
use native.Mathlib.Omega.{arith}
use mathlib.Core.Path.{◌≡◌}
use Rattle.scene_seams.specs.Alone.{tabled}
use Rattle.series_walk.specs.Telling.{added_none, added_over, added_told}
use Rattle.series_walk.proofs.tell_next.Goals as goal

pub returns-then-past-gt0 : goal.returns-then-past-gt0
returns-then-past-gt0 c =
    let a = c.args in
    added_none (tabled a.positions.now a.edges.now a.triangles.now a.stands.now) c.if-past-gt0.true

pub returns-then-room-next : goal.returns-then-room-next
returns-then-room-next c =
    let a = c.args in
    let free : a.past.needed ≡ 0 = omega (arith, c.if-past-gt0.false) in
    added_over (tabled a.positions.now a.edges.now a.triangles.now a.stands.now) free c.tell_step-next.ensures.0 c.tell_step-next.ensures.1 c.if-room-next.true

pub returns : goal.returns
returns c =
    let a = c.args in
    let free : a.past.needed ≡ 0 = omega (arith, c.if-past-gt0.false) in
    added_told (tabled a.positions.now a.edges.now a.triangles.now a.stands.now) free c.tell_step-next.ensures.0 c.tell_step-next.ensures.1 c.if-room-next.false
