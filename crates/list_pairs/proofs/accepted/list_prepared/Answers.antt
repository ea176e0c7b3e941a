-- `accepted::list_prepared`: walked into an array of its own, and entered where there is room.
use native.Mathlib.Omega.{arith}
use mathlib.Core.Path.{refl}
use Rattle.scene_seams.specs.Alone.{tabled}
use Rattle.list_pairs.specs.Answering.{too_many, listed, tested_refused, tested_listed}
use Rattle.list_pairs.specs.Own.{own_list}
use Rattle.list_pairs.proofs.accepted.list_prepared.Goals as goal

pub returns-then-room-count : goal.returns-then-room-count
returns-then-room-count c =
    let start = c in
    let a = start.args in
    let s = tabled a.positions.now a.edges.now a.triangles.now a.stands.now in
    tested_refused s (too_many s _ (own_list s c.walk_prepared-walk.ensures.0 refl).counts _ c.if-room-count.true)

pub enter-requires : goal.enter-requires
enter-requires c =
    let start = c in
    let a = start.args in
    let s = tabled a.positions.now a.edges.now a.triangles.now a.stands.now in
    (start.requires.0, own_list s c.walk_prepared-walk.ensures.0 refl, omega (arith, start.requires.1, c.if-room-count.false))

pub returns : goal.returns
returns c =
    let start = c in
    let a = start.args in
    let s = tabled a.positions.now a.edges.now a.triangles.now a.stands.now in
    let walked = c.walk_prepared-walk.ensures in
    tested_listed s (listed s _ (own_list s walked.0 refl).counts _ c.if-room-count.false c.enter.ensures) c.put_tests.ensures walked.1
