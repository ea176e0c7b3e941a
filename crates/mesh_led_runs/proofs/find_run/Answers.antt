-- `find_run`: what is met, taken to its parts and sorted.
use native.Mathlib.Omega.{arith}
use Rattle.meaning.specs.StoredBoxes.{box_at}
use Rattle.mesh_walk.specs.Places.{places_few}
use Rattle.mesh_walk.specs.Steps.{box_meets}
use Rattle.mesh_led_runs.specs.Leading.{run_found}
use Rattle.mesh_led_runs.specs.RunRows.{front_below}
use Rattle.mesh_led_runs.proofs.find_run.Goals as goal

pub lead_places-count-requires : goal.lead_places-count-requires
lead_places-count-requires c =
    let start = c in
    let a = start.args in
    let m = box_meets (box_at a.own.now 16) a.boxes.now a.levels.now in
    let found = c.find_met-met.ensures in
    let few = places_few m a.parts 0 in
    let front = found.front (omega (arith, found.counts, start.requires.4)) in (
      omega (arith, found.counts, start.requires.4, found.same),
      omega (arith, found.counts, start.requires.2),
      λ k h. omega (arith, start.requires.1.whole, front_below m a.parts 0 _ _ (omega (arith, found.counts, start.requires.4, found.same)) front k h),
    )

pub sort_front-requires : goal.sort_front-requires
sort_front-requires c =
    let start = c in
    let a = start.args in
    let found = c.find_met-met.ensures in
    let led = c.lead_places-count.ensures in
    let few = places_few (box_meets (box_at a.own.now 16) a.boxes.now a.levels.now) a.parts 0 in (
      omega (arith, found.counts, led.within),
      omega (arith, found.counts, led.within, led.same, start.requires.4, found.same),
      omega (arith, found.counts, led.within, start.requires.2),
    )

pub returns : goal.returns
returns c =
    let start = c in
    let a = start.args in
    let m = box_meets (box_at a.own.now 16) a.boxes.now a.levels.now in
    let found = c.find_met-met.ensures in
    let few = places_few m a.parts 0 in
    let front = found.front (omega (arith, found.counts, start.requires.4)) in
    run_found start.requires.1 m a.from front (omega (arith, found.counts)) (omega (arith, start.requires.4, found.same)) c.lead_places-count.ensures c.sort_front.ensures
