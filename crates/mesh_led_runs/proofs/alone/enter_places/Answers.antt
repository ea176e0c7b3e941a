use native.Mathlib.Omega.{arith}
use Rattle.std.proofs.lemmas.List.{take_all}
use mathlib.Core.Path.{◌≡◌}
use lib.ListN.{take}
use Rattle.mesh_entries.specs.Entering.{entered_length}
use Rattle.mesh_rows.specs.Rows.{entry_of}
use Rattle.mesh_runs.specs.Taken.{front_read}
use Rattle.mesh_led_runs.specs.Put.{places_none, places_next}
use Rattle.mesh_led_runs.proofs.alone.enter_places.Goals as goal

pub loop-place-init : goal.loop-place-init
loop-place-init c =
    let a = c.args in
    places_none (entry_of a.kind a.i) (take a.count a.places.now) a.most a.at a.list.now

pub put_below-requires : goal.put_below-requires
put_below-requires c =
    let a = c.args in
    let pre = c.requires.count_in_bounds in
    let n = c.loop-place.place-index in
    let there = front_read a.places.now a.count n _ pre.0 c.loop-place-test.true c.wide.ensures in
    (omega (arith, c.requires.most_in_bounds.0, entered_length c.loop-place.invariant), pre.2, omega (arith, there.1, pre.3 n there.0))

pub loop-place-preserved : goal.loop-place-preserved
loop-place-preserved c =
    let a = c.args in
    let loop = c.loop-place in
    let read = c.wide.ensures in
    places_next (entry_of a.kind a.i) (take a.count a.places.now) loop.place-index c.loop-place-test.true loop.invariant (rw read at c.put_below.ensures)

pub returns : goal.returns
returns c =
    let a = c.args in
    let loop = c.loop-place in
    let places = take a.count a.places.now in
    let all : take loop.place-index places ≡ places = take_all loop.place-index places c.loop-place-test.false in
    rw all at loop.invariant
