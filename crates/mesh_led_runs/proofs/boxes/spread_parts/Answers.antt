use native.Mathlib.Omega.{arith}
use Prim.Native.Nat.{ℕ}
use mathlib.Core.Path.{◌≡◌, refl, ap, sym, subst, ◌∙◌}
use lib.ListN.{length}
use Rattle.std.proofs.Common.{length-take-le}
use Rattle.mesh_runs.specs.Taken.{front_read}
use Rattle.mesh_led_runs.specs.PartBoxes.{part_box, PartThere}
use Rattle.mesh_led_runs.specs.SpreadParts.{parts_start, parts_next}
use Rattle.mesh_led_runs.proofs.boxes.spread_parts.Goals as goal

pub loop-q-init : goal.loop-q-init
loop-q-init c = record { spread = parts_start _ _ _; room = refl }

pub part_box-requires : goal.part_box-requires
part_box-requires c =
    let a = c.args in
    let pre = c.requires in
    let there = front_read a.places.now a.count c.loop-q.q _ pre.0.room c.loop-q-test.true c.wide.ensures in
    (subst (λ (j : ℕ). PartThere a.edges.now a.triangles.now a.kind j (length a.boxes.now)) (sym there.1) (pre.0.there c.loop-q.q there.0), omega (arith, c.loop-q.invariant.room))

pub loop-q-preserved : goal.loop-q-preserved
loop-q-preserved c =
    let a = c.args in
    let pre = c.requires in
    let so = c.loop-q.invariant in
    let there = front_read a.places.now a.count c.loop-q.q _ pre.0.room c.loop-q-test.true c.wide.ensures in
    let made = c.part_box.ensures ∙ ap (part_box a.edges.now a.triangles.now a.boxes.now a.kind) there.1 in
    record {
      spread = rw c.spread_box.ensures (parts_next (omega (arith, there.0, pre.1)) pre.2 made so.spread);
      room = omega arith;
    }

pub returns : goal.returns
returns c =
    let a = c.args in
    let loop = c.loop-q in
    let all : loop.q ≡ a.count = omega (arith, c.loop-q-test.false, loop.auto.q-end, length-take-le a.count a.places.now c.requires.0.room) in
    rw all at loop.invariant.spread.done
