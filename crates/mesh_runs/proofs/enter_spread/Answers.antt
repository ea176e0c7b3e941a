use native.Mathlib.Omega.{arith}
use Prim.Native.Nat.{ℕ, ◌+◌}
use mathlib.Core.Path.{◌≡◌, refl, sym, subst, ◌∙◌}
use Rattle.scene_seams.specs.Alone.{tabled}
use Rattle.mesh_entries.specs.Entering.{up_to_starts, up_to_next, entered_length}
use Rattle.mesh_marks.specs.Marked.{marked_for}
use Rattle.mesh_runs.specs.Runs.{Sought}
use Rattle.mesh_runs.specs.Taken.{row_taken}
use Rattle.mesh_runs.specs.Going.{sought_few}
use Rattle.mesh_runs.proofs.enter_spread.Goals as goal

pub loop-i-init : goal.loop-i-init
loop-i-init c = record { room = refl; entered = up_to_starts _ _ _ _ }

pub enter_seconds-k-requires : goal.enter_seconds-k-requires
enter_seconds-k-requires c =
    let start = c in
    let a = start.args in
    let s = tabled a.positions.now a.edges.now a.triangles.now a.stands.now in
    let pre = start.requires.all_sought in
    let spread = start.requires.spread in
    let loop = c.loop-i in
    let below = c.loop-i-test.true in
    let so_far = loop.invariant.entered in
    let few = sought_few a.which a.offset a.first a.end pre.0 loop.i (omega arith) in
    let so = subst (λ (f : ℕ). Sought a.which s a.kind loop.i a.boxes.now a.base (a.offset + loop.i) f a.places.now a.count) (sym c.first_second-from.ensures) (pre.0 loop.i so_far.past below) in
    record {
      taken = row_taken a.which so (marked_for spread.0 c.mark_met.ensures) c.take_marked-taken.ensures (omega (arith, spread.1, loop.invariant.room));
      most_in_bounds = (omega (arith, start.requires.most_in_bounds, entered_length so_far.done), omega (arith, start.requires.most_in_bounds, pre.2, so_far.done.counts));
    }

pub loop-i-preserved : goal.loop-i-preserved
loop-i-preserved c =
    let loop = c.loop-i in
    record {
      room = loop.invariant.room ∙ sym c.take_marked-taken.ensures.same;
      entered = up_to_next _ loop.invariant.entered c.enter_seconds-k.ensures;
    }

pub returns : goal.returns
returns c =
    let loop = c.loop-i in
    let all : loop.i ≡ c.args.end = omega (arith, c.loop-i-test.false, loop.auto.i-end c.requires.all_sought.1) in
    rw all at loop.invariant.entered.done
