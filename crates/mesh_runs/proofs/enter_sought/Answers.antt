use native.Mathlib.Omega.{arith}
use mathlib.Core.Path.{sym, ◌∙◌}
use Rattle.mesh_entries.specs.Entering.{entering_place, entering_length}
use Rattle.mesh_runs.specs.Going.{sought_starts, sought_goes, sought_skips, sought_ends, sought_asked, sought_reached}
use Rattle.mesh_runs.proofs.enter_sought.Goals as goal
use Rattle.mesh_runs.proofs.enter_sought.Goals.{then-is_met, else-is_met}

pub loop-place-init : goal.loop-place-init
loop-place-init c =
    let a = c.args in
    sought_starts a.which c.requires.sought a.most a.at a.list.now

pub is_met-requires : goal.is_met-requires
is_met-requires c =
    let so = c.requires.sought in
    (so.inside, sought_reached c.args.which so c.loop-place.place-index _ c.loop-place-test.true c.wide-j.ensures)

pub enter_found-k-requires : goal.enter_found-k-requires
enter_found-k-requires c =
    let a = c.args in
    let so = c.requires.sought in
    let loop = c.loop-place in
    record {
      askable = λ e. sought_asked a.which so loop.place-index _ c.loop-place-test.true c.wide-j.ensures;
      most_in_bounds = (omega (arith, c.requires.most_in_bounds, entering_length loop.invariant), omega (arith, c.requires.most_in_bounds, entering_place loop.invariant, so.few));
    }

pub loop-place-preserved : goal.loop-place-preserved
loop-place-preserved c =
    let a = c.args in
    let so = c.requires.sought in
    let below = c.loop-place-test.true in
    let loop = c.loop-place in
    let j = c.wide-j.result in
    let read = c.wide-j.ensures in
    let asked = c.is_met.ensures in
    elim c.if-is_met.branch [
      | then-is_met w ↦
          rw (w.k-is, w.list-is) (sought_goes a.which so loop.place-index j below read (sym w.if-is_met.true ∙ asked) loop.invariant w.enter_found-k.ensures)
      | else-is_met w ↦
          rw (w.k-is, w.list-is) (sought_skips a.which so loop.place-index j below read (sym w.if-is_met.false ∙ asked) loop.invariant)
    ]

pub returns : goal.returns
returns c = sought_ends c.args.which c.requires.sought c.loop-place.place-index c.loop-place-test.false c.loop-place.invariant
