use native.Mathlib.Omega.{arith}
use Rattle.mesh_entries.specs.Entering.{entering_place, entering_length}
use Rattle.mesh_runs.specs.Taken.{taken_starts, taken_goes, taken_ends, taken_asked}
use Rattle.mesh_runs.proofs.enter_seconds.Goals as goal

pub loop-second-init : goal.loop-second-init
loop-second-init c =
    let a = c.args in
    taken_starts a.which c.requires.taken a.most a.at a.list.now

pub enter_found-k-requires : goal.enter_found-k-requires
enter_found-k-requires c =
    let a = c.args in
    let so = c.requires.taken in
    let loop = c.loop-second in
    record {
      askable = λ e. taken_asked a.which so loop.second-index _ c.loop-second-test.true c.wide-j.ensures;
      most_in_bounds = (omega (arith, c.requires.most_in_bounds, entering_length loop.invariant), omega (arith, c.requires.most_in_bounds, entering_place loop.invariant, so.few));
    }

pub loop-second-preserved : goal.loop-second-preserved
loop-second-preserved c =
    let loop = c.loop-second in
    taken_goes c.args.which c.requires.taken loop.second-index c.wide-j.result c.loop-second-test.true c.wide-j.ensures loop.invariant c.enter_found-k.ensures

pub returns : goal.returns
returns c = taken_ends c.args.which c.requires.taken c.loop-second.second-index c.loop-second-test.false c.loop-second.invariant
