use Rattle.std.proofs.Common.{◌≤◌, ◌<◌, refl, arith}
use Rattle.meaning.specs.Runs.{run_from, run_to}
use Rattle.list_runs.specs.Filled.{runs_begun, runs_go, runs_all, run_inside}
use Rattle.list_runs.proofs.fill_runs.Goals as goal
use Rattle.list_runs.proofs.fill_runs.Goals.{In-loop-r}

pub loop-r-init : goal.loop-r-init
loop-r-init c = runs_begun _ _ _ _

inside : (c : In-loop-r) → (run_from c.loop-r.r < run_to c.args.parts c.loop-r.r) × (run_to c.args.parts c.loop-r.r ≤ c.args.parts)
inside c = run_inside c.args.parts c.loop-r.r (omega (arith, c.runs_of-r-end.ensures))

pub loop-r-preserved : goal.loop-r-preserved
loop-r-preserved c =
    runs_go c.args.first c.args.parts c.args.to c.loop-r.r c.requires.0 (omega (arith, c.runs_of-r-end.ensures)) _ c.loop-r.invariant
    (rw c.run_to.ensures refl)
    c.store_run.ensures

pub returns : goal.returns
returns c = runs_all (omega (arith, c.runs_of-r-end.ensures)) c.loop-r.invariant
