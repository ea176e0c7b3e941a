use Rattle.std.proofs.Common.{◌≡◌, arith}
use Rattle.list_runs.specs.Filled.{run_begun, run_goes, run_ends}
use Rattle.list_runs.proofs.store_run.Goals as goal

pub loop-k-init : goal.loop-k-init
loop-k-init c = run_begun _ (omega (arith, c.requires)) c.store_joint_box.ensures

pub store_joint_box-requires-in-loop-k : goal.store_joint_box-requires-in-loop-k
store_joint_box-requires-in-loop-k c =
    let long = c.loop-k.invariant.same in
    let first = c.store_joint_box.ensures.same in
    (omega (arith, c.requires), omega (arith, c.requires), omega (arith, c.requires))

pub loop-k-preserved : goal.loop-k-preserved
loop-k-preserved c =
    run_goes _ c.loop-k.k (omega (arith, c.requires)) c.loop-k.invariant c.store_joint_box-in-loop-k.ensures

pub returns : goal.returns
returns c =
    let all : c.loop-k.k ≡ c.args.more = omega arith in
    run_ends c.args.at c.args.more (omega (arith, c.requires)) c.store_joint_box.ensures (rw all at c.loop-k.invariant)
