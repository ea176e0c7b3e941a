-- `skipping::prepare`: the boxes of all parts, then the runs.
use borrow.Author.Rules.{rules}
use native.Mathlib.Omega.{arith}
use Rattle.scene_seams.specs.Table.{seams_of}
use Rattle.list_boxes.specs.Parts.{accepted_drawn}
use Rattle.list_walk.proofs.skipping.prepare.Goals as goal

pub fill-requires : goal.fill-requires
fill-requires c = let start = c in (accepted_drawn start.requires.0, omega (arith, start.requires.1))

pub join_runs-requires : goal.join_runs-requires
join_runs-requires c =
    let start = c in
    let filled = c.fill.ensures (seams_of start.args.stands.now) in
    (start.requires.0, filled.boxed, omega (arith, filled.kept.same, start.requires.1))

pub returns : goal.returns
returns c = c.join_runs.ensures
