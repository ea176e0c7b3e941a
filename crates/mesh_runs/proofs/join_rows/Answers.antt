-- `join_rows`: the copies are the rows' boxes, and their run has a joint box.
use Rattle.mesh_runs.specs.Runs.{joined_covers}
use Rattle.mesh_runs.proofs.join_rows.Goals as goal

pub returns : goal.returns
returns c =
    let start = c in
    joined_covers start.args.first start.args.count start.requires.1 start.requires.2 c.copy_boxes.ensures c.fill_runs.ensures
