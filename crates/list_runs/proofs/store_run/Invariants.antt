-- What stands under the number is the joint box of the boxes passed.
use Rattle.meaning.specs.StoredBoxes.{box_at}
use Rattle.list_boxes.specs.Storing.{BoxStored}
use Rattle.list_runs.specs.Joined.{joint_boxes}
use Rattle.list_runs.proofs.store_run.Given as goal

abbrev pub invariant-loop-k : goal.invariant-loop-k
invariant-loop-k l = BoxStored l.initial.boxes l.to (joint_boxes (box_at l.initial.boxes) l.at l.k) l.boxes
