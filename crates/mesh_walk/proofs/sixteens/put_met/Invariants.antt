-- `put_met`: the parts passed that are met are put down.
use Rattle.sequences.specs.Chosen.{chosen}
use Rattle.meaning.specs.StoredBoxes.{box_at}
use Rattle.mesh_walk.specs.Steps.{box_meets}
use Rattle.mesh_walk.specs.PutDown.{PutDown}
use Rattle.mesh_walk.proofs.sixteens.put_met.Given as goal

abbrev pub invariant-loop-j : goal.invariant-loop-j
invariant-loop-j l = PutDown l.initial.list l.k (chosen (box_meets (box_at l.own l.row) l.boxes l.levels) (λ i. i) l.first l.j) l.list l.n
