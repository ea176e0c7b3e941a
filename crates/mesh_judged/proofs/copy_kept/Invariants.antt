-- `copy_kept`: the entries and words passed stand in front.
use Rattle.list_pairs.specs.Own.{Copying}
use Rattle.mesh_judged.proofs.copy_kept.Given as goal

abbrev pub invariant-loop-k : goal.invariant-loop-k
invariant-loop-k l = Copying l.own l.initial.list l.count l.list l.k × Copying l.marks l.initial.words l.count l.words l.k
