-- `copying::copy_positions`: the vertices passed stand in front, each with its start and its end.
use Rattle.obj_scene.specs.Between.{Pairing}
use Rattle.obj_scene.proofs.copying.copy_positions.Given as goal

abbrev pub invariant-loop-v : goal.invariant-loop-v
invariant-loop-v l = Pairing l.p l.q l.initial.lent l.count l.lent l.v
