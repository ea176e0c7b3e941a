-- `copying::copy_positions`: the numbers passed stand in front.
use Rattle.text_scene.specs.Copying.{Copying}
use Rattle.text_scene.proofs.copying.copy_positions.Given as goal

abbrev pub invariant-loop-k : goal.invariant-loop-k
invariant-loop-k l = Copying l.own l.initial.lent l.count l.lent l.k
