-- `copying::copy_numbers`: the numbers passed stand in front.
use Rattle.text_scene.specs.Copying.{Copying}
use Rattle.text_scene.proofs.copying.copy_numbers.Given as goal

abbrev pub invariant-loop-k : goal.invariant-loop-k
invariant-loop-k l = Copying l.own l.initial.lent l.count l.lent l.k
