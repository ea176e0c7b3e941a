-- `work_two`: the first by itself, and the second joined.
use borrow.Author.Rules.{rules}
use native.Mathlib.Omega.{arith}
use Rattle.stored_mend.specs.Mending.{two_joined}
use Rattle.stored_mend.proofs.work_two.Goals as goal

pub returns : goal.returns
returns c = two_joined c.requires.2 c.take_vertex.ensures c.store_joint_box.ensures c.take_vertex-2.ensures c.store_joint_box-2.ensures
