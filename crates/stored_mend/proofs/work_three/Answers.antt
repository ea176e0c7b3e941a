-- `work_three`: the joint box of two vertices, joined with that of the third.
use borrow.Author.Rules.{rules}
use native.Mathlib.Omega.{arith}
use Rattle.stored_mend.specs.Mending.{one_more_joined}
use Rattle.stored_mend.proofs.work_three.Goals as goal

pub returns : goal.returns
returns c = one_more_joined c.work_two.ensures c.take_vertex.ensures c.store_joint_box.ensures
