-- `other_joint_box`: axis by axis.
use borrow.Author.Rules.{rules}
use native.Mathlib.Omega.{arith}
use Rattle.stored_look.proofs.other_joint_box.Goals as goal

pub returns : goal.returns
returns c = rw (c.other_joint-x.ensures, c.other_joint-y.ensures, c.other_joint-z.ensures)
