-- `kept::store_joint_box`: span by span.
use borrow.Author.Rules.{rules}
use native.Mathlib.Omega.{arith}
use Rattle.list_boxes.specs.Working.{joint_stored}
use Rattle.list_boxes.proofs.kept.store_joint_box.Goals as goal

pub returns : goal.returns
returns c = joint_stored _ _ _ _ c.store_joint.ensures c.store_joint-2.ensures c.store_joint-3.ensures (omega (arith, c.requires))
