use borrow.Author.Rules.{rules}
use Rattle.scene_seams.specs.Sewing.{blank_none, blank_table}
use Rattle.scene_checks.proofs.check_scene.Goals as goal

pub check_into-requires : goal.check_into-requires
check_into-requires c = blank_none _ c.if-seams-eq0.true

pub returns-then-seams-eq0 : goal.returns-then-seams-eq0
returns-then-seams-eq0 c = c.check_into.ensures.checked

pub check_into-requires-2 : goal.check_into-requires-2
check_into-requires-2 c = blank_table _

pub returns : goal.returns
returns c = c.check_into-2.ensures.checked
