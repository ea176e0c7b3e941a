use Rattle.scene_seams.specs.Sewing.{blank_none, blank_table}
use Rattle.pierced_pair.proofs.pierced_pair.Goals as goal

pub pierced_into-requires : goal.pierced_into-requires
pierced_into-requires c = blank_none _ c.if-seams-eq0.true

pub returns-then-seams-eq0 : goal.returns-then-seams-eq0
returns-then-seams-eq0 c = c.pierced_into.ensures.0

pub pierced_into-requires-2 : goal.pierced_into-requires-2
pierced_into-requires-2 c = blank_table _

pub returns : goal.returns
returns c = c.pierced_into-2.ensures.0
