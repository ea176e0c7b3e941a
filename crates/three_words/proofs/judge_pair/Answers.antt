use borrow.Author.Rules.{rules}
use Rattle.scene_seams.specs.Sewing.{blank_none, blank_table}
use Rattle.three_words.proofs.judge_pair.Goals as goal

pub pair_into-requires : goal.pair_into-requires
pair_into-requires c = blank_none _ c.if-seams-eq0.true

pub returns-then-seams-eq0 : goal.returns-then-seams-eq0
returns-then-seams-eq0 c = c.pair_into.ensures.0

pub pair_into-requires-2 : goal.pair_into-requires-2
pair_into-requires-2 c = blank_table _

pub returns : goal.returns
returns c = c.pair_into-2.ensures.0
