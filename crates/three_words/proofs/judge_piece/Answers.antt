use borrow.Author.Rules.{rules}
use Rattle.scene_seams.specs.Sewing.{blank_none, blank_table}
use Rattle.three_words.proofs.judge_piece.Goals as goal

pub piece_into-requires : goal.piece_into-requires
piece_into-requires c = blank_none _ c.if-seams-eq0.true

pub returns-then-seams-eq0 : goal.returns-then-seams-eq0
returns-then-seams-eq0 c = c.piece_into.ensures.0

pub piece_into-requires-2 : goal.piece_into-requires-2
piece_into-requires-2 c = blank_table _

pub returns : goal.returns
returns c = c.piece_into-2.ensures.0
