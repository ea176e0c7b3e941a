use Rattle.scene_seams.specs.Sewing.{blank_none, blank_table}
use Rattle.four_words.proofs.settle_piece.Goals as goal

pub settle_piece_into-requires : goal.settle_piece_into-requires
settle_piece_into-requires c = blank_none _ c.if-seams-eq0.true

pub returns-then-seams-eq0 : goal.returns-then-seams-eq0
returns-then-seams-eq0 c = c.settle_piece_into.ensures.0

pub settle_piece_into-requires-2 : goal.settle_piece_into-requires-2
settle_piece_into-requires-2 c = blank_table _

pub returns : goal.returns
returns c = c.settle_piece_into-2.ensures.0
