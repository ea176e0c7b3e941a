-- Hit and miss stay; a degenerate pair goes on.
use Rattle.four_words.proofs.Apart.{plain_stays, only_singular}
use Rattle.four_words.proofs.accepted.pair.Goals as goal

pub returns-in_default : goal.returns-in_default
returns-in_default c = rw c.plain_word.ensures (plain_stays _ _ _ _ _ c.pair-verdict.ensures c.in_default.not-Degenerate)

pub singular_word-requires : goal.singular_word-requires
singular_word-requires c = (c.requires.0, c.requires.1, only_singular _ _ _ _ _ c.pair-verdict.ensures c.in-Degenerate.is)
