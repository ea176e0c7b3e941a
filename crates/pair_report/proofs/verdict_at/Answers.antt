use Rattle.list_words.specs.Listed.{answered_word, answered_none}
use Rattle.pair_report.proofs.verdict_at.Goals as goal

pub returns-in_default : goal.returns-in_default
returns-in_default c = absurd (answered_none c.requires.1 (search) c.word_of.ensures)

pub returns : goal.returns
returns c = answered_word _ c.in-Some.word (search) c.word_of.ensures
