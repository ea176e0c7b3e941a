use Rattle.series_words.specs.Telling.{word_or_last}
use Rattle.series_words.proofs.word_in.Goals as goal

pub returns : goal.returns
returns c = rw c.unwrap_or.ensures (word_or_last _ c.word_of.result c.word_of.ensures)
