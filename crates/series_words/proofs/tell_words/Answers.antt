use Rattle.series_words.specs.Telling.{further}
use Rattle.series_words.proofs.tell_words.Goals as goal

pub returns : goal.returns
returns c = further c.log_hits-log.ensures c.tally_words-tally.ensures c.first_in-first.ensures
