use Rattle.list_words.specs.Listed.{pairs_in}
use Rattle.series_words.specs.Telling.{words_in, LogGoes}
use Rattle.series_words.proofs.log_hits.Given as goal

abbrev pub invariant-loop-k : goal.invariant-loop-k
invariant-loop-k l = LogGoes l.step (pairs_in l.k l.list) (words_in l.k l.bytes) l.initial.next l.next
