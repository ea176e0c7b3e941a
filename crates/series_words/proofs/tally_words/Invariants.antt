use Rattle.series_words.specs.Telling.{words_in, TallyGoes}
use Rattle.series_words.proofs.tally_words.Given as goal

abbrev pub invariant-loop-k : goal.invariant-loop-k
invariant-loop-k l = TallyGoes (words_in l.k l.bytes) l.initial.next l.next
