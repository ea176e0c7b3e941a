use Rattle.four_words.specs.Words.{plain_word}
use Rattle.four_words.proofs.accepted.plain_word.Goals as goal

pub returns-in-Hit : goal.returns-in-Hit
unfolding plain_word
returns-in-Hit c = rw c.in-Hit.is

pub returns-in-Miss : goal.returns-in-Miss
unfolding plain_word
returns-in-Miss c = rw c.in-Miss.is

pub returns-in-Degenerate : goal.returns-in-Degenerate
unfolding plain_word
returns-in-Degenerate c = rw c.in-Degenerate.is
