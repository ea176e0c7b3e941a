use Rattle.meaning.specs.Refusals.{number_of, outcome_alone}
use Rattle.three_words.specs.Asked.{five_first, then_six, neither}
use Rattle.three_words.proofs.first_of.Goals as goal

-- src/lib.rt:19:9
pub returns-then-missing : goal.returns-then-missing
unfolding outcome_alone number_of
returns-then-missing c = five_first _ _ c.if-missing.true

-- src/lib.rt:22:9
pub returns-then-shared : goal.returns-then-shared
unfolding outcome_alone number_of
returns-then-shared c = then_six _ _ c.if-missing.false c.if-shared.true

-- src/lib.rt:15:1
pub returns : goal.returns
unfolding outcome_alone
returns c = neither _ _ c.if-missing.false c.if-shared.false
