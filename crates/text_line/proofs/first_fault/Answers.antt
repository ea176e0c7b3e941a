-- `text_line::first_fault` meets its contract: the tests that led to a return are the checks that do not hold, and the one that does.
use Rattle.meaning.specs.Refusals.{Answers, number_of, outcome_alone}
use Rattle.text_line.proofs.first_fault.Goals as goal

pub returns-then-late : goal.returns-then-late
unfolding Answers outcome_alone number_of
returns-then-late c = simp c.if-late.true

pub returns-then-excess : goal.returns-then-excess
unfolding Answers outcome_alone number_of
returns-then-excess c = simp (c.if-late.false, c.if-excess.true)

pub returns-then-far : goal.returns-then-far
unfolding Answers outcome_alone number_of
returns-then-far c = simp (c.if-late.false, c.if-excess.false, c.if-far.true)

pub returns-then-unknown : goal.returns-then-unknown
unfolding Answers outcome_alone number_of
returns-then-unknown c = simp (c.if-late.false, c.if-excess.false, c.if-far.false, c.if-unknown.true)

pub returns-then-twice : goal.returns-then-twice
unfolding Answers outcome_alone number_of
returns-then-twice c =
    simp (
      c.if-late.false,
      c.if-excess.false,
      c.if-far.false,
      c.if-unknown.false,
      c.if-twice.true,
    )

pub returns : goal.returns
unfolding Answers outcome_alone number_of
returns c =
    simp (
      c.if-late.false,
      c.if-excess.false,
      c.if-far.false,
      c.if-unknown.false,
      c.if-twice.false,
    )
    tt
