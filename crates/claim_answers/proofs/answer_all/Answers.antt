use mathlib.Core.Path.{◌∙◌}
use native.Mathlib.Omega.{arith}
use borrow.Author.Rules.{rules}
use Rattle.claim_answers.specs.Weighing.{claim_there, claim_answer}
use Rattle.claim_answers.specs.Answering.{answer_starts, answer_never, taken, answer_room, answer_goes, answer_ends}
use Rattle.claim_answers.proofs.answer_all.Goals as goal

pub loop-at-init : goal.loop-at-init
loop-at-init c = (answer_starts _ _ _ c.requires.roomy, search rules, search rules)

pub next_claim-requires : goal.next_claim-requires
next_claim-requires c = let i = c.loop-at.invariant in record { at_in_bounds = c.loop-at-test.true; in_bounds = omega (arith, i.1); in_bounds_2 = omega (arith, i.2) }

pub returns-in-Err : goal.returns-in-Err
returns-in-Err c =
    let line = c in
    let test = line in
    absurd (answer_never test.loop-at.invariant.0 test.loop-at-test.true _ _ line.next_claim.ensures c.in-Err.is)

pub answer-requires : goal.answer-requires
answer-requires c =
    let kind = c in
    let line = kind in
    let test = line in
    let start = test in record { accepted = start.requires.accepted; numbers_value = claim_there _ _ _ _ _ (taken test.loop-at.invariant.0 test.loop-at-test.true _ _ line.next_claim.ensures kind.in-Ok.is) }

pub bounds-answers-count : goal.bounds-answers-count
bounds-answers-count c =
    let kind = c in
    let line = kind in
    let test = line in
    answer_room test.loop-at.invariant.0 test.loop-at-test.true line.next_claim.new.sizes line.next_claim.new.minus line.next_claim.ensures kind.in-Ok.is

pub overflow_add-count : goal.overflow_add-count
overflow_add-count c = omega (arith, c.loop-at.invariant.0.few)

pub loop-at-smaller : goal.loop-at-smaller
loop-at-smaller c =
    let kind = c in
    let line = kind in
    let test = line in
    let i = test.loop-at.invariant.0 in
    let took = taken i test.loop-at-test.true line.next_claim.new.sizes line.next_claim.new.minus line.next_claim.ensures kind.in-Ok.is in
    let on = answer_goes i test.loop-at-test.true line.next_claim.new.sizes line.next_claim.new.minus line.next_claim.ensures kind.in-Ok.is c.answer.result
    (claim_answer _ _ _ line.next_claim.new.sizes line.next_claim.new.minus took.line _ c.answer.ensures) in
    omega (arith, on.1, i.within, on.0.within)

pub loop-at-preserved : goal.loop-at-preserved
loop-at-preserved c =
    let kind = c in
    let line = kind in
    let test = line in
    let i = test.loop-at.invariant in
    let took = taken i.0 test.loop-at-test.true line.next_claim.new.sizes line.next_claim.new.minus line.next_claim.ensures kind.in-Ok.is in (
      rw c.byte_of.ensures
          (answer_goes i.0 test.loop-at-test.true line.next_claim.new.sizes line.next_claim.new.minus line.next_claim.ensures kind.in-Ok.is c.answer.result
          (claim_answer _ _ _ line.next_claim.new.sizes line.next_claim.new.minus took.line _ c.answer.ensures)).0,
      line.next_claim.auto.sizes ∙ i.1,
      line.next_claim.auto.minus ∙ i.2,
    )

pub shape_of-answers-in-Err : goal.shape_of-answers-in-Err
shape_of-answers-in-Err c = c.loop-at.invariant.0.wrote.same

pub shape_of-answers : goal.shape_of-answers
shape_of-answers c = c.loop-at.invariant.0.wrote.same

pub returns : goal.returns
returns c = answer_ends c.loop-at.invariant.0 c.loop-at-test.false
