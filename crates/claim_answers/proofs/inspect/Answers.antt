use mathlib.Core.Path.{◌∙◌}
use native.Mathlib.Omega.{arith}
use borrow.Author.Rules.{rules}
use Rattle.claim_answers.specs.Inspecting.{inspect_starts, inspect_goes, inspect_fails, inspect_ends}
use Rattle.claim_answers.proofs.inspect.Goals as goal

pub loop-at-init : goal.loop-at-init
loop-at-init c = (inspect_starts _ _, search rules, search rules)

pub next_claim-requires : goal.next_claim-requires
next_claim-requires c = let i = c.loop-at.invariant in record { at_in_bounds = c.loop-at-test.true; in_bounds = omega (arith, i.1); in_bounds_2 = omega (arith, i.2) }

pub overflow_add-result : goal.overflow_add-result
overflow_add-result c = omega (arith, c.loop-at.invariant.0.few)

pub returns-in-Err : goal.returns-in-Err
returns-in-Err c =
    let line = c in
    inspect_fails line.loop-at.invariant.0 _ _ line.next_claim.ensures c.in-Err.is

pub overflow_add-count : goal.overflow_add-count
overflow_add-count c = omega (arith, c.loop-at.invariant.0.few)

pub loop-at-smaller : goal.loop-at-smaller
loop-at-smaller c =
    let line = c in
    let i = line.loop-at.invariant.0 in
    let on = inspect_goes i line.next_claim.new.sizes line.next_claim.new.minus line.next_claim.ensures c.in-Ok.is in
    omega (arith, on.1, i.reached.within, on.0.reached.within)

pub loop-at-preserved : goal.loop-at-preserved
loop-at-preserved c =
    let line = c in
    let i = line.loop-at.invariant in (
      (inspect_goes i.0 _ _ line.next_claim.ensures c.in-Ok.is).0,
      line.next_claim.auto.sizes ∙ i.1,
      line.next_claim.auto.minus ∙ i.2,
    )

pub returns : goal.returns
returns c = inspect_ends c.loop-at.invariant.0 c.loop-at-test.false
