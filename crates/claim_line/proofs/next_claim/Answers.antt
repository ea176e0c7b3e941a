-- A line that is no claim's, a claim at fault, or a claim that is not.
use Rattle.std.proofs.Common.{◌≡◌, arith, Some, None}
use Rattle.std.proofs.lemmas.Result.{err_from_is_err_and}
use Rattle.meaning.specs.declared.Refusal.TheVariants.{BadLine}
use Rattle.claim_line.specs.Stepping.{step_bad, step_fault, step_good}
use Rattle.claim_line.proofs.next_claim.Goals as goal

pub returns-in_err-line : goal.returns-in_err-line
returns-in_err-line c =
    let p = err_from_is_err_and c.from_residual.result c.from_residual.ensures.1 in
    let none : c.read_line.result ≡ None = grind arith in
    let same : c.in_err-line.field-0.0 ≡ BadLine = grind arith in
    rw (p.1, p.2, same) (step_bad _ _ _ _ _ c.requires.at_in_bounds c.read_line.ensures none)

pub returns-in_err-judge : goal.returns-in_err-judge
returns-in_err-judge c =
    let p = err_from_is_err_and c.from_residual-in_err-judge.result c.from_residual-in_err-judge.ensures.1 in
    let some : c.read_line.result ≡ Some c.in_ok-line.line = grind arith in
    rw (p.1, p.2) (step_fault _ _ _ _ _ c.read_line.ensures some c.judge.ensures c.in_err-judge.was)

pub returns : goal.returns
returns c =
    let some : c.read_line.result ≡ Some c.in_ok-line.line = grind arith in
    step_good _ _ _ _ _ c.read_line.ensures some c.judge.ensures c.in_ok-judge.was
