-- The bytes of the answers become lines, or a refusal becomes one.
use Prim.Native.Nat.{ℕ}
use mathlib.Core.Path.{ap}
use native.Mathlib.Omega.{arith}
use lib.ListN.{length-replicate}
use Rattle.meaning.specs.Limits.{claim_room}
use Rattle.meaning.specs.Report.{refused_line}
use Rattle.report_words.specs.Lines.{wrote_as}
use Rattle.claim_report.specs.Printed.{few_given, answers_written, refusal_written}
use Rattle.claim_report.proofs.scene_answers.Goals as goal

pub answer_lines-requires : goal.answer_lines-requires
answer_lines-requires c =
    let count = c in
    let call = count in
    let few = few_given call.check_claims.ensures count.in-Ok.is in
    (few.1, omega (arith, few.0, length-replicate {A = ℕ} claim_room 0), call.requires)

pub returns-in-Ok : goal.returns-in-Ok
returns-in-Ok c =
    let lines = c in
    let count = lines in
    let call = count in
    answers_written call.check_claims.ensures (length-replicate {A = ℕ} claim_room 0) count.in-Ok.is lines.answer_lines.ensures

pub returns-in-Err : goal.returns-in-Err
returns-in-Err c =
    let line = c in
    let refusal = line in
    let call = refusal in
    refusal_written call.check_claims.ensures (length-replicate {A = ℕ} claim_room 0) refusal.in-Err.is
    (wrote_as (ap (λ (n : ℕ). refused_line n refusal.in-Err.refused.carries) line.number_of.ensures) line.refused_line.ensures)
