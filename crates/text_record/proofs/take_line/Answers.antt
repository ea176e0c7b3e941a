-- `text_record::take_line` meets its contract: the line is no record's or at fault; or its record is put, and held where it is a seam.
use Rattle.std.proofs.Common.{arith}
use Rattle.std.proofs.lemmas.Result.{err_from_is_err_and}
use Rattle.text_record.specs.Drafting.{take_fault, take_ready, take_hold, take_refused, take_goes}
use Rattle.text_record.proofs.take_line.Goals as goal

pub next_line-requires : goal.next_line-requires
next_line-requires c =
    let p = c.requires in
    record { at_in_bounds = p.inside; in_bounds = p.sized; in_bounds_2 = p.signed; bounded = p.draft.drafted.above.bounded }

pub put-requires : goal.put-requires
put-requires c =
    let p = c.requires in
    record {
      ready = take_ready _ _ _ _ _ c.next_line.ensures c.in_ok-step.was p.draft (omega (arith, c.next_line.auto.sizes, p.sized))
          (omega (arith, c.next_line.auto.minus, p.signed));
      roomy = p.roomy;
    }

pub hold-requires : goal.hold-requires
hold-requires c = take_hold _ _ _ _ _ c.next_line.ensures c.in_ok-step.was _ _ c.put.ensures c.requires.draft c.requires.roomy

pub returns-in_err-step : goal.returns-in_err-step
returns-in_err-step c =
    let p = err_from_is_err_and c.from_residual.result c.from_residual.ensures.1 in
    rw (p.1, p.2) (take_fault _ _ _ _ _ c.next_line.ensures _ _ c.in_err-step.was)

pub returns-in_err-hold : goal.returns-in_err-hold
returns-in_err-hold c =
    let p = err_from_is_err_and c.from_residual-in_err-hold.result c.from_residual-in_err-hold.ensures.1 in
    rw (p.1, p.2)
    (take_refused _ _ _ _ _ c.next_line.ensures c.in_ok-step.was _ _ c.put.ensures _ _ c.hold.ensures c.in_err-hold.was)

pub returns : goal.returns
returns c =
    take_goes _ _ _ _ _ c.next_line.ensures c.in_ok-step.was _ _ c.put.ensures _ _ c.hold.ensures c.in_ok-hold.was
    c.hold.auto.stands
