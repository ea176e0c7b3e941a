-- `settle_asked`: an entry is at fault, or there is no room, or each entry is judged.
use native.Mathlib.Omega.{arith}
use Rattle.std.proofs.lemmas.Result.{err_from_is_err_and}
use Rattle.own_words.specs.Faults.{so_many, all_there}
use Rattle.own_words.specs.Answering.{own_faulty, own_no_room, own_judged}
use Rattle.own_words.proofs.settle_asked.Goals as goal

pub returns-in_err-count : goal.returns-in_err-count
returns-in_err-count c =
    let (y, is, same) = err_from_is_err_and c.from_residual.result c.from_residual.ensures.1 in
    rw (is, same) (own_faulty _ _ _ c.first_fault.ensures c.in_err-count.was)

pub returns-then-words-count : goal.returns-then-words-count
returns-then-words-count c =
    let found = c.first_fault.ensures in
    let many = so_many found c.in_ok-count.was in
    own_no_room _ _ _ found c.in_ok-count.was (omega (arith, many, c.if-words-count.true)) many

pub settle_entries-requires : goal.settle_entries-requires
settle_entries-requires c =
    let found = c.first_fault.ensures in
    let many = so_many found c.in_ok-count.was in
    (c.requires, omega (arith, many), all_there found c.in_ok-count.was, omega (arith, c.if-words-count.false))

pub returns : goal.returns
returns c =
    let found = c.first_fault.ensures in
    let many = so_many found c.in_ok-count.was in
    own_judged _ _ _ found c.in_ok-count.was (omega (arith, many, c.if-words-count.false)) many c.settle_entries.ensures
