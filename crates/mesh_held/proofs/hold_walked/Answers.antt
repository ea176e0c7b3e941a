-- `hold_walked`: held where all three questions pass.
use native.Mathlib.Omega.{arith}
use borrow.Author.Tests.{not-false}
use Rattle.mesh_held.specs.Held.{held_not}
use borrow.Author.Rules.{rules}
use Rattle.mesh_held.proofs.hold_walked.Goals as goal

pub returns-then-not-held : goal.returns-then-not-held
returns-then-not-held c = held_not _ _ _ _ _

pub returns-then-entries-count : goal.returns-then-entries-count
returns-then-entries-count c = held_not _ _ _ _ _

pub overflow_sub-places : goal.overflow_sub-places
overflow_sub-places c = let start = c in start.requires.0 (not-false start.args.held c.if-not-held.false-raw)

pub returns-then-places-from : goal.returns-then-places-from
returns-then-places-from c = held_not _ _ _ _ _

pub hold_entries-requires : goal.hold_entries-requires
hold_entries-requires c =
    let start = c in
    let inside = start.requires.0 (not-false start.args.held c.if-not-held.false-raw) in
    (c.if-entries-count.false, omega (arith, inside))

pub returns : goal.returns
returns c =
    let start = c in
    let so = not-false start.args.held c.if-not-held.false-raw in
    let inside = start.requires.0 so in
    record {
      same = c.hold_entries.ensures.same;
      was = λ e. so;
      fits = λ e. c.if-entries-count.false;
      room = λ e. omega (arith, inside, c.if-places-from.false);
      more = λ e. c.hold_entries.ensures;
    }
