-- The two steps say the same of their own corners.
use Rattle.std.proofs.Common.{arith}
use mathlib.Core.Logic.{⊎_swap}
use Rattle.corner_leaf.proofs.Tags.{decided}
use Rattle.corner_search.specs.Step.{falls_without, falls_handed, more, not_left, on_a_side, found, not_found, says_answer, says_tried, says_last}
use Rattle.corner_search.proofs.search.+first_second.Goals as goal
use Rattle.corner_search.proofs.search.+first_second.Goals.{first-then-left-i+else-second, first-else-left-i, second-then-left-i+else-first, second-else-left-i}

pub first-returns-in_default : goal.first-returns-in_default
first-returns-in_default t c =
    rw c.is_yes.ensures (says_answer _ c.requires.0.timed _ _ _ _ _ c.ask_once-answer.ensures (decided _ c.in_default.not-Open))

pub first-second-requires : goal.first-second-requires
first-second-requires t c = (falls_without _ _ _ _ c.decreases c.without-less.ensures c.if-left-i.true, c.requires)

pub first-returns-then-second : goal.first-returns-then-second
first-returns-then-second t c = found _ _ c.without-less.ensures c.second.ensures _ _ _ c.if-second.true

pub first-loop-i-preserved : goal.first-loop-i-preserved
first-loop-i-preserved t c =
    let left = c.args.left.now in
    more left c.loop-i.invariant
    (elim c.if-left-i.branch [
      | first-then-left-i+else-second w ↦ λ _. not_found left c.loop-i.i w.without-less.ensures w.second.ensures w.if-second.false
      | first-else-left-i w ↦ not_left left c.loop-i.i w.if-left-i.false
    ])

pub first-returns-then-tried : goal.first-returns-then-tried
first-returns-then-tried t c =
    says_tried _ c.requires.0.timed _ _ _ _ _ c.if-tried.true (omega arith) c.loop-i.invariant

pub first-second-requires-2 : goal.first-second-requires-2
first-second-requires-2 t c = (falls_handed _ _ c.decreases c.if-tried.false, c.requires)

pub first-returns : goal.first-returns
first-returns t c =
    says_last _ c.requires.0.timed _ _ _ _ _ _ (on_a_side _) _ c.if-tried.false _ c.ask_once-answer.ensures c.in-Open.is (omega arith) c.loop-i.invariant _ c.second-2.ensures

pub second-returns-in_default : goal.second-returns-in_default
second-returns-in_default t c =
    rw c.is_yes.ensures (says_answer _ c.requires.0.timed _ _ _ _ _ c.ask_once-answer.ensures (decided _ c.in_default.not-Open))

pub second-first-requires : goal.second-first-requires
second-first-requires t c = (falls_without _ _ _ _ c.decreases c.without-less.ensures c.if-left-i.true, c.requires)

pub second-returns-then-first : goal.second-returns-then-first
second-returns-then-first t c = found _ _ c.without-less.ensures c.first.ensures _ _ _ c.if-first.true

pub second-loop-i-preserved : goal.second-loop-i-preserved
second-loop-i-preserved t c =
    let left = c.args.left.now in
    more left c.loop-i.invariant
    (elim c.if-left-i.branch [
      | second-then-left-i+else-first w ↦ λ _. not_found left c.loop-i.i w.without-less.ensures w.first.ensures w.if-first.false
      | second-else-left-i w ↦ not_left left c.loop-i.i w.if-left-i.false
    ])

pub second-returns-then-tried : goal.second-returns-then-tried
second-returns-then-tried t c =
    says_tried _ c.requires.0.timed _ _ _ _ _ c.if-tried.true (omega arith) c.loop-i.invariant

pub second-first-requires-2 : goal.second-first-requires-2
second-first-requires-2 t c = (falls_handed _ _ c.decreases c.if-tried.false, c.requires)

pub second-returns : goal.second-returns
second-returns t c =
    says_last _ c.requires.0.timed _ _ _ _ _ _ (λ j k. ⊎_swap (on_a_side _ j k)) _ c.if-tried.false _ c.ask_once-answer.ensures c.in-Open.is (omega arith) c.loop-i.invariant _ c.first-2.ensures
