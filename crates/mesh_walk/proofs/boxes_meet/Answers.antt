-- `boxes_meet`: the first axis on which the spans are apart decides, and if there is none the third one does.
use borrow.Author.Tests.{not-true, not-false}
use Rattle.mesh_walk.proofs.boxes_meet.Goals as goal

pub returns-then-not-spans_meet : goal.returns-then-not-spans_meet
returns-then-not-spans_meet c =
    let first = c.spans_meet in
    simp (← first.ensures, not-true first.result c.if-not-spans_meet.true-raw)

pub returns-then-not-spans_meet-2 : goal.returns-then-not-spans_meet-2
returns-then-not-spans_meet-2 c =
    let first = c.spans_meet in
    let second = c.spans_meet-2 in
    simp (← first.ensures, not-false first.result c.if-not-spans_meet.false-raw, ← second.ensures, not-true second.result c.if-not-spans_meet-2.true-raw)

pub returns : goal.returns
returns c =
    let first = c.spans_meet in
    let second = c.spans_meet-2 in
    simp (← first.ensures, not-false first.result c.if-not-spans_meet.false-raw, ← second.ensures, not-false second.result c.if-not-spans_meet-2.false-raw)
    c.spans_meet-3.ensures
