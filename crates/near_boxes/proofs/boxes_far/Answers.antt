-- `boxes_far`: the first axis on which the boxes are far decides, and if there is none the third one does.
use borrow.Author.Rules.{rules}
use Rattle.near_boxes.proofs.boxes_far.Goals as goal

pub returns-then-spans_far : goal.returns-then-spans_far
returns-then-spans_far c = simp (← c.spans_far.ensures, c.if-spans_far.true)

pub returns-then-spans_far-2 : goal.returns-then-spans_far-2
returns-then-spans_far-2 c = simp (← c.spans_far.ensures, c.if-spans_far.false, ← c.spans_far-2.ensures, c.if-spans_far-2.true)

pub returns : goal.returns
returns c =
    let first = c.spans_far in
    let second = c.spans_far-2 in
    simp (← first.ensures, c.if-spans_far.false, ← second.ensures, c.if-spans_far-2.false) c.spans_far-3.ensures
