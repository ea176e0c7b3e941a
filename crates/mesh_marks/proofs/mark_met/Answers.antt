use native.Mathlib.Nat.{add-zero}
use native.Mathlib.Omega.{arith}
use mathlib.Core.Path.{◌≡◌, ap, ◌∙◌}
use Rattle.meaning.specs.StoredBoxes.{Box, box_at}
use Rattle.list_boxes.specs.Kept.{meet_boxes}
use Rattle.mesh_marks.specs.Marked.{spread_box, marking_starts, marking_next}
use Rattle.mesh_marks.proofs.mark_met.Goals as goal

pub loop-q-init : goal.loop-q-init
loop-q-init c = marking_starts _ _ _

pub bounds-marks-q : goal.bounds-marks-q
bounds-marks-q c =
    let pre = c.requires in
    omega (arith, c.loop-q-test.true, pre.1, pre.3, c.loop-q.invariant.same)

pub loop-q-preserved : goal.loop-q-preserved
loop-q-preserved c =
    let below = c.loop-q-test.true in
    let start = c in
    let a = start.args in
    let loop = c.loop-q in
    let copied = c.copy_boxes.ensures.at 0 (omega arith) ∙ ap (box_at a.boxes.now) (add-zero a.row) in
    marking_next (omega (arith, start.requires.1, start.requires.3)) (c.meets_spread.ensures ∙ ap (λ (b : Box). meet_boxes b (spread_box a.six.now loop.q)) copied) loop.invariant

pub shape_of-marks : goal.shape_of-marks
shape_of-marks c = c.loop-q.invariant.same

pub returns : goal.returns
returns c =
    let a = c.args in
    let loop = c.loop-q in
    let all : loop.q ≡ a.count = omega arith in
    rw all at loop.invariant.done
