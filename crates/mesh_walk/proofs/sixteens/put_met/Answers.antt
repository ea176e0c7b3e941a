use native.Mathlib.Omega.{arith}
use Prim.Native.Nat.{◌+◌}
use mathlib.Core.Bool.{Bool}
use mathlib.Core.List.{◌++◌}
use mathlib.Core.Path.{◌≡◌, sym, ap, ◌∙◌}
use Rattle.sequences.specs.Chosen.{one, chosen, chosen_none, chosen_short}
use Rattle.sequences.specs.Gather.{gather_last}
use Rattle.meaning.specs.StoredBoxes.{box_at}
use Rattle.mesh_walk.specs.Steps.{box_meets}
use Rattle.mesh_walk.specs.PutDown.{down_none, down_then}
use Rattle.mesh_walk.proofs.sixteens.put_met.Goals as goal

pub bounds-levels-0 : goal.bounds-levels-0
bounds-levels-0 c = c.requires.row_in_bounds.2

pub loop-j-init : goal.loop-j-init
loop-j-init c =
    let start = c in
    let a = start.args in
    let m = box_meets (box_at a.own.now a.row) a.boxes.now a.levels.now in
    let none : chosen m (λ i. i) a.first a.first ≡ _ = chosen_none m (λ i. i) a.first a.first (omega arith) in
    rw none (down_none a.list.now a.k)

pub overflow_add-base : goal.overflow_add-base
overflow_add-base c =
    let start = c in
    omega (arith, c.loop-j-test.true, start.requires.row_in_bounds.1, start.ranges)

pub boxes_meet_flat-met-requires : goal.boxes_meet_flat-met-requires
boxes_meet_flat-met-requires c =
    let start = c in
    (start.requires.row_in_bounds.0, omega (arith, c.loop-j-test.true, start.requires.row_in_bounds.1))

pub overflow_cast-j : goal.overflow_cast-j
overflow_cast-j c =
    let start = c in
    omega (arith, c.loop-j-test.true, start.requires.first_le_end)

pub put_over-n-requires : goal.put_over-n-requires
put_over-n-requires c =
    let start = c in
    let a = start.args in
    let loop = c.loop-j in
    let m = box_meets (box_at a.own.now a.row) a.boxes.now a.levels.now in
    let few = chosen_short m (λ i. i) a.first loop.j in
    omega (arith, loop.invariant.counts, few, start.requires.first_le_end)

pub loop-j-preserved : goal.loop-j-preserved
loop-j-preserved c =
    let below = c.loop-j-test.true in
    let start = c in
    let a = start.args in
    let loop = c.loop-j in
    let m = box_meets (box_at a.own.now a.row) a.boxes.now a.levels.now in
    let met = c.boxes_meet_flat-met in
    let more : chosen m (λ i. i) a.first (loop.j + 1) ≡ chosen m (λ i. i) a.first loop.j ++ one met.result loop.j =
    gather_last (λ i. one (m i) i) a.first loop.j (omega arith)
    ∙ ap (λ (b : Bool). chosen m (λ i. i) a.first loop.j ++ one b loop.j) (sym met.ensures) in
    rw more (down_then loop.invariant c.put_over-n.ensures)

pub shape_of-list : goal.shape_of-list
shape_of-list c = c.loop-j.invariant.same

pub returns : goal.returns
returns c =
    let a = c.args in
    let loop = c.loop-j in
    let all : loop.j ≡ a.end = omega arith in
    rw all at loop.invariant
