use native.Mathlib.Omega.{arith}
use Prim.Native.Nat.{ℕ}
use mathlib.Core.Bool.{false, ◌&&◌}
use mathlib.Core.Path.{◌≡◌, ap}
use lib.Dec.{leb}
use lib.ListN.{get_or}
use Rattle.sequences.specs.Chosen.{chosen_none, chosen_short}
use Rattle.mesh_walk.specs.PutDown.{down_none, down_then}
use Rattle.mesh_marks.specs.Taking.{is_taken, marked_places, marked_more}
use Rattle.mesh_marks.proofs.take_marked.Goals as goal

pub loop-c-init : goal.loop-c-init
loop-c-init c =
    let a = c.args in
    let none : marked_places a.places.now a.marks.now a.from 0 ≡ _ =
    chosen_none (is_taken a.places.now a.marks.now a.from) (λ i. get_or a.places.now i 0) 0 0 (omega arith) in
    rw none (down_none a.seconds.now 0)

pub put_over-n-requires : goal.put_over-n-requires
put_over-n-requires c =
    let start = c in
    let a = start.args in
    let loop = c.loop-c in
    let few = chosen_short (is_taken a.places.now a.marks.now a.from) (λ i. get_or a.places.now i 0) 0 loop.c in
    omega (arith, loop.invariant.counts, few, start.requires)

pub loop-c-preserved : goal.loop-c-preserved
loop-c-preserved c =
    let below = c.loop-c-test.true in
    let start = c in
    let a = start.args in
    let loop = c.loop-c in
    let asked = ap (λ (j : ℕ). leb a.from j && get_or a.marks.now loop.c false) c.wide.ensures in
    let more = marked_more a.places.now a.marks.now a.from loop.c asked in
    rw more (down_then loop.invariant c.put_over-n.ensures)

pub shape_of-seconds : goal.shape_of-seconds
shape_of-seconds c = c.loop-c.invariant.same

pub returns : goal.returns
returns c =
    let a = c.args in
    let loop = c.loop-c in
    let all : loop.c ≡ a.count = omega arith in
    rw all at loop.invariant
