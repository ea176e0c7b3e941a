use native.Mathlib.Omega.{arith}
use borrow.Author.Rules.{rules}
use Rattle.obj_edges.specs.Chains.{Searching, search_starts, search_found, search_goes, search_ends}
use Rattle.obj_edges.proofs.is_joined.Goals as goal

pub bounds-edges-a : goal.bounds-edges-a
bounds-edges-a c = omega (arith, c.requires.tabled.room, c.requires.b_bound)

pub overflow_cast-e-3 : goal.overflow_cast-e-3
overflow_cast-e-3 c =
    let a = c.args in
    omega (arith, (search_starts a.a a.b a.edges.now a.count c.requires.tabled.knows c.requires.b_bound (omega (arith, c.requires.tabled.few, c.requires.tabled.room))).within, c.requires.tabled.few)

pub loop-e-init : goal.loop-e-init
loop-e-init c = search_starts _ _ _ _ c.requires.tabled.knows c.requires.b_bound (omega (arith, c.requires.tabled.few, c.requires.tabled.room))

pub overflow_mul-x : goal.overflow_mul-x
overflow_mul-x c = omega (arith, c.loop-e.invariant.within, c.requires.tabled.few)

pub overflow_sub-x : goal.overflow_sub-x
overflow_sub-x c = omega (arith, c.loop-e-test.true)

pub bounds-edges-e : goal.bounds-edges-e
bounds-edges-e c =
    let p = c.requires.tabled in
    omega (arith, c.loop-e-test.true, c.loop-e.invariant.within, p.few, p.room)

pub overflow_mul-y : goal.overflow_mul-y
overflow_mul-y c = omega (arith, c.loop-e.invariant.within, c.requires.tabled.few)

pub overflow_sub-y : goal.overflow_sub-y
overflow_sub-y c = omega (arith, c.loop-e-test.true)

pub bounds-edges-e-in-loop-e : goal.bounds-edges-e-in-loop-e
bounds-edges-e-in-loop-e c =
    let p = c.requires.tabled in
    omega (arith, c.loop-e-test.true, c.loop-e.invariant.within, p.few, p.room)

pub returns-then-x-a : goal.returns-then-x-a
returns-then-x-a c =
    let p = c.requires.tabled in
    search_found c.loop-e.invariant (omega (arith, p.few, p.room)) c.loop-e-test.true c.if-x-a.true

pub overflow_add-e-in-loop-e : goal.overflow_add-e-in-loop-e
overflow_add-e-in-loop-e c = omega (arith, c.loop-e.invariant.within, c.requires.tabled.few)

pub bounds-edges-e-in-loop-e-2 : goal.bounds-edges-e-in-loop-e-2
bounds-edges-e-in-loop-e-2 c =
    let p = c.requires.tabled in
    omega (arith, c.loop-e.invariant.within, p.few, p.room)

pub overflow_cast-e-in-loop-e : goal.overflow_cast-e-in-loop-e
overflow_cast-e-in-loop-e c =
    let p = c.requires.tabled in
    let i = c.loop-e.invariant in
    omega (arith, (search_goes i (omega (arith, p.few, p.room)) c.loop-e-test.true p.knows c.if-x-a.false).1, i.within, p.few)

pub loop-e-smaller : goal.loop-e-smaller
loop-e-smaller c =
    let p = c.requires.tabled in
    (search_goes c.loop-e.invariant (omega (arith, p.few, p.room)) c.loop-e-test.true p.knows c.if-x-a.false).1

pub loop-e-preserved : goal.loop-e-preserved
loop-e-preserved c =
    let p = c.requires.tabled in
    (search_goes c.loop-e.invariant (omega (arith, p.few, p.room)) c.loop-e-test.true p.knows c.if-x-a.false).0

pub returns : goal.returns
returns c =
    let p = c.requires.tabled in
    search_ends c.loop-e.invariant (omega (arith, p.few, p.room)) (omega (arith, c.loop-e-test.false))
