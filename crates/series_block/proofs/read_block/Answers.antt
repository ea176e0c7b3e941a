use Rattle.std.specs.Prelude.{Ok}
use mathlib.Core.Path.{refl, sym, ap, ◌∙◌}
use native.Mathlib.Omega.{arith}
use borrow.Author.Rules.{rules}
use Rattle.series_block.specs.Block.{block_ready}
use Rattle.series_block.specs.Reading.{ends_fault, block_starts, read_fails, read_closes, read_goes, read_ends, count_small, next_inside}
use Rattle.series_block.proofs.read_block.Goals as goal

pub ends_at_once-requires : goal.ends_at_once-requires
ends_at_once-requires c = next_inside c.requires.at_step

pub returns-then-ends_at_once : goal.returns-then-ends_at_once
returns-then-ends_at_once c = λ x s a. ends_fault a (sym c.ends_at_once.ensures ∙ c.if-ends_at_once.true)

pub overflow_add-next : goal.overflow_add-next
overflow_add-next c =
    let inside = next_inside c.requires.at_step in
    search rules

pub loop-next-init : goal.loop-next-init
loop-next-init c = (λ x s a. block_starts a (sym c.ends_at_once.ensures ∙ c.if-ends_at_once.false), refl, search rules, search rules)

pub take_block_line-requires : goal.take_block_line-requires
take_block_line-requires c =
    let i = c.loop-next.invariant in
    let p = c.requires in
    record {
      inside = c.loop-next-test.true;
      sized = omega (arith, i.2);
      signed = omega (arith, i.3);
      ready = block_ready (i.0 p.series p.step p.at_step).block (omega (arith, i.2)) (omega (arith, i.3));
    }

pub overflow_add-result : goal.overflow_add-result
overflow_add-result c =
    let p = c.requires in
    let few = (c.loop-next.invariant.0 p.series p.step p.at_step).few in
    let inside = c.loop-next-test.true in
    search rules

pub shape_of-positions-in-Err : goal.shape_of-positions-in-Err
shape_of-positions-in-Err c = c.take_block_line.auto.positions ∙ c.loop-next.invariant.1

pub returns-in-Err : goal.returns-in-Err
returns-in-Err c = λ x s a. read_fails (c.loop-next.invariant.0 x s a) _ c.take_block_line.ensures c.in-Err.is

pub shape_of-positions-in-Ok-Closed : goal.shape_of-positions-in-Ok-Closed
shape_of-positions-in-Ok-Closed c = c.take_block_line.auto.positions ∙ c.loop-next.invariant.1

pub returns-in-Ok-Closed : goal.returns-in-Ok-Closed
returns-in-Ok-Closed c =
    λ x s a. read_closes (c.loop-next.invariant.0 x s a) _ c.take_block_line.ensures (c.in-Ok-Closed.is ∙ ap Ok c.in-Ok-Closed.field-0-is)

pub overflow_add-k : goal.overflow_add-k
overflow_add-k c =
    let p = c.requires in
    let few = count_small (c.loop-next.invariant.0 p.series p.step p.at_step) in
    search rules

pub overflow_add-read : goal.overflow_add-read
overflow_add-read c =
    let p = c.requires in
    let few = (c.loop-next.invariant.0 p.series p.step p.at_step).few in
    let inside = c.loop-next-test.true in
    search rules

pub loop-next-smaller : goal.loop-next-smaller
loop-next-smaller c =
    let p = c.requires in
    let on = read_goes (c.loop-next.invariant.0 p.series p.step p.at_step) _ c.take_block_line.ensures (c.in-Ok-Moved.is ∙ ap Ok c.in-Ok-Moved.field-0-is) in
    omega (arith, on.1, on.0.reached.within)

pub loop-next-preserved : goal.loop-next-preserved
loop-next-preserved c =
    let i = c.loop-next.invariant in
    let take = c in (
      λ x s a. (read_goes (i.0 x s a) _ take.take_block_line.ensures (c.in-Ok-Moved.is ∙ ap Ok c.in-Ok-Moved.field-0-is)).0,
      take.take_block_line.auto.positions ∙ i.1,
      take.take_block_line.auto.sizes ∙ i.2,
      take.take_block_line.auto.minus ∙ i.3,
    )

pub shape_of-positions : goal.shape_of-positions
shape_of-positions c = c.loop-next.invariant.1

pub returns : goal.returns
returns c = λ x s a. read_ends (c.loop-next.invariant.0 x s a) c.loop-next-test.false
