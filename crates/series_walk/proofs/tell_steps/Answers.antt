use borrow.Author.Rules.{rules}
use native.Mathlib.Omega.{arith}
use mathlib.Core.Path.{refl, ◌∙◌, subst}
use Rattle.scene_seams.specs.Alone.{tabled}
use Rattle.meaning.specs.declared.SeriesTold.{SeriesTold}
use Rattle.series_walk.specs.Telling.{StepAdded}
use Rattle.series_walk.specs.Reading.{first_accepted, first_told, step_few, line_few, some_step, block_faulty, next_accepted, next_told, ends_all}
use Rattle.series_walk.proofs.tell_steps.Goals as goal

pub tell_next-past-requires : goal.tell_next-past-requires
tell_next-past-requires c = first_accepted c.requires

pub loop-next-init : goal.loop-next-init
loop-next-init c =
    let a = c.args in
    let s = tabled a.positions.now a.edges.now a.triangles.now a.stands.now in
    let told = subst (λ (u : SeriesTold). StepAdded a.room 1 s (record { told = u; needed = 0 }) c.tell_next-past.result) c.nothing_told.ensures c.tell_next-past.ensures in
    (first_told c.requires a.room told, refl)

pub overflow_add-read : goal.overflow_add-read
overflow_add-read c =
    let few = line_few c.loop-next.invariant.0 in
    search rules

pub read_block-requires : goal.read_block-requires
read_block-requires c = some_step c.loop-next.invariant.0 c.loop-next-test.true

pub shape_of-positions-in-Err : goal.shape_of-positions-in-Err
shape_of-positions-in-Err c = c.read_block.auto.positions ∙ c.loop-next.invariant.1

pub returns-in-Err : goal.returns-in-Err
returns-in-Err c =
    rw c.refused.ensures
    (block_faulty c.loop-next.invariant.0 c.loop-next-test.true _ c.read_block.ensures c.refusal_of.result _ c.in-Err.is c.refusal_of.ensures)

pub overflow_add-step : goal.overflow_add-step
overflow_add-step c =
    let few = step_few c.loop-next.invariant.0 in
    let brief = c.requires.brief in
    search rules

pub tell_next-past-requires-in-Ok : goal.tell_next-past-requires-in-Ok
tell_next-past-requires-in-Ok c = next_accepted c.loop-next.invariant.0 c.loop-next-test.true _ c.read_block.ensures c.in-Ok.is

pub loop-next-smaller : goal.loop-next-smaller
loop-next-smaller c =
    let on = next_told c.loop-next.invariant.0 c.loop-next-test.true _ c.read_block.ensures c.in-Ok.is c.tell_next-past-in-Ok.ensures in
    omega (arith, step_few on)

pub loop-next-preserved : goal.loop-next-preserved
loop-next-preserved c = (
  next_told c.loop-next.invariant.0 c.loop-next-test.true _ c.read_block.ensures c.in-Ok.is c.tell_next-past-in-Ok.ensures,
  c.read_block.auto.positions ∙ c.loop-next.invariant.1,
)

pub shape_of-positions : goal.shape_of-positions
shape_of-positions c = c.loop-next.invariant.1

pub returns : goal.returns
returns c = ends_all c.loop-next.invariant.0 c.loop-next-test.false c.args.c c.room_answer.result c.room_answer.ensures
