-- `kind_of`: below the step of a kind stands the one, and from there on the other.
use mathlib.Core.Path.{sym}
use native.Mathlib.Omega.{arith}
use borrow.Author.Tests.{lt-ltb, le-ltb}
use Rattle.sequences.specs.Pick.{pick_true, pick_false}
use Rattle.meaning.specs.List.{kind_step}
use Rattle.meaning.specs.declared.Kind.TheVariants.{PointTriangle, EdgeEdge}
use Rattle.list_entries.proofs.kind_of.Goals as goal

pub returns-then-entry-lt-KIND_STEP : goal.returns-then-entry-lt-KIND_STEP
returns-then-entry-lt-KIND_STEP c = sym (pick_true PointTriangle EdgeEdge (lt-ltb c.args.entry kind_step (omega (arith, c.if-entry-lt-KIND_STEP.true))))

pub returns-else-entry-lt-KIND_STEP : goal.returns-else-entry-lt-KIND_STEP
returns-else-entry-lt-KIND_STEP c = sym (pick_false PointTriangle EdgeEdge (le-ltb c.args.entry kind_step (omega (arith, c.if-entry-lt-KIND_STEP.false))))
