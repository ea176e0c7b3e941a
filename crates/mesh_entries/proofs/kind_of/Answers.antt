-- `kind_of`: below 2^63 stands the one kind, and from there on the other.
use mathlib.Core.Path.{sym}
use native.Mathlib.Omega.{arith}
use borrow.Author.Tests.{lt-ltb, le-ltb}
use Rattle.sequences.specs.Pick.{pick_true, pick_false}
use Rattle.meaning.specs.declared.Kind.TheVariants.{PointTriangle, EdgeEdge}
use Rattle.mesh_entries.proofs.kind_of.Goals as goal

pub returns-then-entry-lt9223372036854775808 : goal.returns-then-entry-lt9223372036854775808
returns-then-entry-lt9223372036854775808 c = sym (pick_true PointTriangle EdgeEdge (lt-ltb c.args.entry 9_223_372_036_854_775_808 (omega (arith, c.if-entry-lt9223372036854775808.true))))

pub returns-else-entry-lt9223372036854775808 : goal.returns-else-entry-lt9223372036854775808
returns-else-entry-lt9223372036854775808 c = sym (pick_false PointTriangle EdgeEdge (le-ltb c.args.entry 9_223_372_036_854_775_808 (omega (arith, c.if-entry-lt9223372036854775808.false))))
