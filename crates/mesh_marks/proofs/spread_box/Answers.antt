-- `spread_box`: axis by axis.
use borrow.Author.Rules.{rules}
use mathlib.Core.Path.{refl}
use Rattle.mesh_marks.proofs.spread_box.Goals as goal

pub returns : goal.returns
returns c = rw (c.spread_span-3.ensures, c.spread_span-2.ensures, c.spread_span.ensures) refl
