-- `meets_spread`: axis by axis.
use borrow.Author.Rules.{rules}
use mathlib.Core.Bool.{◌&&◌}
use Rattle.mesh_marks.proofs.meets_spread.Goals as goal

pub returns : goal.returns
returns c =
    let x = c.meets_span-x.ensures in
    let y = c.meets_span-y.ensures in
    let z = c.meets_span-z.ensures in
    λ t. x t && y t && z t
