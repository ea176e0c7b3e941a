-- `take_vertex`: the first vertex of what is left of the positions.
use borrow.Author.Rules.{rules}
use Prim.Native.Nat.{◌*◌, ◌-◌}
use native.Mathlib.Omega.{arith}
use lib.ListN.{length}
use Rattle.stored_mend.specs.Mending.{vertex_taken}
use Rattle.stored_mend.proofs.take_vertex.Goals as goal

pub returns : goal.returns
returns c =
    let start = c in
    vertex_taken start.args.positions.now start.args.v (length start.args.positions.now - 6 * start.args.v) (omega (arith, start.requires.0)) c.store_vertex.ensures
