-- `hints_short`: either is.
use mathlib.Core.Bool.{◌||◌}
use mathlib.Core.Path.{ap}
use lib.Dec.{ltb}
use lib.ListN.{length}
use Prim.Native.Nat.{◌/◌}
use Rattle.mesh_edges.proofs.hints_short.Goals as goal

pub returns : goal.returns
returns c =
    let a = c.args in
    ap (λ b. b || ltb (length a.places.now) (length a.edges.now / 2)) c.table_short.ensures
