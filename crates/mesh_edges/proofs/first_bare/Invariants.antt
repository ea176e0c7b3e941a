-- `first_bare`: no side so far is bare.
use Prim.Native.Nat.{ℕ, ◌<◌}
use mathlib.Core.Bool.{false}
use mathlib.Core.Path.{◌≡◌}
use Rattle.meaning.specs.MeshEdges.{bare_side}
use Rattle.mesh_orders.specs.Told.{parts_only}
use Rattle.mesh_edges.proofs.first_bare.Given as goal

abbrev pub invariant-loop-k : goal.invariant-loop-k
invariant-loop-k l = (i : ℕ) → i < l.k → bare_side (parts_only l.edges l.triangles) l.sides i ≡ false
