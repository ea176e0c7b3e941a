-- `first_fall`: so far all ends rise.
use Prim.Native.Nat.{ℕ, ◌<◌}
use mathlib.Core.Bool.{false}
use mathlib.Core.Path.{◌≡◌}
use Rattle.meaning.specs.MeshEdges.{ends_fall}
use Rattle.scene_seams.specs.Alone.{only_edges}
use Rattle.mesh_edges.proofs.first_fall.Given as goal

abbrev pub invariant-loop-k : goal.invariant-loop-k
invariant-loop-k l = (i : ℕ) → i < l.k → ends_fall (only_edges l.edges) l.order i ≡ false
