-- `climb`: the first part under the node stays the same.
use Prim.Native.Nat.{◌-◌, ◌≤◌}
use mathlib.Core.Path.{◌≡◌}
use Rattle.mesh_tree.specs.Levels.{first_under}
use Rattle.mesh_walk.proofs.climb.Given as goal

abbrev pub invariant-loop-v : goal.invariant-loop-v
invariant-loop-v l = (l.v ≤ l.top) × (first_under l.v l.r ≡ first_under l.level l.node)

abbrev pub decreases-loop-v : goal.decreases-loop-v
decreases-loop-v l = l.top - l.v
