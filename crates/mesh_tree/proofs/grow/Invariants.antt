-- `grow`: the levels passed stand in the list, and are told.
use Rattle.mesh_tree.specs.Grown.{Growing, Told, AtLevel}
use Rattle.mesh_tree.proofs.grow.Given as goal

abbrev pub invariant-loop-level : goal.invariant-loop-level
invariant-loop-level l = AtLevel l.first l.parts l.to l.level l.at l.count l.free × Growing l.initial.boxes l.first l.parts l.to l.level l.boxes × Told l.initial.levels l.first l.parts l.to l.level l.levels
