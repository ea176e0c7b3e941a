-- `hold_entries`: the entries passed are held.
use Rattle.mesh_held.specs.Held.{HeldMore}
use Rattle.mesh_held.proofs.hold_entries.Given as goal

abbrev pub invariant-loop-c : goal.invariant-loop-c
invariant-loop-c l = HeldMore l.initial.places l.places l.from l.entries l.c
