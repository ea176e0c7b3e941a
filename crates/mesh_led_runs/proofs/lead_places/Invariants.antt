-- `lead_places`: the places passed are taken to their parts, of which those that are kept stand in front.
use Rattle.mesh_led_runs.specs.Leading.{Leading}
use Rattle.mesh_led_runs.proofs.lead_places.Given as goal

abbrev pub invariant-loop-c : goal.invariant-loop-c
invariant-loop-c l = Leading l.order l.from l.initial.places l.places l.c l.n
