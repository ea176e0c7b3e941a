-- `spread_parts`: part by part.
use mathlib.Core.Path.{◌≡◌}
use lib.ListN.{length}
use Rattle.mesh_led_runs.specs.PartBoxes.{part_box}
use Rattle.mesh_led_runs.specs.SpreadParts.{SpreadingParts}
use Rattle.mesh_led_runs.proofs.boxes.spread_parts.Given as goal

abbrev pub invariant-loop-q : goal.invariant-loop-q
invariant-loop-q l = record {
  spread : SpreadingParts (part_box l.edges l.triangles l.boxes l.kind) l.places l.initial.six l.six l.q;
  room : length l.part ≡ 12;
}
