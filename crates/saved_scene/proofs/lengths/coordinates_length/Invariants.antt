-- `coordinates_length`: the fields counted, with those that are left, are all.
use Prim.Native.Nat.{◌+◌, ◌*◌, ◌≤◌}
use mathlib.Core.Path.{◌≡◌}
use lib.ListN.{drop}
use Rattle.saved_scene.specs.Lengths.{fields_long}
use Rattle.saved_scene.proofs.lengths.coordinates_length.Given as goal

abbrev pub invariant-loop-i : goal.invariant-loop-i
invariant-loop-i l = (l.total + fields_long (drop l.i l.positions) ≡ fields_long l.positions) × (l.total ≤ 8 * l.i)
