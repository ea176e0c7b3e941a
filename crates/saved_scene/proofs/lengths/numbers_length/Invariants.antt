-- `numbers_length`: the fields counted, with those that are left, are all.
use Prim.Native.Nat.{◌+◌, ◌*◌, ◌≤◌}
use mathlib.Core.Path.{◌≡◌}
use lib.ListN.{drop}
use Rattle.saved_scene.specs.Lengths.{numbers_long}
use Rattle.saved_scene.proofs.lengths.numbers_length.Given as goal

abbrev pub invariant-loop-i : goal.invariant-loop-i
invariant-loop-i l = (l.total + numbers_long (drop l.i l.list) ≡ numbers_long l.list) × (l.total ≤ 6 * l.i)
