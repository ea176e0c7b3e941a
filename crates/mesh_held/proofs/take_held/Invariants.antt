-- `take_held`: the entries passed stand in front of the list.
use Prim.Native.Nat.{ℕ}
use mathlib.Core.List.{List}
use mathlib.Core.Path.{◌≡◌}
use lib.ListN.{length, take}
use Rattle.sequences.specs.Wrote.{Wrote}
use Rattle.mesh_held.specs.Held.{Holds}
use Rattle.mesh_held.proofs.take_held.Given as goal

abbrev pub invariant-loop-c : goal.invariant-loop-c
invariant-loop-c l = (length l.list ≡ length l.initial.list) × ((es : List ℕ) → length es ≡ l.count → Holds l.places l.from es → Wrote l.initial.list 0 (take l.c es) l.list l.c)
