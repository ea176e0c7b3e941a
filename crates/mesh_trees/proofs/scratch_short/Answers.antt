-- `scratch_short`: the room that is asked for is the room that is needed.
use borrow.Author.Rules.{rules}
use Prim.Native.Nat.{ℕ}
use mathlib.Core.Path.{ap}
use lib.Dec.{ltb}
use lib.ListN.{length}
use Rattle.mesh_trees.proofs.scratch_short.Goals as goal

pub returns : goal.returns
returns c = ap (λ (n : ℕ). ltb (length c.args.boxes.now) n) c.scratch_room.ensures
