-- `obj_records::put_triangle` meets its contract: three stores side by side.
use native.Mathlib.Omega.{arith}
use lib.ListN.{length-set}
use Rattle.sequences.specs.Wrote.{wrote_three}
use Rattle.obj_records.proofs.put_triangle.Goals as goal

pub bounds-out-at-2 : goal.bounds-out-at-2
bounds-out-at-2 c = simp length-set (omega arith)

pub bounds-out-at-3 : goal.bounds-out-at-3
bounds-out-at-3 c = simp length-set (omega arith)

pub returns : goal.returns
returns c = wrote_three _ _ _ _ _ (omega arith)
