-- `obj_records::put_point` meets its contract: three stores side by side, each of a coordinate.
use native.Mathlib.Omega.{arith}
use lib.ListN.{length-set}
use Rattle.obj_records.proofs.put_point.Goals as goal

pub bounds-out-at-2 : goal.bounds-out-at-2
bounds-out-at-2 c = simp length-set (omega arith)

pub bounds-out-at-3 : goal.bounds-out-at-3
bounds-out-at-3 c = simp length-set (omega arith)
