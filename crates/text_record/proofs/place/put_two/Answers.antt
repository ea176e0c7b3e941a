-- `text_record::place::put_two` meets its contract: two stores side by side.
use native.Mathlib.Omega.{arith}
use lib.ListN.{length-set}
use Rattle.sequences.specs.Wrote.{wrote_two}
use Rattle.text_record.proofs.place.put_two.Goals as goal

pub bounds-out-at-2 : goal.bounds-out-at-2
bounds-out-at-2 c = simp length-set (omega arith)

pub returns : goal.returns
returns c = wrote_two _ _ _ _ (omega arith)
