-- `text_record::place::put_vertex` meets its contract: one point behind the other.
use native.Mathlib.Nat.{add_assoc}
use Rattle.sequences.specs.Wrote.{wrote_then}
use Rattle.text_record.proofs.place.put_vertex.Goals as goal

pub returns : goal.returns
returns c =
    let all = wrote_then c.put_point.ensures c.put_point-2.ensures in
    rw (add_assoc _ 3 3) at all
