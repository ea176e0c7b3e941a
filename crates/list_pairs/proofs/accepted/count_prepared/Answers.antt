-- `accepted::count_prepared`: a walk that enters nothing.
use native.Mathlib.Nat.{zero-add}
use lib.ListN.{length}
use Rattle.meaning.specs.List.{pairs}
use Rattle.scene_seams.specs.Alone.{tabled}
use Rattle.list_pairs.proofs.accepted.count_prepared.Goals as goal

pub returns : goal.returns
returns c =
    let start = c in
    let a = start.args in
    let s = tabled a.positions.now a.edges.now a.triangles.now a.stands.now in
    let walked = c.walk_prepared.ensures in
    (rw (zero-add (length (pairs s))) at walked.0.counts, walked.1)
