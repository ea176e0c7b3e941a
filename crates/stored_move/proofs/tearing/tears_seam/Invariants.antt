-- `tearing::tears_seam`: every seam is tried in turn.
use Rattle.scene_seams.specs.Scanning.{Scanned}
use Rattle.meaning.specs.Scene.{seam_count, sewn, onto, comes_apart}
use Rattle.meaning.specs.Dragging.{moved_scene}
use Rattle.scene_seams.specs.Sewing.{seams_alone}
use Rattle.stored_move.proofs.tearing.tears_seam.Given as goal

abbrev pub invariant-loop-k : goal.invariant-loop-k
invariant-loop-k l =
    Scanned (seam_count (seams_alone l.positions l.seams))
    (λ i. comes_apart (moved_scene (seams_alone l.positions l.seams) l.v l.coordinates) (sewn (seams_alone l.positions l.seams) i) (onto (seams_alone l.positions l.seams) i))
    l.found
    l.k
