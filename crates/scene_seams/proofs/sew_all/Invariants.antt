-- The seams are taken into the table one by one.
use Rattle.std.proofs.Common.{◌≡◌, ◌*◌, length, drop}
use Rattle.scene_seams.specs.Sewing.{Sewing}
use Rattle.scene_seams.proofs.sew_all.Given as goal

abbrev pub invariant-loop-seam : goal.invariant-loop-seam
invariant-loop-seam l = record {
  taken : Sewing l.positions l.seams l.initial.stands l.broken l.stands l.least (length l.yielded);
  in_pairs : l.seam-iterator.size ≡ 2;
  left : l.seam-iterator.rest.now ≡ drop (2 * length l.yielded) l.seams;
}
