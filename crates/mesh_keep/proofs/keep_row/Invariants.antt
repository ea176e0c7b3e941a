-- `keep_row`: the pairs passed are judged.
use Rattle.scene_seams.specs.Alone.{tabled}
use Rattle.mesh_keep.specs.OfRows.{RowGoing}
use Rattle.mesh_keep.proofs.keep_row.Given as goal

abbrev pub invariant-loop-k : goal.invariant-loop-k
invariant-loop-k l = RowGoing (tabled l.positions l.edges l.triangles l.stands) l.wanted l.most l.kind l.i l.places l.parts l.initial.list l.initial.words l.initial.so_far l.list l.words l.so_far l.k
