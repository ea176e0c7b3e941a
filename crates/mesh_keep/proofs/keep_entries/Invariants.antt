-- `keep_entries`: the pairs passed are judged.
use Rattle.scene_seams.specs.Alone.{tabled}
use Rattle.mesh_keep.specs.Entries.{EntriesGoing}
use Rattle.mesh_keep.proofs.keep_entries.Given as goal

abbrev pub invariant-loop-k : goal.invariant-loop-k
invariant-loop-k l = EntriesGoing (tabled l.positions l.edges l.triangles l.stands) l.wanted l.most l.entries l.count l.initial.list l.initial.words l.initial.so_far l.list l.words l.so_far l.k
