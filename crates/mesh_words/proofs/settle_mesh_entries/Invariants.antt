use lib.ListN.{drop}
use Rattle.sequences.specs.Writing.{Writing}
use Rattle.scene_seams.specs.Alone.{tabled}
use Rattle.list_words.specs.Listed.{bytes_of}
use Rattle.mesh_words.specs.Asked.{mesh_pairs_in}
use Rattle.mesh_words.proofs.settle_mesh_entries.Given as goal

abbrev pub invariant-loop-k : goal.invariant-loop-k
invariant-loop-k l = Writing l.initial.out (bytes_of (tabled l.positions l.edges l.triangles l.stands) (mesh_pairs_in l.count l.list)) l.out l.k (drop l.k (bytes_of (tabled l.positions l.edges l.triangles l.stands) (mesh_pairs_in l.count l.list)))
