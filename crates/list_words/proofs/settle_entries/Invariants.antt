-- The bytes of the entries passed stand in front, and those of the others are left.
use Rattle.std.proofs.Common.{drop}
use Rattle.sequences.specs.Writing.{Writing}
use Rattle.scene_seams.specs.Alone.{tabled}
use Rattle.list_words.specs.Listed.{bytes_of, pairs_in}
use Rattle.list_words.proofs.settle_entries.Given as goal

abbrev pub invariant-loop-k : goal.invariant-loop-k
invariant-loop-k l = Writing l.initial.out (bytes_of (tabled l.positions l.edges l.triangles l.stands) (pairs_in l.count l.list)) l.out l.k (drop l.k (bytes_of (tabled l.positions l.edges l.triangles l.stands) (pairs_in l.count l.list)))
