-- What was looked at is not at fault, and those behind decide.
use Rattle.scene_seams.specs.Alone.{tabled}
use Rattle.own_words.specs.Faults.{SoundUpTo}
use Rattle.own_words.proofs.first_fault.Given as goal

abbrev pub invariant-loop-k : goal.invariant-loop-k
invariant-loop-k l = SoundUpTo (tabled l.positions l.edges l.triangles l.stands) l.list l.k
