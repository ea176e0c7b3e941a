-- None of the pieces before k touches.
use Rattle.scene_seams.specs.Alone.{tabled}
use Rattle.four_words.specs.Words.{NoneBefore}
use Rattle.four_words.proofs.accepted.some_piece_touches.Given as goal

abbrev pub invariant-loop-k : goal.invariant-loop-k
invariant-loop-k l = NoneBefore (tabled l.positions l.edges l.triangles l.stands) l.kind l.i l.j l.k
