-- `keep_alone`: the rows passed are judged.
use mathlib.Core.Path.{◌≡◌}
use lib.ListN.{length}
use Rattle.scene_seams.specs.Alone.{tabled}
use Rattle.mesh_wanted.specs.Stretch.{StretchGoing}
use Rattle.mesh_wanted.proofs.keep_alone.Given as goal

abbrev pub invariant-loop-row : goal.invariant-loop-row
invariant-loop-row l =
    (length l.places ≡ length l.initial.places)
    × StretchGoing l.which (tabled l.positions l.edges l.triangles l.stands) l.wanted l.most l.first l.end l.initial.list l.initial.words l.initial.so_far l.list l.words l.so_far l.row
