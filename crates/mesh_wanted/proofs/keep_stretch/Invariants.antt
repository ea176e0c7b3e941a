-- `keep_stretch`: the blocks passed are judged.
use Prim.Native.Nat.{◌-◌, ◌≤◌, ◌<◌}
use mathlib.Core.Path.{◌≡◌}
use lib.ListN.{length}
use Rattle.scene_seams.specs.Alone.{tabled}
use Rattle.mesh_wanted.specs.Stretch.{StretchGoing}
use Rattle.mesh_wanted.proofs.keep_stretch.Given as goal

abbrev pub invariant-loop-row : goal.invariant-loop-row
invariant-loop-row l =
    (length l.places ≡ length l.initial.places)
    × StretchGoing l.which (tabled l.positions l.edges l.triangles l.stands) l.wanted l.most l.first l.end l.initial.list l.initial.words l.initial.so_far l.list l.words l.so_far l.row
    × (0 < l.rows)
    × (l.rows ≤ 64)
    × (length l.own ≡ 4096)

abbrev pub decreases-loop-row : goal.decreases-loop-row
decreases-loop-row l = l.end - l.row
