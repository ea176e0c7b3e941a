-- What stands in the buffer, with the lines that are still to come, is what is wanted; so with the hits.
use Prim.Native.Nat.{◌+◌, ◌*◌, ◌≤◌}
use mathlib.Core.Path.{◌≡◌}
use Rattle.sequences.specs.Writing.{Writing}
use Rattle.scene_seams.specs.Alone.{tabled}
use Rattle.hit_report.specs.Lines.{lines_from, hits_from}
use Rattle.hit_report.proofs.hit_lines.Given as goal

abbrev pub invariant-loop-k : goal.invariant-loop-k
invariant-loop-k l =
    (l.lines.next ≤ 47 * l.k) × (l.lines.hits ≤ l.k)
    × Writing l.initial.out (lines_from (tabled l.positions l.edges l.triangles l.stands) 0) l.out l.lines.next (lines_from (tabled l.positions l.edges l.triangles l.stands) l.k)
    × (l.lines.hits + hits_from (tabled l.positions l.edges l.triangles l.stands) l.k ≡ hits_from (tabled l.positions l.edges l.triangles l.stands) 0)
