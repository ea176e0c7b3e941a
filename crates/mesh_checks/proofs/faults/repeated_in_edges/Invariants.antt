-- `faults::repeated_in_edges`: every edge is tried in turn.
use Rattle.meaning.specs.Scene.{edge_count, twice_in_edge}
use Rattle.scene_seams.specs.Alone.{only_edges, edges_sewn}
use Rattle.scene_seams.specs.Scanning.{Scanned}
use Rattle.mesh_checks.proofs.faults.repeated_in_edges.Given as goal

abbrev pub invariant-loop-j : goal.invariant-loop-j
invariant-loop-j l = Scanned (edge_count (only_edges l.edges)) (twice_in_edge (edges_sewn l.edges l.stands)) l.found l.j
