-- `stale_edges`: every edge is tried in turn.
use Rattle.scene_seams.specs.Scanning.{Scanned}
use mathlib.Core.List.{[]}
use Rattle.meaning.specs.Scene.{scene_of, edge_count}
use Rattle.meaning.specs.StoredBoxes.{stale_edge}
use Rattle.stored_look.proofs.stale_edges.Given as goal

abbrev pub invariant-loop-j : goal.invariant-loop-j
invariant-loop-j l = Scanned (edge_count (scene_of l.positions l.edges [] [])) (stale_edge (scene_of l.positions l.edges [] []) l.boxes) l.found l.j
