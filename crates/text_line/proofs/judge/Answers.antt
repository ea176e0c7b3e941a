-- `text_line::judge` meets its contract: each arm makes the tests of its kind of record.
use Rattle.text_line.specs.Judging.{judges_vertex, judges_edge, judges_triangle, judges_seam}
use Rattle.text_line.proofs.judge.Goals as goal

pub returns-in-Vertex : goal.returns-in-Vertex
returns-in-Vertex c = rw c.in-Vertex.is (judges_vertex _ _ _ c.far.ensures c.first_fault.ensures)

pub returns-in-Edge : goal.returns-in-Edge
returns-in-Edge c = rw c.in-Edge.is (judges_edge _ _ _ c.first_fault-in-Edge.ensures)

pub returns-in-Triangle : goal.returns-in-Triangle
returns-in-Triangle c = rw c.in-Triangle.is (judges_triangle _ _ _ c.first_fault-in-Triangle.ensures)

pub returns-in-Seam : goal.returns-in-Seam
returns-in-Seam c = rw c.in-Seam.is (judges_seam _ _ _ c.first_fault-in-Seam.ensures)
