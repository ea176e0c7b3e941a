-- `text_line::counted` meets its contract: each arm is the case of the definition, and no count can pass its size by more than one.
use Rattle.text_line.specs.Above.{counted_by}
use Rattle.text_line.proofs.counted.Goals as goal

pub returns-in-Vertex : goal.returns-in-Vertex
unfolding counted_by
returns-in-Vertex c = rw c.in-Vertex.is

pub returns-in-Edge : goal.returns-in-Edge
unfolding counted_by
returns-in-Edge c = rw c.in-Edge.is

pub returns-in-Triangle : goal.returns-in-Triangle
unfolding counted_by
returns-in-Triangle c = rw c.in-Triangle.is

pub returns-in-Seam : goal.returns-in-Seam
unfolding counted_by
returns-in-Seam c = rw c.in-Seam.is
