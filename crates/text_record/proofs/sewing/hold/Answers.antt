-- `sewing::hold` meets its contract: a seam is held, and nothing else changes the table.
use Rattle.text_record.specs.Holding.{ready_at_seam, held_vertex, held_edge, held_triangle, held_seam}
use Rattle.text_record.proofs.sewing.hold.Goals as goal

pub hold_seam-requires : goal.hold_seam-requires
hold_seam-requires c = ready_at_seam _ _ c.requires c.in-Seam.is

pub returns-in-Vertex : goal.returns-in-Vertex
returns-in-Vertex c = held_vertex _ _ _ c.in-Vertex.is

pub returns-in-Edge : goal.returns-in-Edge
returns-in-Edge c = held_edge _ _ _ c.in-Edge.is

pub returns-in-Triangle : goal.returns-in-Triangle
returns-in-Triangle c = held_triangle _ _ _ c.in-Triangle.is

pub returns-in-Seam : goal.returns-in-Seam
returns-in-Seam c = held_seam _ _ _ _ _ c.in-Seam.is c.hold_seam.ensures
