-- By kind.
use Rattle.meaning.specs.WholeContacts.{contact_of}
use Rattle.contact_pair.proofs.handed.hit_contact.Goals as goal

pub returns-in-PointTriangle : goal.returns-in-PointTriangle
unfolding contact_of
returns-in-PointTriangle c = rw (c.in-PointTriangle.is, c.point_contact.ensures)

pub returns-in-EdgeEdge : goal.returns-in-EdgeEdge
unfolding contact_of
returns-in-EdgeEdge c = rw (c.in-EdgeEdge.is, c.edge_contact.ensures)
