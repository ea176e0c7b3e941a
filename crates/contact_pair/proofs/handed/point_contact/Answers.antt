-- Each number is handed out.
use Rattle.contact_pair.proofs.handed.point_contact.Goals as goal

pub returns : goal.returns
returns c = rw (c.handed_out-high.ensures, c.handed_out-middle.ensures, c.handed_out-low.ensures, c.handed_out-time.ensures)
