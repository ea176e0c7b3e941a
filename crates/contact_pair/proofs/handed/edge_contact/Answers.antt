-- Each number is handed out.
use Rattle.contact_pair.proofs.handed.edge_contact.Goals as goal

pub returns : goal.returns
returns c = rw (c.handed_out-second.ensures, c.handed_out-first.ensures, c.handed_out-time.ensures)
