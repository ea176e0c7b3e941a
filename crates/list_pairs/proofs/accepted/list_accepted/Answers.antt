-- `accepted::list_accepted`: prepared, then listed.
use Rattle.list_pairs.proofs.accepted.list_accepted.Goals as goal

pub returns : goal.returns
returns c = c.list_prepared.ensures
