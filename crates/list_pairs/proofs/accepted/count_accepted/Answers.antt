-- `accepted::count_accepted`: prepared, then counted.
use Rattle.list_pairs.proofs.accepted.count_accepted.Goals as goal

pub returns : goal.returns
returns c = c.count_prepared.ensures
