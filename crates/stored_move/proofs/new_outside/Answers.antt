-- `new_outside`: there are six of them.
use Rattle.stored_move.proofs.new_outside.Goals as goal

pub returns : goal.returns
returns c =
    let six = c.requires in
    rw six at c.out_of_range.ensures
