-- `tell_prepared`: from a list of its own, or row by row where that has no room.
use Rattle.series_step.specs.Rows.{settled_room, settled_told, needed_is}
use Rattle.series_step.proofs.tell_prepared.Goals as goal

pub tell_words-all-requires : goal.tell_words-all-requires
tell_words-all-requires c = settled_room c.settle_prepared.ensures {m = c.in-Ok.count} c.requires.accepted (search)

pub returns-in-Ok : goal.returns-in-Ok
returns-in-Ok c = settled_told c.settle_prepared.ensures {m = c.in-Ok.count} c.requires.accepted (search) c.tell_words-all.ensures

pub returns-in-Err : goal.returns-in-Err
returns-in-Err c = (c.tell_all-all.ensures, needed_is c.settle_prepared.ensures c.in-Err.is)
