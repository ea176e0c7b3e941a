-- `obj_records::coordinate` meets its contract: a size within the limit fits, and so does its negative.
use mir.Facts.{to_z-of_z}
use Rattle.text_line.specs.Coordinate.{held, turned, turned_fits}
use Rattle.obj_records.proofs.coordinate.Goals as goal

pub overflow_sub-result : goal.overflow_sub-result
overflow_sub-result c = rw (turned c.args.h.size c.requires) (turned_fits c.args.h.size c.requires)

pub returns-then-h : goal.returns-then-h
returns-then-h c =
    rw (turned c.args.h.size c.requires, c.if-h.true)
    (to_z-of_z (turned_fits c.args.h.size c.requires))

pub returns-else-h : goal.returns-else-h
returns-else-h c = rw c.if-h.false (held c.args.h.size c.requires)
