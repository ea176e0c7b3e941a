-- `text_record::place::coordinate` meets its contract: a size within the limit fits, and so does its negative.
use mir.Facts.{to_z-of_z}
use Rattle.text_line.specs.Coordinate.{held, turned, turned_fits}
use Rattle.text_record.proofs.place.coordinate.Goals as goal

pub overflow_sub-result : goal.overflow_sub-result
overflow_sub-result c = rw (turned c.args.size c.requires) (turned_fits c.args.size c.requires)

pub returns-then-minus : goal.returns-then-minus
returns-then-minus c =
    rw (turned c.args.size c.requires, c.if-minus.true)
    (to_z-of_z (turned_fits c.args.size c.requires))

pub returns-else-minus : goal.returns-else-minus
returns-else-minus c = rw c.if-minus.false (held c.args.size c.requires)
