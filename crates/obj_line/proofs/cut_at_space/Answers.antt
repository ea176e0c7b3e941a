-- `obj_line::cut_at_space` meets its contract: at the first space, or at the end.
use Rattle.obj_line.specs.Parting.{cut_there, cut_nowhere}
use Rattle.obj_line.proofs.cut_at_space.Goals as goal

pub returns-then-end-s : goal.returns-then-end-s
returns-then-end-s c = cut_there c.args.s.now c.place_of-end.ensures c.if-end-s.true

pub returns-else-end-s : goal.returns-else-end-s
returns-else-end-s c = cut_nowhere c.args.s.now c.place_of-end.ensures c.if-end-s.false
