use Rattle.c_meshes.specs.Telling.{seven_left, other_left}
use Rattle.c_meshes.proofs.put_needed.Goals as goal

pub returns-then-number_of-eq7 : goal.returns-then-number_of-eq7
returns-then-number_of-eq7 c =
    seven_left c.args.told.now c.args.refused.carries
    c.requires
    c.number_of.ensures
    c.if-number_of-eq7.true

pub returns-else-number_of-eq7 : goal.returns-else-number_of-eq7
returns-else-number_of-eq7 c =
    other_left c.args.told.now c.args.refused.carries c.number_of.ensures
    c.if-number_of-eq7.false
