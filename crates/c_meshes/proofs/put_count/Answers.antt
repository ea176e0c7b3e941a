use Rattle.c_meshes.specs.Telling.{one_written}
use Rattle.c_meshes.proofs.put_count.Goals as goal

pub returns : goal.returns
returns c = one_written c.args.told.now c.args.count c.requires
