use Rattle.c_meshes.specs.Telling.{two_written}
use Rattle.c_meshes.proofs.put_two.Goals as goal

pub returns : goal.returns
returns c = two_written c.args.told.now c.args.first c.args.second c.requires
