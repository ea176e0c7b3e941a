use Rattle.series_block.specs.Moving.{moved_by}
use Rattle.series_block.proofs.moving.move_on.Goals as goal

pub returns : goal.returns
returns c = moved_by _ c.args.sizes.now c.args.minus.now c.start_from_end.ensures c.put_point.ensures
