use Rattle.c_numbers.specs.Small.{judging_small}
use Rattle.makhnodri.proofs.makhnodri_settle_scene_slices.Goals as goal

pub count_number-requires : goal.count_number-requires
count_number-requires c = judging_small c.settle_scene.ensures
