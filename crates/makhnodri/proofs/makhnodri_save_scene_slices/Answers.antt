use Rattle.c_numbers.specs.Saved.{saved_small}
use Rattle.makhnodri.proofs.makhnodri_save_scene_slices.Goals as goal

pub count_number-requires : goal.count_number-requires
count_number-requires c = saved_small c.save_scene.ensures
