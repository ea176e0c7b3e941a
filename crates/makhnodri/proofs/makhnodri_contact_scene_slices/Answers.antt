use Rattle.c_numbers.specs.Small.{met_small}
use Rattle.makhnodri.proofs.makhnodri_contact_scene_slices.Goals as goal

pub count_number-requires : goal.count_number-requires
count_number-requires c = met_small c.contact_scene.ensures
