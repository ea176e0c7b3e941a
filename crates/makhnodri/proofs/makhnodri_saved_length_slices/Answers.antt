use Rattle.meaning.specs.Scene.{scene_of}
use Rattle.c_numbers.specs.Saved.{measured_small}
use Rattle.makhnodri.proofs.makhnodri_saved_length_slices.Goals as goal

pub count_number-requires : goal.count_number-requires
count_number-requires c =
    let a = c.args in
    measured_small (scene_of a.positions.now a.edges.now a.triangles.now a.seams.now) _ c.saved_length.ensures
