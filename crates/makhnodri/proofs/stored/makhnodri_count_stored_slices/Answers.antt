use Rattle.meaning.specs.Scene.{scene_of}
use Rattle.c_numbers.specs.Stored.{stored_count_small}
use Rattle.makhnodri.proofs.stored.makhnodri_count_stored_slices.Goals as goal

pub count_number-requires : goal.count_number-requires
count_number-requires c =
    let a = c.args in
    stored_count_small (scene_of a.positions.now a.edges.now a.triangles.now a.seams.now) a.boxes.now _ c.count_stored.ensures.list
