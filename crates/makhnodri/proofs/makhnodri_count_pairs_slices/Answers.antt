use Rattle.meaning.specs.Scene.{scene_of}
use Rattle.c_numbers.specs.Small.{counted_small}
use Rattle.makhnodri.proofs.makhnodri_count_pairs_slices.Goals as goal

pub count_number-requires : goal.count_number-requires
count_number-requires c =
    let a = c.args in
    counted_small (scene_of a.positions.now a.edges.now a.triangles.now a.seams.now) _ c.count_pairs.ensures.list
