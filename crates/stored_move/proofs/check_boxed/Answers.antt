-- `check_boxed`: 12 is the first of the two.
use Rattle.meaning.specs.Scene.{scene_of}
use Rattle.stored_move.specs.Answering.{twelve_first}
use Rattle.stored_move.proofs.check_boxed.Goals as goal

pub returns : goal.returns
returns c =
    let a = c.args in
    let s = scene_of a.positions.now a.edges.now a.triangles.now a.seams.now in
    rw (c.first_of.ensures, c.refused_if-room.ensures)
    (twelve_first s a.boxes.now c.check_scene-scene.result c.check_scene-scene.ensures)
