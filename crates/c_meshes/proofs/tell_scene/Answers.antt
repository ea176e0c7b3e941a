use Rattle.c_meshes.specs.Telling.{scene_accepted, scene_refused}
use Rattle.c_meshes.proofs.tell_scene.Goals as goal

pub returns-in-Ok : goal.returns-in-Ok
returns-in-Ok c = scene_accepted c.in-Ok.is

pub returns-in-Err : goal.returns-in-Err
returns-in-Err c = scene_refused c.in-Err.is c.small_number.ensures
