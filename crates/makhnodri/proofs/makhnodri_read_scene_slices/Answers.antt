use Rattle.c_numbers.specs.Telling.{text_line, text_read, text_refused}
use Rattle.makhnodri.proofs.makhnodri_read_scene_slices.Goals as goal

pub refused-requires : goal.refused-requires
refused-requires c = text_line c.read_scene.ensures c.in-Err.is

pub returns-in-Ok : goal.returns-in-Ok
returns-in-Ok c = text_read c.read_scene.ensures c.in-Ok.is c.put_counts.ensures

pub returns-in-Err : goal.returns-in-Err
returns-in-Err c = text_refused c.read_scene.ensures c.in-Err.is c.refused.ensures
