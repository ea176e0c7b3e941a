-- The text was saved, or it is too long.
use Rattle.obj_report.specs.Printed.{text_shown, eight_shown}
use Rattle.obj_report.proofs.text_shown.Goals as goal

pub returns-in-Ok : goal.returns-in-Ok
returns-in-Ok c = text_shown _ _ c.requires.0 c.requires.1 c.save_scene.ensures c.in-Ok.is

pub returns-in-Err : goal.returns-in-Err
returns-in-Err c = eight_shown _ _ c.requires.0 c.requires.1 c.save_scene.ensures c.in-Err.is c.refused_line.ensures
