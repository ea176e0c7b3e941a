use Rattle.c_numbers.specs.ImportNumbers.{told_as}
use Rattle.c_numbers.specs.ImportSmall.{import_near}
use Rattle.makhnodri.proofs.importing.makhnodri_import_scene_slices.Goals as goal

pub import_number-requires : goal.import_number-requires
import_number-requires c = import_near c.import_scene-answer.ensures

pub returns : goal.returns
returns c = told_as c.import_scene-answer.ensures c.put_counts.ensures c.import_number.ensures
