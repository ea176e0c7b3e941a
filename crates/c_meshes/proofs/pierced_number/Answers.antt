-- Yes is 1 and no is 0, as code numbers them too.
use mathlib.Core.Path.{◌≡◌, refl, ◌∙◌}
use mathlib.Core.Bool.{Bool, true, false}
use mir.Val.{bool_byte}
use Rattle.meaning.specs.Claims.{answer_byte}
use Rattle.c_meshes.specs.Telling.{pierced_told, pierced_refused}
use Rattle.c_meshes.proofs.pierced_number.Goals as goal

its_byte : (through : Bool) → bool_byte through ≡ answer_byte through
unfolding answer_byte
its_byte true = refl
its_byte false = refl

pub returns-in-Ok : goal.returns-in-Ok
returns-in-Ok c = its_byte c.in-Ok.through ∙ pierced_told c.in-Ok.is

pub returns-in-Err : goal.returns-in-Err
returns-in-Err c = pierced_refused c.in-Err.is c.refused.ensures
