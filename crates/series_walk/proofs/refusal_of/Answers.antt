-- `refusal_of`: case by case.
use mathlib.Core.Path.{refl}
use Rattle.meaning.specs.Refusals.{number_of}
use Rattle.series_block.specs.Moving.{fault_number}
use Rattle.series_walk.proofs.refusal_of.Goals as goal

pub returns-in-Form : goal.returns-in-Form
unfolding number_of fault_number
returns-in-Form c = rw c.in-Form.is refl

pub returns-in-Late : goal.returns-in-Late
unfolding number_of fault_number
returns-in-Late c = rw c.in-Late.is refl

pub returns-in-Length : goal.returns-in-Length
unfolding number_of fault_number
returns-in-Length c = rw c.in-Length.is refl

pub returns-in-Far : goal.returns-in-Far
unfolding number_of fault_number
returns-in-Far c = rw c.in-Far.is refl

pub returns-in-Apart : goal.returns-in-Apart
unfolding number_of fault_number
returns-in-Apart c = rw c.in-Apart.is refl
