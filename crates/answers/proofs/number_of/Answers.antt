-- `number_of`: the discriminants are the table's numbers.
use Rattle.std.specs.Prelude.{◌+◌, ◌≡◌, refl}
use Rattle.meaning.specs.Refusals.{number_of}
use Rattle.meaning.specs.declared.Refusal.{Refusal}
use Rattle.meaning.specs.declared.Refusal.TheVariants.{Shape, Coordinate, UnknownVertex, RepeatedVertex, NotThere, SharedVertex, NoRoom, LongText, BadLine, LateRecord, TooMany, ShortBuffer, BlockLength, FilesDiffer, BrokenSeam, BeyondOldRange, StaleBox, WrongOrder}
use Rattle.answers.proofs.number_of.Goals as goal

is_number : (x : Refusal) → denote.Enum.Declared.tag_of Rattle.meaning.specs.contracts.Refusal.the_type x + 1 ≡ number_of x
unfolding number_of
is_number Shape = refl
is_number Coordinate = refl
is_number UnknownVertex = refl
is_number RepeatedVertex = refl
is_number NotThere = refl
is_number SharedVertex = refl
is_number NoRoom = refl
is_number LongText = refl
is_number BadLine = refl
is_number LateRecord = refl
is_number TooMany = refl
is_number ShortBuffer = refl
is_number BlockLength = refl
is_number FilesDiffer = refl
is_number BrokenSeam = refl
is_number BeyondOldRange = refl
is_number StaleBox = refl
is_number WrongOrder = refl

pub returns : goal.returns
returns c = is_number c.args.refusal
