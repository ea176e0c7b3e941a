use mathlib.Core.Path.{refl}
use Rattle.meaning.specs.Claims.{answer_byte}
use Rattle.claim_answers.proofs.byte_of.Goals as goal

pub returns-then-yes : goal.returns-then-yes
unfolding answer_byte
returns-then-yes c = rw c.if-yes.true refl

pub returns-else-yes : goal.returns-else-yes
unfolding answer_byte
returns-else-yes c = rw c.if-yes.false refl
