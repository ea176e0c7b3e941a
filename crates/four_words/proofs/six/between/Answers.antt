use mathlib.Core.Path.{refl}
use Rattle.four_words.proofs.six.between.Goals as goal

pub returns-then-end : goal.returns-then-end
returns-then-end c = rw c.if-end.true refl

pub returns-else-end : goal.returns-else-end
returns-else-end c = rw c.if-end.false refl
