-- `short_count`: by size.
use mathlib.Core.Path.{sym}
use native.Mathlib.Omega.{arith}
use Rattle.decimals.proofs.Put.{length_small, two_digits, three_digits}
use Rattle.decimals.proofs.short_count.Goals as goal

pub returns-then-n-lt10 : goal.returns-then-n-lt10
returns-then-n-lt10 c = sym (length_small _ (omega arith))

pub returns-then-n-lt100 : goal.returns-then-n-lt100
returns-then-n-lt100 c = sym (two_digits _ (omega arith) (omega arith))

pub returns-else-n-lt100 : goal.returns-else-n-lt100
returns-else-n-lt100 c = sym (three_digits _ (omega arith) (omega arith))
