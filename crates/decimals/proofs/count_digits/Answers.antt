use mathlib.Core.Path.{sym}
use native.Mathlib.Omega.{arith}
use Rattle.decimals.proofs.Put.{four_digits, five_digits, six_digits}
use Rattle.decimals.proofs.count_digits.Goals as goal

pub returns-then-n-lt10000 : goal.returns-then-n-lt10000
returns-then-n-lt10000 c = sym (four_digits _ (omega arith) (omega arith))

pub returns-then-n-lt100000 : goal.returns-then-n-lt100000
returns-then-n-lt100000 c = sym (five_digits _ (omega arith) (omega arith))

pub returns-then-n-lt1000000 : goal.returns-then-n-lt1000000
returns-then-n-lt1000000 c = sym (six_digits _ (omega arith) (omega arith))
