use native.Mathlib.Omega.{arith}
use mathlib.Core.Path.{ap}
use lib.ListN.{length}
use Rattle.decimals.specs.Digits.{digits}
use Rattle.sequences.specs.Wrote.{wrote_then}
use Rattle.meaning.specs.Text.{numeral}
use Rattle.saved_numbers.proofs.put_number.Goals as goal

-- src/lib.rt:93:5
pub write_number-requires : goal.write_number-requires
unfolding numeral
write_number-requires c = omega (arith, ap (λ n. length (digits n)) c.from.ensures)

-- src/lib.rt:87:1
pub returns : goal.returns
unfolding numeral
returns c = wrote_then c.put_byte-next.ensures (rw c.from.ensures at c.write_number.ensures)
