-- `put_coordinate`: the tab and the mark, then the digits.
use borrow.Author.Rules.{rules}
use native.Mathlib.Omega.{arith}
use mathlib.Core.List.{List, ◌∷◌, ◌++◌}
use mathlib.Core.Path.{◌≡◌, sym, ap, ◌∙◌}
use Prim.Native.Nat.{ℕ}
use lib.IntN.{pos, nat_abs}
use lib.ListN.{length, get_or}
use Rattle.decimals.specs.Digits.{digits}
use Rattle.sequences.specs.Wrote.{Wrote, wrote_then}
use Rattle.meaning.specs.Text.{tab, numeral}
use Rattle.saved_numbers.specs.Marked.{mark_of, mark_digits, numeral_length}
use Rattle.saved_numbers.proofs.put_coordinate.Goals as goal

-- src/lib.rt:77:9
pub put_mark-next-requires : goal.put_mark-next-requires
put_mark-next-requires c =
    let a = c.args in
    let z = get_or a.positions.now a.i (pos 0) in record { i_in_bounds = omega arith; pos_in_bounds = omega (arith, numeral_length z) }

-- src/lib.rt:78:5
pub write_number-requires : goal.write_number-requires
write_number-requires c =
    let a = c.args in
    let z = get_or a.positions.now a.i (pos 0) in
    omega (arith, numeral_length z, ap (λ n. length (digits n)) c.size_of.ensures)

-- src/lib.rt:72:1
pub returns : goal.returns
returns c =
    let a = c.args in
    let z = get_or a.positions.now a.i (pos 0) in
    let both = wrote_then c.put_mark-next.ensures (rw c.size_of.ensures at c.write_number.ensures) in
    rw (mark_digits z) at both
