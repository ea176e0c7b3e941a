use borrow.Author.Rules.{rules}
use native.Mathlib.Omega.{arith}
use mathlib.Core.List.{List, [], ◌∷◌}
use mathlib.Core.Path.{◌≡◌, sym, ap, ◌∙◌}
use Prim.Native.Nat.{ℕ}
use lib.IntN.{pos}
use lib.ListN.{length, get_or}
use Rattle.sequences.specs.Wrote.{wrote_then}
use Rattle.meaning.specs.Text.{tab}
use Rattle.saved_numbers.specs.Marked.{mark_below, mark_above}
use Rattle.saved_numbers.proofs.put_mark.Goals as goal

-- src/lib.rt:66:9
pub put_byte-requires : goal.put_byte-requires
put_byte-requires c =
    let a = c.args in
    let z = get_or a.positions.now a.i (pos 0) in
    omega (arith, ap length (mark_below z (sym c.is_negative.ensures ∙ c.if-is_negative.true)))

-- src/lib.rt:59:1
pub returns-then-is_negative : goal.returns-then-is_negative
returns-then-is_negative c =
    let a = c.args in
    let z = get_or a.positions.now a.i (pos 0) in
    rw (mark_below z (sym c.is_negative.ensures ∙ c.if-is_negative.true)) (wrote_then c.put_byte-next.ensures c.put_byte.ensures)

-- src/lib.rt:59:1
pub returns-else-is_negative : goal.returns-else-is_negative
returns-else-is_negative c =
    let a = c.args in
    let z = get_or a.positions.now a.i (pos 0) in
    rw (mark_above z (sym c.is_negative.ensures ∙ c.if-is_negative.false)) c.put_byte-next.ensures
