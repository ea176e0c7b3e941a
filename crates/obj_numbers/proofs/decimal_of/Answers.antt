-- `obj_numbers::decimal_of` meets its contract: behind a minus, or from the start.
use Prim.Native.Nat.{◌<◌}
use mathlib.Core.Path.{sym, ◌∙◌}
use lib.ListN.{length}
use native.Mathlib.Omega.{arith}
use borrow.Author.Rules.{rules}
use Rattle.decimals.specs.Byte.{byte_inside}
use Rattle.obj_numbers.specs.Sizing.{decimal_minus, decimal_plain}
use Rattle.obj_numbers.proofs.decimal_of.Goals as goal

inside : (c : goal.Then-byte_at-eq45) → 0 < length c.args.s.now
inside c = byte_inside c.args.s.now 0 (λ z. omega (arith, c.if-byte_at-eq45.true, c.byte_at.ensures))

pub slice_bounds-size_of-count : goal.slice_bounds-size_of-count
slice_bounds-size_of-count c = omega (arith, inside c)

pub slice_bounds-size_of-start : goal.slice_bounds-size_of-start
slice_bounds-size_of-start c = omega (arith, inside c)

pub returns-then-byte_at-eq45 : goal.returns-then-byte_at-eq45
returns-then-byte_at-eq45 c = decimal_minus c.args.s.now c.byte_at.ensures c.if-byte_at-eq45.true c.size_of.ensures c.signed_as.ensures

pub returns-else-byte_at-eq45 : goal.returns-else-byte_at-eq45
returns-else-byte_at-eq45 c = decimal_plain c.args.s.now c.byte_at.ensures c.if-byte_at-eq45.false c.size_of-else-byte_at-eq45.ensures c.signed_as-else-byte_at-eq45.ensures
