-- `obj_numbers::size_of` meets its contract: the digits before the point, and those behind it where there is one.
use mathlib.Core.Path.{sym}
use lib.Seq.{length-take-le}
use native.Mathlib.Omega.{arith}
use borrow.Author.Rules.{rules}
use Rattle.obj_numbers.specs.Finding.{place_fits}
use Rattle.obj_numbers.specs.Sizing.{size_bad, size_small, size_plain, size_pointed}
use Rattle.obj_numbers.proofs.size_of.Goals as goal

pub slice_bounds-whole_of-end : goal.slice_bounds-whole_of-end
slice_bounds-whole_of-end c = sym (length-take-le _ c.args.s.now (place_fits 46 c.args.s.now c.place_of-place.ensures))

pub slice_bounds-with_part-count : goal.slice_bounds-with_part-count
slice_bounds-with_part-count c = omega (arith, c.if-place-s.true)

pub slice_bounds-with_part-start : goal.slice_bounds-with_part-start
slice_bounds-with_part-start c = omega (arith, c.if-place-s.true)

pub with_part-requires : goal.with_part-requires
with_part-requires c = size_small c.args.s.now c.place_of-place.ensures c.whole_of.ensures c.in_ok-n.was

pub overflow_mul-result : goal.overflow_mul-result
overflow_mul-result c = omega (arith, size_small c.args.s.now c.place_of-place.ensures c.whole_of.ensures c.in_ok-n.was)

pub returns-in_err-n : goal.returns-in_err-n
returns-in_err-n c = rw c.from_residual.ensures (size_bad c.args.s.now c.place_of-place.ensures c.whole_of.ensures c.in_err-n.was)

pub returns-then-place-s : goal.returns-then-place-s
returns-then-place-s c =
    size_pointed c.args.s.now c.place_of-place.ensures c.whole_of.ensures c.in_ok-n.was
    c.if-place-s.true c.with_part.ensures

pub returns-else-place-s : goal.returns-else-place-s
returns-else-place-s c =
    size_plain c.args.s.now c.place_of-place.ensures c.whole_of.ensures c.in_ok-n.was
    c.if-place-s.false
