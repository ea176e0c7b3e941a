-- Two digits of 2^10 each.
use native.Mathlib.Nat.{mod-lt, le_of_lt}
use native.Mathlib.Omega.{arith}
use Prim.Native.Nat.{◌*◌, ◌%◌}
use Rattle.cutting.specs.Cut.{cut_at_most}
use Rattle.exact_shares.specs.Quick.{cut_twice, digit_at_most}
use Rattle.exact_shares.proofs.quick.in_two.Goals as goal

pub overflow_mul-result : goal.overflow_mul-result
overflow_mul-result c = omega (arith, digit_at_most c.args.part c.args.whole c.requires.1 c.requires.0)

pub overflow_mul-result-2 : goal.overflow_mul-result-2
overflow_mul-result-2 c = omega (arith, mod-lt (c.args.part * 1024) c.requires.0, c.requires.2)

pub overflow_add-result : goal.overflow_add-result
overflow_add-result c =
    omega (
      arith,
      digit_at_most c.args.part c.args.whole c.requires.1 c.requires.0,
      digit_at_most (c.args.part * 1024 % c.args.whole) c.args.whole (le_of_lt (mod-lt (c.args.part * 1024) c.requires.0)) c.requires.0,
    )

pub overflow_cast-result : goal.overflow_cast-result
overflow_cast-result c = omega (arith, cut_at_most c.args.part c.args.whole _ c.requires.0 c.requires.1 (cut_twice c.args.part c.args.whole c.requires.0))

pub returns : goal.returns
returns c = cut_twice c.args.part c.args.whole c.requires.0
