-- One division, two, or the long one: each is right wherever its numbers fit.
use native.Mathlib.Omega.{arith}
use Rattle.cutting.specs.Cut.{cut_at_most}
use Rattle.exact_shares.specs.Quick.{cut_once}
use Rattle.exact_shares.proofs.quick.quick_cut.Goals as goal

pub overflow_cast-result : goal.overflow_cast-result
overflow_cast-result c =
    let s = c in
    omega (arith, cut_at_most s.args.part s.args.whole _ s.requires.0 s.requires.1 (cut_once s.args.part s.args.whole s.requires.0))

pub returns-then-whole-lt-ONCE : goal.returns-then-whole-lt-ONCE
returns-then-whole-lt-ONCE c = cut_once c.args.part c.args.whole c.requires.0
