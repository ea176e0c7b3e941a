use native.Mathlib.Omega.{arith}
use mathlib.Core.Bool.{true≢false}
use mathlib.Core.Path.{sym}
use Rattle.stored_mend.specs.Mending.{none_yet, one_more, all_missing}
use Rattle.stored_mend.proofs.missing.Goals as goal

pub returns-then-list-from : goal.returns-then-list-from
returns-then-list-from c = λ e. absurd (true≢false (sym e))

pub returns : goal.returns
returns c =
    λ e.
    all_missing c.args.numbers c.if-list-from.false c.requires.0 (omega arith) c.loop-k.invariant e

pub loop-k-init : goal.loop-k-init
loop-k-init c = none_yet _ _ _ _

pub loop-k-preserved : goal.loop-k-preserved
loop-k-preserved c = one_more c.loop-k.invariant
