use mathlib.Core.List.{[], ◌∷◌}
use mathlib.Core.Path.{◌≡◌}
use native.Mathlib.Omega.{arith}
use Rattle.sequences.specs.Gather.{gather_none, gather_last}
use Rattle.pair_report.specs.Rendered.{verdict_at, verdicts_short}
use Rattle.tally.specs.Counted.{tally_starts, tally_goes}
use Rattle.pair_report.proofs.tally_of.Goals as goal

pub loop-k-init : goal.loop-k-init
loop-k-init c = rw (gather_none (λ k. verdict_at c.args.verdicts.now k ∷ []) 0 0 (omega arith)) tally_starts

pub verdict_at-requires : goal.verdict_at-requires
verdict_at-requires c = (omega (arith, c.requires.0.there), c.requires.0.at c.loop-k.k (omega arith))

pub loop-k-preserved : goal.loop-k-preserved
loop-k-preserved c =
    let b = c.args.verdicts.now in
    let k = c.loop-k.k in
    rw (gather_last (λ k. verdict_at c.args.verdicts.now k ∷ []) 0 k (omega arith), c.add-tally.ensures, c.verdict_at.ensures)
    (tally_goes (verdict_at b k) (omega (arith, verdicts_short b k, c.requires.1)) c.loop-k.invariant)

pub returns : goal.returns
returns c =
    let same : c.loop-k.k ≡ c.args.count = omega arith in
    rw same at c.loop-k.invariant
