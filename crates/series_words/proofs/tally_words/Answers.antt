use mathlib.Core.Path.{◌≡◌}
use native.Mathlib.Omega.{arith}
use Rattle.series_words.specs.Telling.{words_next, tally_none, tally_more}
use Rattle.series_words.proofs.tally_words.Goals as goal

pub loop-k-init : goal.loop-k-init
loop-k-init c = tally_none _

pub loop-k-preserved : goal.loop-k-preserved
loop-k-preserved c =
    rw (words_next c.loop-k.k c.args.bytes.now (omega (arith, c.requires)), c.add-next.ensures, c.word_in.ensures)
    (tally_more _ c.loop-k.invariant)

pub returns : goal.returns
returns c =
    let same : c.loop-k.k ≡ c.args.count = omega arith in
    rw same at c.loop-k.invariant
