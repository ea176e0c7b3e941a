use Prim.Native.Nat.{ℕ, ◌<◌, min}
use mathlib.Core.Path.{◌≡◌, sym, ap, ◌∙◌}
use native.Mathlib.Omega.{arith}
use lib.ListN.{length, take}
use Rattle.sequences.specs.Wrote.{wrote_none, wrote_then}
use Rattle.meaning.specs.Series.{log_limit}
use Rattle.report_words.specs.Lines.{wrote_as}
use Rattle.series_report.specs.Lines.{lines_of, lines_none, lines_next, held_all}
use Rattle.series_report.proofs.log_lines.Goals as goal

pub loop-k-init : goal.loop-k-init
loop-k-init c = (omega arith, wrote_as (sym (lines_none c.args.log.hits)) (wrote_none c.args.out.now 0))

pub bounds-log-k : goal.bounds-log-k
bounds-log-k c = omega (arith, c.min-held.ensures, c.loop-k-test.true)

pub entry_line-next-requires : goal.entry_line-next-requires
entry_line-next-requires c =
    let i = c.loop-k.invariant in
    omega (arith, i.0, i.1.same, c.requires, c.min-held.ensures, c.loop-k-test.true)

pub loop-k-preserved : goal.loop-k-preserved
loop-k-preserved c =
    let start = c in
    let i = c.loop-k.invariant in
    let k = c.loop-k.k in
    let w = c.entry_line-next.ensures in
    let long : length start.args.log.hits ≡ log_limit = start.well_formed.0.1.1.0.1.0.1 in
    let below : k < length start.args.log.hits = omega (arith, c.min-held.ensures, c.loop-k-test.true) in (
      omega (arith, i.0, w.1),
      wrote_as (lines_next start.args.log.hits k _ below) (wrote_then i.1 w.0),
    )

pub shape_of-out : goal.shape_of-out
shape_of-out c = c.loop-k.invariant.1.same

pub returns : goal.returns
returns c =
    let start = c in
    let i = c.loop-k.invariant in
    let log = start.args.log in
    let long : length log.hits ≡ log_limit = start.well_formed.0.1.1.0.1.0.1 in
    let all : c.loop-k.k ≡ min log.held log_limit = omega (arith, c.min-held.ensures, c.loop-k-test.false) in (
      wrote_as (ap (λ (n : ℕ). lines_of (take n log.hits)) all ∙ held_all log long) i.1,
      omega (arith, i.0, c.min-held.ensures),
    )
