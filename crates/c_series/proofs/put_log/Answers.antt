use Prim.Native.Nat.{ℕ, ◌+◌, ◌*◌, ◌<◌}
use mathlib.Core.Path.{◌≡◌, sym, ap}
use native.Mathlib.Omega.{arith}
use lib.ListN.{length, take}
use Rattle.sequences.specs.Wrote.{wrote_none, wrote_then, wrote_two, wrote_front}
use Rattle.meaning.specs.Series.{log_limit}
use Rattle.report_words.specs.Lines.{wrote_as}
use Rattle.meaning.specs.SeriesNumbers.{rows_of}
use Rattle.c_series.specs.Rows.{rows_none, rows_next}
use Rattle.c_series.proofs.put_log.Goals as goal

pub loop-k-init : goal.loop-k-init
loop-k-init c = wrote_as (sym (rows_none c.args.log.hits)) (wrote_none c.args.rows.now 0)

pub bounds-log-k : goal.bounds-log-k
bounds-log-k c = omega (arith, c.requires.1, c.loop-k-test.true)

pub overflow_mul-k : goal.overflow_mul-k
overflow_mul-k c = record { fits = omega (arith, c.requires.1, c.loop-k-test.true) }

pub put_row-requires : goal.put_row-requires
put_row-requires c =
    let pre = c.requires in
    omega (arith, pre.0, pre.1, c.loop-k-test.true, c.loop-k.invariant.same)

pub loop-k-preserved : goal.loop-k-preserved
loop-k-preserved c =
    let start = c in
    let i = c.loop-k.invariant in
    let k = c.loop-k.k in
    let long : length start.args.log.hits ≡ log_limit = start.well_formed.0.1.1.0.1.0.1 in
    let below : k < length start.args.log.hits = omega (arith, start.requires.1, c.loop-k-test.true) in
    let place : 2 * (k + 1) ≡ 2 * k + 2 = omega arith in
    rw (place, c.put_row.ensures) (wrote_as (rows_next start.args.log.hits k _ below) (wrote_then i (wrote_two _ (2 * k) _ _ (omega (arith, start.requires.0, start.requires.1, c.loop-k-test.true, i.same)))))

pub shape_of-rows : goal.shape_of-rows
shape_of-rows c = c.loop-k.invariant.same

pub returns : goal.returns
returns c =
    let start = c in
    let i = c.loop-k.invariant in
    let all : c.loop-k.k ≡ start.args.log.held = omega (arith, c.loop-k-test.false) in
    wrote_front (wrote_as (ap (λ (n : ℕ). rows_of (take n start.args.log.hits)) all) i)
