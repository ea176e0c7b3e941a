-- What is written is the front of the array.
use Rattle.std.proofs.Common.{ℕ, ◌≤◌, List, length, take, length-append, length-take-le, arith, sym, ap}
use Rattle.meaning.specs.SeriesLines.{SeriesReported, SeriesRead}
use Rattle.meaning.specs.shown.ReadShown.{front_read}
use Rattle.series.proofs.main.Goals as goal

-- what is told fits the buffer that it stands in
fits : {buffer o o' : List ℕ} {count n : ℕ} → SeriesRead buffer count o o' n → n ≤ length o'
fits {buffer} {o} {o'} {count} {n} r =
    let p : SeriesReported (take count buffer) o o' n = r (take count buffer) (front_read buffer count) in
    omega (arith, p.length_is, simp length-append at (ap length p.buffer))

pub slice_bounds-out-end : goal.slice_bounds-out-end
slice_bounds-out-end c = fits c.series_read-length.ensures

pub slice_bounds-write_out-end : goal.slice_bounds-write_out-end
slice_bounds-write_out-end c = sym (length-take-le _ _ (fits c.series_read-length.ensures))
