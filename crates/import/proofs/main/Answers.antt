-- What is printed stands in front of its buffer.
use Rattle.std.proofs.Common.{ℕ, ◌≤◌, List, length, take, length-append, length-take-le, arith, sym, ap}
use Rattle.meaning.specs.Scene.{Scene}
use Rattle.meaning.specs.Report.{OfAllRead}
use Rattle.meaning.specs.ObjPrinted.{PairPrinted}
use Rattle.meaning.specs.shown.ReadShown.{front_read}
use Rattle.import.proofs.main.Goals as goal

-- what is printed fits the buffer that it stands in
fits : {Shown : Scene → List ℕ → Type 0} {start end o o' : List ℕ} {count behind n : ℕ}
    → OfAllRead (λ (s : List ℕ). OfAllRead (λ (t : List ℕ). PairPrinted Shown s t o o' n) end behind) start count
    → n ≤ length o'
fits {Shown} {start} {end} {o} {o'} {count} {behind} {n} r =
    let p : PairPrinted Shown (take count start) (take behind end) o o' n = r (take count start) (front_read start count) (take behind end) (front_read end behind) in
    omega (arith, p.length_is, simp length-append at (ap length p.buffer))

pub slice_bounds-out-end : goal.slice_bounds-out-end
slice_bounds-out-end c = fits c.import_text_read-length.ensures

pub slice_bounds-write_out-end : goal.slice_bounds-write_out-end
slice_bounds-write_out-end c = sym (length-take-le _ _ (fits c.import_text_read-length.ensures))
