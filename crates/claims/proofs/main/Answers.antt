-- What is printed stands in front of its buffer.
use Rattle.std.proofs.Common.{ℕ, ◌≤◌, List, length, take, length-append, length-take-le, arith, sym, ap}
use Rattle.meaning.specs.Report.{OfAllRead}
use Rattle.meaning.specs.Claims.{AnswersReported}
use Rattle.meaning.specs.shown.ReadShown.{front_read}
use Rattle.claims.proofs.main.Goals as goal

-- the answers fit the buffer that they stand in
fits : {scene claims o o' : List ℕ} {count claimed n : ℕ}
    → OfAllRead (λ (s : List ℕ). OfAllRead (λ (t : List ℕ). AnswersReported s t o o' n) claims claimed) scene count
    → n ≤ length o'
fits {scene} {claims} {o} {o'} {count} {claimed} {n} r =
    let p : AnswersReported (take count scene) (take claimed claims) o o' n = r (take count scene) (front_read scene count) (take claimed claims) (front_read claims claimed) in
    omega (arith, p.length_is, simp length-append at (ap length p.buffer))

pub slice_bounds-out-end : goal.slice_bounds-out-end
slice_bounds-out-end c = fits c.answers_read-length.ensures

pub slice_bounds-write_out-end : goal.slice_bounds-write_out-end
slice_bounds-write_out-end c = sym (length-take-le _ _ (fits c.answers_read-length.ensures))
