-- The report of what was read of a text: there is always a text of which that was read, so the promise fixes the report; and a buffer that is
-- full and longer than a text may be is refused 8, however the text goes on.
use Rattle.std.specs.Prelude.{ℕ, ◌≤◌, ◌<◌, List, [], ◌++◌, ◌≡◌, length, take}
use Rattle.std.proofs.Common.{◌∙◌, ap, arith, length-append}
use Rattle.sequences.specs.Wrote.{written}
use Rattle.meaning.specs.Limits.{text_limit}
use Rattle.meaning.specs.Report.{refused_line, too_long, Reported, ReportedRead}
use Rattle.meaning.specs.shown.ReadShown.{front_read, longer_read}
use Rattle.scene_report.specs.OneReport.{one_report, one_reported}

pub one_report_read : (buffer o o' o'' : List ℕ) (count n n' : ℕ) → ReportedRead buffer count o o' n → ReportedRead buffer count o o'' n' → (n ≡ n') × (o' ≡ o'')
one_report_read buffer o o' o'' count n n' p q =
    one_reported (take count buffer) o o' o'' n n' (p (take count buffer) (front_read buffer count)) (q (take count buffer) (front_read buffer count))

-- refused 8, and nothing else is printed
pub full_refused : (buffer o o' : List ℕ) (count n : ℕ) → text_limit < length buffer → length buffer ≤ count → ReportedRead buffer count o o' n
    → (n ≡ length (refused_line 8 0)) × (o' ≡ written (refused_line 8 0) o)
full_refused buffer o o' count n long full p =
    let r : Reported (buffer ++ []) o o' n = p (buffer ++ []) (longer_read buffer [] count full) in
    let e : r.report ≡ refused_line 8 0 = one_report r.right (too_long (omega (arith, length-append buffer []))) in
    (r.length_is ∙ ap (length {A = ℕ}) e, r.buffer ∙ ap (λ (l : List ℕ). written l o) e)
