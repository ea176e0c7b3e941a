-- The report of what was read of a text: of the text itself, or of every text that begins so.
use Rattle.std.specs.Prelude.{ℕ, ◌≤◌, ◌<◌, List, length, take}
use Rattle.std.proofs.Common.{sym, subst, arith}
use Rattle.sequences.specs.Wrote.{Wrote}
use Rattle.meaning.specs.Limits.{text_limit}
use Rattle.meaning.specs.Report.{refused_line, too_long, Reported, ReportedRead}
use Rattle.text_scene.specs.ReadSoFar.{read_whole, read_full}
use Rattle.scene_report.specs.Whole.{refused_text}

pub report_of_whole : {buffer o o' : List ℕ} {count n : ℕ} → count < length buffer → Reported (take count buffer) o o' n → ReportedRead buffer count o o' n
report_of_whole {buffer} {o} {o'} {count} {n} below reported text r = subst (λ (t : List ℕ). Reported t o o' n) (sym (read_whole r below)) reported

pub report_of_full : {buffer o o' : List ℕ} {count n : ℕ} → text_limit < length buffer → length buffer ≤ count → Wrote o 0 (refused_line 8 0) o' n
    → ReportedRead buffer count o o' n
report_of_full long full wrote text r = refused_text 8 0 (too_long (omega (arith, read_full r full))) wrote
