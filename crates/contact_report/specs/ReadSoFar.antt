-- What was read of a text, and the contacts of it, as of a report.
use Rattle.std.specs.Prelude.{ℕ, ◌≤◌, ◌<◌, List, length, take}
use Rattle.std.proofs.Common.{sym, subst, arith}
use Rattle.sequences.specs.Wrote.{Wrote}
use Rattle.meaning.specs.Limits.{text_limit}
use Rattle.meaning.specs.Report.{refused_line}
use Rattle.meaning.specs.ContactLines.{ContactsOf, ContactsReported, ContactsRead}
use Rattle.text_scene.specs.ReadSoFar.{read_whole, read_full}
use Rattle.contact_report.specs.Whole.{refused_text}

-- the text ended before the buffer was full
pub contacts_of_whole : {buffer o o' : List ℕ} {count n : ℕ} → count < length buffer → ContactsReported (take count buffer) o o' n
    → ContactsRead buffer count o o' n
contacts_of_whole {buffer} {o} {o'} {count} {n} below reported text r =
    subst (λ (t : List ℕ). ContactsReported t o o' n) (sym (read_whole r below)) reported

-- the buffer is full
pub contacts_of_full : {buffer o o' : List ℕ} {count n : ℕ} → text_limit < length buffer → length buffer ≤ count → Wrote o 0 (refused_line 8 0) o' n
    → ContactsRead buffer count o o' n
contacts_of_full long full wrote text r = refused_text 8 0 (ContactsOf.too_long (omega (arith, read_full r full))) wrote
