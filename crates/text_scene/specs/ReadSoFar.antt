-- What was read of a text: where it does not fill the buffer it is the text; where it does, every text that begins so is at least as long.
use Rattle.std.specs.Prelude.{ℕ, ◌≤◌, ◌<◌, min, List, ◌++◌, ◌≡◌, length, take}
use Rattle.std.proofs.Common.{append-nil, ⊎_elim, ap, ◌∙◌, arith, length-append, take_all}
use Rattle.sequences.specs.Range.{le_or_lt}
use Rattle.meaning.specs.Limits.{text_limit}
use Rattle.meaning.specs.Report.{ReadOf}

-- the text ended before the buffer was full
pub read_whole : {text buffer : List ℕ} {count : ℕ} → ReadOf text buffer count → count < length buffer → text ≡ take count buffer
read_whole {text} {buffer} {count} r below =
    r.front ∙ ap (λ (l : List ℕ). take count buffer ++ l) (r.ended below) ∙ append-nil (take count buffer)

-- the buffer is full
pub read_full : {text buffer : List ℕ} {count : ℕ} → ReadOf text buffer count → length buffer ≤ count → length buffer ≤ length text
read_full {text} {buffer} {count} r full =
    omega (arith, ap (length {A = ℕ}) r.front, length-append (take count buffer) r.rest, ap (length {A = ℕ}) (take_all count buffer full))

-- so what stands in front of the buffer is the text, or both are too long
pub data StandsFor (text read : List ℕ) : Type 0 where
  whole : text ≡ read → StandsFor text read
  long : text_limit < length text → text_limit < length read → StandsFor text read

pub stands_for : {text buffer : List ℕ} {count : ℕ} → ReadOf text buffer count → text_limit < length buffer
    → StandsFor text (take (min count (length buffer)) buffer)
stands_for {text} {buffer} {count} r wide =
    ⊎_elim
    (λ full.
    let all : min count (length buffer) ≡ length buffer = omega (arith, full) in
    let itself : length buffer ≤ length buffer = omega arith in
    let same : take (length buffer) buffer ≡ buffer = take_all (length buffer) buffer itself in
    rw all (rw same (long (omega (arith, read_full r full)) wide)))
    (λ below.
    let some : min count (length buffer) ≡ count = omega (arith, below) in
    rw some (whole (read_whole r below)))
    (le_or_lt (length buffer) count)
