-- The answer of an import as one number: 0, or the refusal's number times 2^32 with its line and a bit for its file.
use Rattle.std.specs.Prelude.{ℕ, ◌+◌, ◌*◌, ◌<◌, List, ◌≡◌, ℤ, Err, Ok, Result}
use Rattle.std.proofs.Common.{arith}
use Rattle.meaning.specs.Scene.{Scene}
use Rattle.meaning.specs.Refusals.{number_of}
use Rattle.meaning.specs.ObjBoxes.{BoxedImport}
use Rattle.meaning.specs.declared.Refusal.{Refusal}
use Rattle.meaning.specs.declared.Refused.{Refused}
use Rattle.meaning.specs.declared.SceneCounts.{SceneCounts}
use Rattle.meaning.specs.declared.WhichFile.{WhichFile}
use Rattle.meaning.specs.declared.WhichFile.TheVariants.{Start, End}
use Rattle.meaning.specs.Numbers.{upper, Numbered}
use Rattle.meaning.specs.ImportNumbers.{file_bit, import_number, import_counts, ImportInto}
use Rattle.meaning.specs.declared.ImportRefusal.TheVariants.{In, Of}
use Rattle.meaning.specs.declared.ImportRefusal.{ImportRefusal}

-- 2^30: a line stays below it
abbrev pub line_limit : ℕ
line_limit = 1_073_741_824

unfoldable pub import_line : Result SceneCounts ImportRefusal → ℕ
import_line (Ok c) = 0
import_line (Err (Of x)) = 0
import_line (Err (In f x)) = x.carries

pub bit_small : (f : WhichFile) {k line : ℕ} → k ≡ file_bit f → line < line_limit → k + line < upper
unfolding file_bit
bit_small f {k} {line} e h = go f e
  where
    go : (f : WhichFile) → k ≡ file_bit f → k + line < upper
    go Start e = omega (arith, e)
    go End e = omega (arith, e)

-- ---- the steps from an answer to its number, as code takes them

module _ {a : Result SceneCounts ImportRefusal} where
  pub number_read : {c : SceneCounts} → a ≡ Ok c → 0 ≡ import_number a
  unfolding import_number
  number_read e = rw e

  pub number_refused : {x : Refusal} {r : ℕ} → a ≡ Err (Of x) → r ≡ number_of x * upper + 0 → r ≡ import_number a
  unfolding import_number
  number_refused e h = rw e h

  module _ {f : WhichFile} {x : Refused} (e : a ≡ Err (In f x)) where
    pub line_carried : import_line a < line_limit → x.carries < line_limit
    unfolding import_line
    line_carried h = rw e at h

    -- what the refusal then carries
    pub bits_carried : import_line a < line_limit → {k : ℕ} → k ≡ file_bit f → k + x.carries < upper
    bits_carried h q = bit_small f q (line_carried h)

    pub number_refused_in : {k r : ℕ} → k ≡ file_bit f → r ≡ number_of x.why * upper + (k + x.carries) → r ≡ import_number a
    unfolding import_number
    number_refused_in q h = rw e (rw q at h)

module _ {start end : List ℕ} {lent left : Scene} {b b' : List ℤ} {a : Result SceneCounts ImportRefusal} (p : BoxedImport start end lent left b b' a) where
  pub told_as : {l l' : List ℕ} {r : ℕ} → l' ≡ import_counts a l → r ≡ import_number a → Numbered import_number (ImportInto start end lent left b b' l l') r
  told_as e h = record { answer = a; right = record { scene = p; counts = e }; is = h }
