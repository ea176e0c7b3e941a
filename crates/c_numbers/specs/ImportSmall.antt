-- A line of a file stays below 2^30: a file that is not over its limit has few lines.
use Rattle.std.specs.Prelude.{ℕ, ◌+◌, ◌<◌, ◌≤◌, Bool, true, false, cond, ◌||◌, List, ◌++◌, ◌≡◌, refl, ℤ, length, Err, Ok, Result}
use Rattle.std.proofs.Common.{sym, ap, ◌∙◌, arith, length-append, ltb-false}
use Rattle.answers.specs.Deciding.{holds_or_not}
use Rattle.meaning.specs.Limits.{text_limit}
use Rattle.meaning.specs.Scene.{Scene}
use Rattle.meaning.specs.Lines.{lines_of, FaultyAt}
use Rattle.meaning.specs.Text.{none, short_buffer, long_text}
use Rattle.meaning.specs.StoredBoxes.{short_boxes}
use Rattle.meaning.specs.ObjFile.{obj_lines}
use Rattle.meaning.specs.ObjPair.{ImportOutcome, read, refused, refused_in, FilesAre, PairOutcome, ImportSaid, counts, number, number_in, import_says, import_told}
use Rattle.meaning.specs.ObjBoxes.{BoxedImport}
use Rattle.meaning.specs.declared.WhichFile.TheVariants.{Start, End}
use Rattle.text_laws.specs.Unique.{records_few}
use Rattle.obj_laws.specs.Ended.{obj_readable}
use Rattle.c_numbers.specs.ImportNumbers.{line_limit, import_line}
use Rattle.meaning.specs.declared.ImportRefusal.TheVariants.{In, Of}
use Rattle.meaning.specs.declared.ImportRefusal.{ImportRefusal}
use Rattle.meaning.specs.declared.SceneCounts.{SceneCounts}

fault_near : {text : List ℕ} {n line : ℕ} → length text ≤ text_limit → FaultyAt obj_lines none text n line → line < line_limit
fault_near h p =
    omega (arith, p.place, records_few obj_readable p.above, ap length p.lines ∙ length-append (lines_of obj_lines p.above) p.below)

-- the line of an outcome
unfoldable pub line_told : ImportOutcome → ℕ
line_told (read s) = 0
line_told (refused n) = 0
line_told (refused_in f n line) = line

files_near : (start end : List ℕ) (o : ImportOutcome) → length start ≤ text_limit → length end ≤ text_limit → FilesAre start end o → line_told o < line_limit
unfolding FilesAre line_told
files_near start end (read s) h k p = omega arith
files_near start end (refused n) h k p = omega arith
files_near start end (refused_in Start n line) h k p = fault_near h p
files_near start end (refused_in End n line) h k p = fault_near k p.1

pub pair_near : (start end : List ℕ) (o : ImportOutcome) → PairOutcome start end o → line_told o < line_limit
unfolding line_told
pair_near start end o p =
    holds_or_not (long_text start)
    (λ h. let e : o ≡ refused_in Start 8 0 = rw h at p in rw e (omega arith))
    (λ h.
    holds_or_not (long_text end)
    (λ k. let e : o ≡ refused_in End 8 0 = rw (h, k) at p in rw e (omega arith))
    (λ k.
    let q : FilesAre start end o = rw (h, k) at p in
    files_near start end o (ltb-false text_limit (length start) h) (ltb-false text_limit (length end) k) q))

behind_near : (start end : List ℕ) (o : ImportOutcome) (short : Bool) → cond short (o ≡ refused 12) (PairOutcome start end o) → line_told o < line_limit
unfolding line_told
behind_near start end o true p = rw p (omega arith)
behind_near start end o false p = pair_near start end o p

line_same : (a : Result SceneCounts ImportRefusal) (o : ImportOutcome) → import_says a ≡ import_told o → import_line a ≡ line_told o
unfolding import_says import_told import_line line_told
line_same (Ok c) (read s) e = refl
line_same (Ok c) (refused n) e = refl
line_same (Ok c) (refused_in f n line) e = let z : ◌≡◌ {A = ℕ} 0 1 = cc in absurd (omega arith)
line_same (Err (Of x)) (read s) e = refl
line_same (Err (Of x)) (refused n) e = refl
line_same (Err (Of x)) (refused_in f n line) e = let z : ◌≡◌ {A = ℕ} 0 1 = cc in absurd (omega arith)
line_same (Err (In g x)) (read s) e = let z : ◌≡◌ {A = ℕ} 0 1 = cc in absurd (omega arith)
line_same (Err (In g x)) (refused n) e = let z : ◌≡◌ {A = ℕ} 0 1 = cc in absurd (omega arith)
line_same (Err (In g x)) (refused_in f n line) e = cc

pub import_near : {start end : List ℕ} {lent left : Scene} {b b' : List ℤ} {a : Result SceneCounts ImportRefusal} → BoxedImport start end lent left b b' a → import_line a < line_limit
import_near {start} {end} {lent} {left} {b} {b'} {a} p =
    rw (line_same a p.outcome p.says) (behind_near start end p.outcome (short_boxes b || short_buffer lent) p.right)
