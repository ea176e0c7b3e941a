-- What the two programs print that read an OBJ file for the start and one for the end (document 02, §3 and §7): what the scene gives, or one
-- refusal, with a fourth field where it is a file's.
use Rattle.std.specs.Prelude.{ℕ, cond, List, [], ◌∷◌, ◌≡◌, ltb, length}
use Rattle.decimals.specs.Digits.{digits}
use Rattle.meaning.specs.Limits.{text_limit}
use Rattle.meaning.specs.Scene.{Scene}
use Rattle.meaning.specs.Report.{refused_word, report_line, refused_line, InFront}
use Rattle.meaning.specs.Saved.{saved_text}
use Rattle.meaning.specs.ObjPair.{ImportOutcome, read, refused, refused_in, PairOutcome}
use Rattle.meaning.specs.declared.WhichFile.{WhichFile}
use Rattle.meaning.specs.declared.WhichFile.TheVariants.{Start, End}

-- `start` or `end`
unfoldable pub file_word : WhichFile → List ℕ
file_word Start = 115 ∷ 116 ∷ 97 ∷ 114 ∷ 116 ∷ []
file_word End = 101 ∷ 110 ∷ 100 ∷ []

-- 'for 8 and line faults a fourth field, `start` or `end`'
abbrev pub file_line : WhichFile → ℕ → ℕ → List ℕ
file_line f n line = report_line refused_word (digits n ∷ digits line ∷ file_word f ∷ [])

-- a scene prints what its program says; 14 is 'reported with 0'
unfoldable pub Prints : (Scene → List ℕ → Type 0) → ImportOutcome → List ℕ → Type 0
Prints Shown (read s) l = Shown s l
Prints Shown (refused n) l = l ≡ refused_line n 0
Prints Shown (refused_in f n line) l = l ≡ file_line f n line

-- the program has buffers that are long enough, so that 12 does not occur
pub record PrintedOf (Shown : Scene → List ℕ → Type 0) (start end l : List ℕ) : Type 0 where
  pub outcome : ImportOutcome
  pub right : PairOutcome start end outcome
  pub prints : Prints Shown outcome l

-- `obj` shows the report of the scene, `import` its text, or 8 where that is over 32,768 bytes
unfoldable pub SceneText : Scene → List ℕ → Type 0
SceneText s l = cond (ltb text_limit (length (saved_text s))) (l ≡ refused_line 8 0) (l ≡ saved_text s)

abbrev pub PairPrinted : (Scene → List ℕ → Type 0) → List ℕ → List ℕ → List ℕ → List ℕ → ℕ → Type 0
PairPrinted Shown start end = InFront (PrintedOf Shown start end)
