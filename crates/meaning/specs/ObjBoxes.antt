-- Two OBJ files brought in with the boxes of document 02, §8: 'After reading, import or a step of a series each stored box equals the one worked
-- out from the positions.'
use Rattle.std.specs.Prelude.{cond, ◌||◌, List, ◌≡◌, ℕ, ℤ, Result}
use Rattle.meaning.specs.Scene.{Scene}
use Rattle.meaning.specs.Text.{short_buffer}
use Rattle.meaning.specs.StoredBoxes.{short_boxes, Filled}
use Rattle.meaning.specs.ObjPair.{ImportOutcome, read, refused, refused_in, PairOutcome, import_says, import_told, import_left}
use Rattle.meaning.specs.declared.ImportRefusal.{ImportRefusal}
use Rattle.meaning.specs.declared.SceneCounts.{SceneCounts}

-- 12 for any of the five lent buffers
abbrev pub BoxedImportIs : List ℕ → List ℕ → Scene → List ℤ → ImportOutcome → Type 0
BoxedImportIs start end lent b o = cond (short_boxes b || short_buffer lent) (o ≡ refused 12) (PairOutcome start end o)

-- the boxes of the scene that was brought in; a refusal changes none
unfoldable pub FillsImported : ImportOutcome → List ℤ → List ℤ → Type 0
FillsImported (read s) b b' = Filled s b b'
FillsImported (refused n) b b' = b' ≡ b
FillsImported (refused_in f n line) b b' = b' ≡ b

-- what is promised of the call that integrators have
pub record BoxedImport (start end : List ℕ) (lent left : Scene) (b b' : List ℤ) (r : Result SceneCounts ImportRefusal) : Type 0 where
  pub outcome : ImportOutcome
  pub right : BoxedImportIs start end lent b outcome
  pub says : import_says r ≡ import_told outcome
  pub leaves : left ≡ import_left outcome lent
  pub boxes : FillsImported outcome b b'
