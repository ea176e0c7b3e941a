-- Two Wavefront OBJ files, one for the start and one for the end (document 02, §3): the scene that they give, and what an import answers and leaves in
-- the lent buffers.
use Rattle.std.specs.Prelude.{ℕ, Bool, true, false, not, cond, ◌&&◌, ◌||◌, List, [], ◌∷◌, ◌≡◌, eqb, ℤ, Err, Ok, Result}
use Rattle.sequences.specs.Gather.{gather}
use Rattle.meaning.specs.Scene.{Scene, scene_of, vertex_count, start_of, end_of}
use Rattle.meaning.specs.Refusals.{given, number_of}
use Rattle.meaning.specs.Lines.{after_all, AllSound, FaultyAt}
use Rattle.meaning.specs.Text.{coordinates, none, short_buffer, long_text, counts_of, filled}
use Rattle.meaning.specs.ObjFile.{obj_lines}
use Rattle.meaning.specs.declared.SceneCounts.{SceneCounts}
use Rattle.meaning.specs.declared.WhichFile.{WhichFile}
use Rattle.meaning.specs.declared.WhichFile.TheVariants.{Start, End}
use Rattle.meaning.specs.declared.ImportRefusal.TheVariants.{In, Of}
use Rattle.meaning.specs.declared.ImportRefusal.{ImportRefusal}

-- ---- two files as one scene

unfoldable pub same_numbers : List ℕ → List ℕ → Bool
same_numbers [] [] = true
same_numbers [] (b ∷ k) = false
same_numbers (a ∷ l) [] = false
same_numbers (a ∷ l) (b ∷ k) = eqb a b && same_numbers l k

-- 14: files that differ in vertex count or in the faces and their order
abbrev pub differing : Scene → Scene → Bool
differing s e = not (eqb (vertex_count s) (vertex_count e)) || not (same_numbers s.triangles e.triangles)

-- each vertex starts where the one file has it and ends where the other has it
abbrev pub positions_between : Scene → Scene → List ℤ
positions_between s e = gather (λ v. coordinates (start_of s v) (end_of e v)) 0 (vertex_count s)

abbrev pub imported : Scene → Scene → Scene
imported s e = scene_of (positions_between s e) s.edges s.triangles []

-- ---- the outcome

-- a scene; a refusal that is no file's; or one that has a file and a line
pub data ImportOutcome : Type 0 where
  read : Scene → ImportOutcome
  refused : ℕ → ImportOutcome
  refused_in : WhichFile → ℕ → ℕ → ImportOutcome

-- the lines of a file, none at fault, and their scene
pub record FileRead (text : List ℕ) (s : Scene) : Type 0 where
  pub lines : List (List ℕ)
  pub sound : AllSound obj_lines none text lines
  pub scene : s ≡ after_all obj_lines none lines

pub record BothRead (start end : List ℕ) (differ : Bool) : Type 0 where
  pub starts : Scene
  pub ends : Scene
  pub first : FileRead start starts
  pub second : FileRead end ends
  pub compared : differing starts ends ≡ differ

-- line faults, the start file first; 14 last
unfoldable pub FilesAre : List ℕ → List ℕ → ImportOutcome → Type 0
FilesAre start end (read s) = (b : BothRead start end false) × (s ≡ imported b.starts b.ends)
FilesAre start end (refused n) = BothRead start end true × (n ≡ 14)
FilesAre start end (refused_in Start n line) = FaultyAt obj_lines none start n line
FilesAre start end (refused_in End n line) = ((s : Scene) × FileRead start s) × FaultyAt obj_lines none end n line

-- 8 for either file, then the lines
abbrev pub PairOutcome : List ℕ → List ℕ → ImportOutcome → Type 0
PairOutcome start end o =
    cond (long_text start) (o ≡ refused_in Start 8 0) (cond (long_text end) (o ≡ refused_in End 8 0) (FilesAre start end o))

-- 12 first
abbrev pub ImportIs : List ℕ → List ℕ → Scene → ImportOutcome → Type 0
ImportIs start end lent o = cond (short_buffer lent) (o ≡ refused 12) (PairOutcome start end o)

-- ---- what is answered, and what is left

pub data ImportSaid : Type 0 where
  counts : SceneCounts → ImportSaid
  number : ℕ → ImportSaid
  number_in : WhichFile → ℕ → ℕ → ImportSaid

unfoldable pub import_says : Result SceneCounts ImportRefusal → ImportSaid
import_says (Ok c) = counts c
import_says (Err (Of r)) = number (number_of r)
import_says (Err (In f r)) = number_in f (number_of r.why) r.carries

unfoldable pub import_told : ImportOutcome → ImportSaid
import_told (read s) = counts (counts_of s)
import_told (refused n) = number n
import_told (refused_in f n line) = number_in f n line

-- a refusal changes no lent number; after success the buffers hold the scene in front, and what lies behind it is unchanged
unfoldable pub import_left : ImportOutcome → Scene → Scene
import_left (read s) lent = filled (given s) lent
import_left (refused n) lent = lent
import_left (refused_in f n line) lent = lent

pub record Imported (start end : List ℕ) (lent left : Scene) (r : Result SceneCounts ImportRefusal) : Type 0 where
  pub outcome : ImportOutcome
  pub right : ImportIs start end lent outcome
  pub says : import_says r ≡ import_told outcome
  pub leaves : left ≡ import_left outcome lent
