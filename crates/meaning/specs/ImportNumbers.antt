-- The answer of an import as one number: 0, or the refusal's number times 2^32 with its line and a bit for its file.
use Rattle.std.specs.Prelude.{ℕ, ◌+◌, ◌*◌, List, [], ◌∷◌, ◌≡◌, ℤ, Err, Ok, Result}
use Rattle.meaning.specs.Scene.{Scene}
use Rattle.meaning.specs.Refusals.{number_of}
use Rattle.meaning.specs.ObjBoxes.{BoxedImport}
use Rattle.meaning.specs.declared.WhichFile.{WhichFile}
use Rattle.meaning.specs.declared.WhichFile.TheVariants.{Start, End}
use Rattle.meaning.specs.Numbers.{upper}
use Rattle.meaning.specs.declared.ImportRefusal.TheVariants.{In, Of}
use Rattle.meaning.specs.declared.ImportRefusal.{ImportRefusal}
use Rattle.meaning.specs.declared.SceneCounts.{SceneCounts}

-- 2^30 for the start file, 2^31 for the end file
unfoldable pub file_bit : WhichFile → ℕ
file_bit Start = 1_073_741_824
file_bit End = 2_147_483_648

-- no file for 12 and 14
unfoldable pub import_number : Result SceneCounts ImportRefusal → ℕ
import_number (Ok c) = 0
import_number (Err (Of x)) = number_of x * upper + 0
import_number (Err (In f x)) = number_of x.why * upper + (file_bit f + x.carries)

-- the four counts of the scene, in a lent array; a refusal leaves what stood there
unfoldable pub import_counts : Result SceneCounts ImportRefusal → List ℕ → List ℕ
import_counts (Ok c) l = c.vertices ∷ c.edges ∷ c.triangles ∷ c.seams ∷ []
import_counts (Err (Of x)) l = l
import_counts (Err (In f x)) l = l

pub record ImportInto (start end : List ℕ) (lent left : Scene) (b b' : List ℤ) (l l' : List ℕ) (r : Result SceneCounts ImportRefusal) : Type 0 where
  pub scene : BoxedImport start end lent left b b' r
  pub counts : l' ≡ import_counts r l
