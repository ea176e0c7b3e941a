-- What is promised of boxes that are filled in leaves nothing open, whatever the vertices' boxes are.
use Rattle.std.specs.Prelude.{ℕ, List, [], ◌≡◌, ℤ}
use Rattle.meaning.specs.Scene.{Scene}
use Rattle.meaning.specs.StoredBoxes.{Box}
use Rattle.mesh_boxes.specs.Joining.{FilledAs, FilledBy}
use Rattle.mesh_boxes.specs.Once.{one_filling_by}

-- without orders
unordered : (s : Scene) {b : ℕ → Box} {l l' : List ℤ} → FilledAs s b l l' → FilledBy s b [] [] l l'
unordered s f =
    record {
      boxed = record { vertices = f.boxed.vertices; edges = f.boxed.edges; triangles = f.boxed.triangles; room = f.boxed.room };
      kept = f.kept;
    }

pub one_filling_as : (s : Scene) {b : ℕ → Box} {l l₁ l₂ : List ℤ} → FilledAs s b l l₁ → FilledAs s b l l₂ → l₁ ≡ l₂
one_filling_as s p q = one_filling_by s (unordered s p) (unordered s q)
