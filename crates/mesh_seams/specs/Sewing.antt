-- Seams of a mesh are taken into the table as a scene's are (scene_seams: `Sewing`, `Sewn`); here the table has room for the vertices that there are,
-- however many, and not for a scene's 512.
use Rattle.std.specs.Prelude.{ℕ, ◌*◌, ◌/◌, ◌≤◌, ◌<◌, List, ◌≡◌, ℤ, length, get_or}
use Rattle.std.proofs.Common.{arith}

-- a table without seams, with room for n vertices if there are seams to take in
pub record MeshBlank (n : ℕ) (w t : List ℕ) : Type 0 where
  pub none : (v : ℕ) → get_or t v 0 ≡ 0
  pub room : 0 < length w → n ≤ length t

-- seams of two numbers each, every one the number of a vertex that is there, and a table with room for them
pub record MeshSewable (p : List ℤ) (w t : List ℕ) : Type 0 where
  pub blank : MeshBlank (length p / 6) w t
  pub even : length w ≡ 2 * (length w / 2)
  pub inside : (i : ℕ) → i < length w → get_or w i 0 < length p / 6

-- the first vertex of each has a place in the table
pub mesh_seam_fits : {p : List ℤ} {w t : List ℕ} → MeshSewable p w t → (k : ℕ) → k < length w / 2 → get_or w (2 * k) 0 < length t
mesh_seam_fits r k h = omega (arith, r.blank.room (omega arith), r.inside (2 * k) (omega arith))
