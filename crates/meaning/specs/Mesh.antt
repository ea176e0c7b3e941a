-- A mesh is a scene of any size: at most 2^30 vertices, edges, triangles and seams. Its checks are the scene's with another first row; every other
-- row is the scene's own, which has no size in it.
use Rattle.std.specs.Prelude.{ℕ, Bool, cond, ◌||◌, List, [], ◌∷◌, eqb, ltb, length, Result}
use Rattle.meaning.specs.Limits.{part_limit}
use Rattle.meaning.specs.Scene.{Scene, vertex_count, edge_count, triangle_count, seam_count, uneven, out_of_range, unknown_vertex, broken_seam, repeated_vertex}
use Rattle.meaning.specs.Refusals.{Check, Answers, outcome_alone}
use Rattle.meaning.specs.declared.Refusal.{Refusal}

abbrev pub over_mesh_size : Scene → Bool
over_mesh_size s =
    ltb part_limit (vertex_count s) || ltb part_limit (edge_count s) || ltb part_limit (triangle_count s)
    || ltb part_limit (seam_count s)

-- 1 of a mesh
abbrev pub mesh_shape : Scene → Bool
mesh_shape s = uneven s || over_mesh_size s

-- 1, 2, 3, 15, 4, each over the whole mesh before the next
abbrev pub mesh_checks : Scene → List Check
mesh_checks s =
    record { number = 1; holds = mesh_shape s; carries = 0 }
    ∷ record { number = 2; holds = out_of_range s; carries = 0 }
    ∷ record { number = 3; holds = unknown_vertex s; carries = 0 }
    ∷ record { number = 15; holds = broken_seam s; carries = 0 }
    ∷ record { number = 4; holds = repeated_vertex s; carries = 0 }
    ∷ []

-- what is promised of the check of a mesh
abbrev pub MeshChecked : Scene → Result (Unit {0}) Refusal → Type 0
MeshChecked s r = Answers (mesh_checks s) (λ t. Unit {0}) (outcome_alone r)

-- how many numbers a caller lends for the table of seams: one for each vertex, none where there are no seams
abbrev pub table_room : Scene → ℕ
table_room s = cond (eqb (length s.seams) 0) 0 (vertex_count s)

-- of a mesh with so many numbers lent: 12, then the five
abbrev pub MeshAccepted : Scene → ℕ → Result (Unit {0}) Refusal → Type 0
MeshAccepted s table r =
    Answers (record { number = 12; holds = ltb table (table_room s); carries = 0 } ∷ mesh_checks s) (λ t. Unit {0}) (outcome_alone r)
