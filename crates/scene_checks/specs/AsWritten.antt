-- Without seams a vertex is twice in a part where a number is written twice.
use Rattle.std.specs.Prelude.{ℕ, Bool, ◌||◌, List, [], ◌∷◌, ◌≡◌, refl, eqb, length}
use Rattle.std.proofs.Common.{arith}
use Rattle.meaning.specs.Scene.{edge_count, triangle_count, edge_end, corner, some_below, stood_for, repeated_vertex}
use Rattle.scene_seams.specs.Table.{seams_from}
use Rattle.scene_seams.specs.Alone.{only_edges, only_triangles, tabled}

abbrev pub written_twice_in_edge : List ℕ → ℕ → Bool
written_twice_in_edge e j = eqb (edge_end (only_edges e) j 0) (edge_end (only_edges e) j 1)

abbrev pub written_twice_in_triangle : List ℕ → ℕ → Bool
written_twice_in_triangle t j =
    eqb (corner (only_triangles t) j 0) (corner (only_triangles t) j 1)
    || eqb (corner (only_triangles t) j 0) (corner (only_triangles t) j 2)
    || eqb (corner (only_triangles t) j 1) (corner (only_triangles t) j 2)

pub as_written : (e t stands : List ℕ) → length stands ≡ 0
    → some_below (edge_count (only_edges e)) (written_twice_in_edge e) || some_below (triangle_count (only_triangles t)) (written_twice_in_triangle t)
    ≡ repeated_vertex (tabled [] e t stands)
unfolding seams_from stood_for
as_written e t [] h = refl
as_written e t (d ∷ s) h = absurd (omega arith)
