-- The hypotheses and the numbers, shown of something.
use Rattle.std.specs.Prelude.{◌+◌, ◌*◌, ◌^◌, [], ◌∷◌, ◌≡◌, refl, pos}
use Rattle.std.proofs.Common.{arith}
use Rattle.sequences.specs.Gather.{gather}
use Rattle.sequences.specs.Range.{over, times}
use Rattle.meaning.specs.Scene.{Scene, scene_of, stood_for}
use Rattle.meaning.specs.Boxes.{meet_on}
use Rattle.meaning.specs.Near.{where_at, first_span_at, second_span_at}
use Rattle.meaning.specs.Refusals.{shares}
use Rattle.meaning.specs.List.{pair}
use Rattle.meaning.specs.MeshRows.{row_test, row_count, rows_in, mesh_number, mesh_kind_part}
use Rattle.meaning.specs.declared.Kind.TheVariants.{PointTriangle, EdgeEdge}
use Rattle.meaning.specs.declared.RowPairs.TheVariants.{Listed, Near}
use Rattle.mesh_laws.specs.Entries.{MeshSized, Within}

-- two edges and no vertex: two rows
pub two_rows : row_count (scene_of [] (0 ∷ 1 ∷ 2 ∷ 3 ∷ []) [] []) ≡ 2
two_rows = refl

pub sized_shown : MeshSized (scene_of [] (0 ∷ 1 ∷ 2 ∷ 3 ∷ []) (0 ∷ 1 ∷ 2 ∷ []) [])
sized_shown = record { few_vertices = omega arith; few_edges = omega arith; few_triangles = omega arith }

pub within_shown : Within (pair EdgeEdge 1_073_741_823 1_073_741_823)
within_shown = record { first_few = omega arith; second_few = omega arith }

pub point_number : mesh_number (pair PointTriangle 3 5) ≡ 3 * 2 ^ 32 + 5
unfolding mesh_number mesh_kind_part
point_number = refl

pub edge_number : mesh_number (pair EdgeEdge 3 5) ≡ 2 ^ 63 + 3 * 2 ^ 32 + 5
unfolding mesh_number mesh_kind_part
edge_number = refl

-- a vertex goes from x = 10 to 20, and a triangle behind it from 0 to 15: their swept boxes meet, and they are far
abbrev pub one_behind : Scene
one_behind =
    scene_of
    (pos 10 ∷ pos 0 ∷ pos 0 ∷ pos 20 ∷ pos 0 ∷ pos 0
    ∷ pos 0 ∷ pos 0 ∷ pos 0 ∷ pos 15 ∷ pos 0 ∷ pos 0
    ∷ pos 0 ∷ pos 0 ∷ pos 0 ∷ pos 15 ∷ pos 0 ∷ pos 0
    ∷ pos 0 ∷ pos 0 ∷ pos 0 ∷ pos 15 ∷ pos 0 ∷ pos 0
    ∷ [])
    []
    (1 ∷ 2 ∷ 3 ∷ [])
    []

pub behind_listed : rows_in Listed one_behind 0 (row_count one_behind) ≡ pair PointTriangle 0 0 ∷ []
unfolding gather over times row_test meet_on shares stood_for
behind_listed = refl

pub behind_not_near : rows_in Near one_behind 0 (row_count one_behind) ≡ []
unfolding gather over times row_test meet_on shares stood_for where_at first_span_at second_span_at
behind_not_near = refl
