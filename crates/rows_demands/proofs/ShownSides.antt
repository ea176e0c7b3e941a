-- Of two triangles that share an edge: the ee pair of sides 0 1 and 3 2 stands in the list once.
use Rattle.std.specs.Prelude.{refl}
use Rattle.std.proofs.Common.{arith}
use Rattle.meaning.specs.Scene.{stood_for}
use Rattle.meaning.specs.MeshRows.{row_count, rows_in}
use Rattle.meaning.specs.declared.RowPairs.TheVariants.{Listed}
use Rattle.rows_demands.specs.AllSides.{OfSides, StandsOnce}
use Rattle.rows_demands.proofs.AllSides.{all_sides_listed}
use Rattle.rows_demands.specs.ShownSides.{two_triangles, their_sides, by_place, triangles_whole}

pub sides_stand_once : StandsOnce (OfSides two_triangles 0 1 3 2) (rows_in Listed two_triangles 0 (row_count two_triangles))
unfolding stood_for
sides_stand_once =
    all_sides_listed two_triangles their_sides by_place 0 5 triangles_whole 0 0 1 2 (omega arith) (omega arith) (omega arith) (omega arith) refl refl
