-- A drape in one line, as the calls for a mesh tell it: its edges are whole, no row of edges is pierced at the start, and no row of pairs, listed or near,
-- has a hit or a touch. So it is clean at the end.
use Rattle.std.specs.Prelude.{ℕ, ◌<◌}
use Rattle.meaning.specs.Scene.{Scene, edge_count}
use Rattle.meaning.specs.MeshRows.{row_count}
use Rattle.meaning.specs.declared.Frame.TheVariants.{Start}
use Rattle.meaning.specs.declared.RowPairs.{RowPairs}
use Rattle.clean_demands.specs.Mesh.{WellMade, SidesAreEdges}
use Rattle.clean_demands.specs.Rows.{RowUntroubled}
use Rattle.clean_demands.specs.Through.{RowClean}

-- `Lent.whole_edges` gives the first two, `Through.none_listed_clean` the third of a stretch of rows, `Rows.kept_untroubled` the last of one
pub record ToldClean (w : RowPairs) (s : Scene) : Type 0 where
  pub well : WellMade s
  pub sides : SidesAreEdges s
  pub start : (i : ℕ) → i < edge_count s → RowClean Start s i
  pub rows : (i : ℕ) → i < row_count s → RowUntroubled w s i

-- ---- a drape of many steps, each of which goes on where the one before it ended

-- of each step: no row has a hit or a touch
pub record ToldStep (w : RowPairs) (s : Scene) : Type 0 where
  pub well : WellMade s
  pub rows : (i : ℕ) → i < row_count s → RowUntroubled w s i
