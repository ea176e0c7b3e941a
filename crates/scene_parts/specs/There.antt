-- A pair that is there, in numbers.
use Rattle.std.specs.Prelude.{ℕ, ◌<◌, ◌≡◌, false, leb}
use borrow.Author.Tests.{leb-false}
use Rattle.meaning.specs.Scene.{Scene, vertex_count, edge_count, triangle_count}
use Rattle.meaning.specs.Refusals.{not_there}
use Rattle.meaning.specs.declared.Kind.TheVariants.{PointTriangle, EdgeEdge}
use Rattle.answers.specs.Below.{or_left, or_rest}

module _ (s : Scene) (i j : ℕ) where
  pub pt_there : not_there s PointTriangle i j ≡ false → (i < vertex_count s) × (j < triangle_count s)
  unfolding not_there
  pt_there e = (
    leb-false (vertex_count s) i (or_left (leb (vertex_count s) i) (leb (triangle_count s) j) e),
    leb-false (triangle_count s) j (or_rest (leb (vertex_count s) i) (leb (triangle_count s) j) e),
  )

  pub ee_there : not_there s EdgeEdge i j ≡ false → (i < edge_count s) × (j < edge_count s)
  unfolding not_there
  ee_there e = (
    leb-false (edge_count s) i (or_left (leb (edge_count s) i) (leb (edge_count s) j) e),
    leb-false (edge_count s) j (or_rest (leb (edge_count s) i) (leb (edge_count s) j) e),
  )
