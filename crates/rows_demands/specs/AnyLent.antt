-- A lent order is a hint: two calls over the same mesh and rows, each with orders that are taken, or with none, have one result, refused calls too: the answer
-- with its count, and every lent number but the scratch. How much scratch is lent says nothing either.
use Rattle.std.specs.Prelude.{false, ◌≡◌}
use Rattle.meaning.specs.Scene.{Scene}
use Rattle.meaning.specs.MeshRows.{Lent, scratch_short, wrong_order}

-- what is lent is taken: neither 12 nor 18
pub record Taken (s : Scene) (l : Lent) : Type 0 where
  pub enough : scratch_short s l ≡ false
  pub ordered : wrong_order s l ≡ false
