use Rattle.corner_leaf.specs.Points.{placed}
use Rattle.corner_search.specs.Says.{says_tells}
use Rattle.corner_search.specs.Settles.{none_tells}
use Rattle.corner_search.proofs.piece_touches.Goals as goal

pub across-plane-requires : goal.across-plane-requires
across-plane-requires c = placed c.requires

pub parted-requires : goal.parted-requires
parted-requires c = c.requires

pub returns-then-parted : goal.returns-then-parted
returns-then-parted c = let b = c in none_tells _ b.args.six (c.parted.ensures c.if-parted.true)

pub first-requires : goal.first-requires
first-requires c = (c.requires, c.across-plane.ensures)

pub returns : goal.returns
returns c = says_tells _ c.first.ensures
