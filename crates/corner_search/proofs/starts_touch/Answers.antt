use Rattle.corner_leaf.specs.Points.{placed}
use Rattle.corner_search.specs.Says.{says_tells}
use Rattle.corner_search.proofs.starts_touch.Goals as goal

pub across-plane-requires : goal.across-plane-requires
across-plane-requires c = placed c.requires

pub first-requires : goal.first-requires
first-requires c = (c.requires, c.across-plane.ensures)

pub returns : goal.returns
returns c = rw (← c.starts-left.ensures) (says_tells _ c.first.ensures)
