-- `walk_ready`: either walk enters the rows that are asked for.
use borrow.Author.Rules.{rules}
use Rattle.near_either.proofs.walk_ready.Goals as goal

pub walk_near-requires : goal.walk_near-requires
walk_near-requires c = record { near_forest = (c.requires.forest.3.forest c.if-shift-gt0.true, c.requires.forest.1, c.requires.forest.2); most_in_bounds = c.requires.orders_roomed.1 }

pub walk_rows-requires : goal.walk_rows-requires
walk_rows-requires c = record { forest = (c.requires.forest.0, c.requires.forest.1, c.requires.forest.2); orders_roomed = c.requires.orders_roomed }

pub returns-then-shift-gt0 : goal.returns-then-shift-gt0
returns-then-shift-gt0 c = rw (c.requires.forest.3.near c.if-shift-gt0.true) c.walk_near.ensures

pub returns-else-shift-gt0 : goal.returns-else-shift-gt0
returns-else-shift-gt0 c = c.walk_rows.ensures
