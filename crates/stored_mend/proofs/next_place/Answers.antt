use native.Mathlib.Omega.{arith}
use Rattle.stored_mend.specs.Mending.{passed_on}
use Rattle.stored_mend.proofs.next_place.Goals as goal

pub passed-near-requires : goal.passed-near-requires
passed-near-requires c = (c.requires.0, c.requires.1, omega arith)

pub passed-requires : goal.passed-requires
passed-requires c = (c.passed-near.ensures.inside, c.requires.1, omega arith)

pub returns : goal.returns
returns c = passed_on c.passed-near.ensures c.passed.ensures
