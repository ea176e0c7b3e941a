-- `falls`: what its calls ensure, put together.
use native.Mathlib.Omega.{arith}
use Rattle.mesh_edges.proofs.falls.Goals as goal

pub ends_number-requires : goal.ends_number-requires
ends_number-requires c =
    let start = c in
    omega (arith, c.wide.ensures, start.requires.0.whole, start.requires.0.inside _ start.requires.1)

pub ends_number-requires-2 : goal.ends_number-requires-2
ends_number-requires-2 c =
    let start = c in
    omega (arith, c.wide-2.ensures, start.requires.0.whole, start.requires.0.inside start.args.k (omega arith))

pub returns : goal.returns
returns c = rw (c.ends_number.ensures, c.wide.ensures, c.ends_number-2.ensures, c.wide-2.ensures)
