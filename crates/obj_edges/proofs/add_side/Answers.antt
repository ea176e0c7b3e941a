-- `obj_edges::add_side` meets its contract: a side that is there adds nothing, another goes behind.
use borrow.Author.Rules.{rules}
use Rattle.obj_edges.specs.Sides.{side_there, side_new}
use Rattle.obj_edges.proofs.add_side.Goals as goal

pub returns-then-is_joined : goal.returns-then-is_joined
returns-then-is_joined c =
    let given = c in
    side_there _ _ given.args.edges.now given.args.count c.is_joined.ensures given.requires.tabled c.if-is_joined.true

pub returns : goal.returns
returns c =
    let given = c in
    let test = c in
    rw c.enter.ensures
    (side_new _ _ given.args.edges.now given.args.count test.is_joined.ensures given.requires.tabled given.requires.b_bound test.if-is_joined.false)
