-- `edges_far`: the first axis on which the parts are apart decides, and if there is none the third one does.
use Rattle.mesh_near.proofs.edges_far.Goals as goal

pub returns-then-edges_far_at : goal.returns-then-edges_far_at
returns-then-edges_far_at c = simp (← c.edges_far_at.ensures, c.if-edges_far_at.true)

pub returns-then-edges_far_at-2 : goal.returns-then-edges_far_at-2
returns-then-edges_far_at-2 c = simp (← c.edges_far_at.ensures, c.if-edges_far_at.false, ← c.edges_far_at-2.ensures, c.if-edges_far_at-2.true)

pub returns : goal.returns
returns c =
    let first = c.edges_far_at in
    let second = c.edges_far_at-2 in
    simp (← first.ensures, c.if-edges_far_at.false, ← second.ensures, c.if-edges_far_at-2.false) c.edges_far_at-3.ensures
