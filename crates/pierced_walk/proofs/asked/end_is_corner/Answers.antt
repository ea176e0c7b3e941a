-- Each end is looked for among the corners.
use mathlib.Core.Path.{refl}
use Rattle.pierced_walk.proofs.asked.end_is_corner.Goals as goal

pub returns : goal.returns
returns c =
    λ p.
    let a = c.args in
    rw (c.shares_pt-second.ensures p a.edges.now, c.shares_pt-first.ensures p a.edges.now, c.edge_end-2.ensures, c.edge_end.ensures) refl
