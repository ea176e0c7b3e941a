use borrow.Author.Rules.{rules}
use Rattle.corner_leaf.specs.Points.{points_of}
use Rattle.corner_sides.specs.Shadows.{shades_short}
use Rattle.corner_sides.specs.Parted.{parted_as}
use Rattle.corner_sides.proofs.parted_from.Goals as goal

pub sides_of-sides-requires : goal.sides_of-sides-requires
sides_of-sides-requires c = (shades_short c.shadow_of-a.ensures, shades_short c.shadow_of-b.ensures, shades_short c.shadow_of-c.ensures, shades_short c.shadow_of-d.ensures)

pub bounds-ends-s : goal.bounds-ends-s
bounds-ends-s c = c.requires.1

pub bounds-ends-e : goal.bounds-ends-e
bounds-ends-e c = c.requires.2

pub returns : goal.returns
returns c =
    let k = c in
    let o = k in
    let a = o.args in
    parted_as a.positions.now (points_of a.at.now a.ends.now a.first) _ _ _
    (λ i. record { v0 = o.other-q0.ensures.0 i; v1 = o.other-q1.ensures.0 i; v2 = o.other-q2.ensures.0 i; v3 = o.other-q3.ensures.0 i })
    k.shadow_of-a.ensures
    k.shadow_of-b.ensures
    k.shadow_of-c.ensures
    k.shadow_of-d.ensures
    k.sides_of-sides.ensures
    c.to_the_left.ensures
    c.to_the_right.ensures
