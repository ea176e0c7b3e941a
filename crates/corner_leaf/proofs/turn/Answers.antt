-- Four arrows in the slots of the four others, their volumes, and what these say.
use mathlib.Core.Path.{◌≡◌, ◌∙◌}
use Prim.Native.Nat.{ℕ, suc, ◌+◌, ◌≤◌, ◌<◌}
use native.Mathlib.Nat.{lt_trans}
use native.Mathlib.Omega.{arith}
use lib.Dec.{lit<}
use Rattle.exact.specs.Volumes.{holds_small, holds_same}
use Rattle.exact.specs.Arrows.{points_short}
use Rattle.corner_leaf.specs.Slotted.{turned}
use Rattle.corner_leaf.proofs.turn.Goals as goal

-- the next axis is at most one further
below : {a b n : ℕ} → a ≤ b + 1 → b < n → a < suc n
below h k = omega arith

pub other-q0-requires : goal.other-q0-requires
other-q0-requires c = lit< tt

pub other-q1-requires : goal.other-q1-requires
other-q1-requires c = lit< tt

pub other-q2-requires : goal.other-q2-requires
other-q2-requires c = lit< tt

pub other-q3-requires : goal.other-q3-requires
other-q3-requires c = lit< tt

pub bounds-left-q0 : goal.bounds-left-q0
bounds-left-q0 c = c.other-q0.ensures.1

pub next-f1-requires : goal.next-f1-requires
next-f1-requires c = lt_trans c.requires.3 (lit< tt)

pub bounds-left-q1 : goal.bounds-left-q1
bounds-left-q1 c = c.other-q1.ensures.1

pub next-f2-requires : goal.next-f2-requires
next-f2-requires c = below c.next-f1.ensures.1 (lt_trans c.requires.3 (lit< tt))

pub bounds-left-q2 : goal.bounds-left-q2
bounds-left-q2 c = c.other-q2.ensures.1

pub next-f3-requires : goal.next-f3-requires
next-f3-requires c = below c.next-f2.ensures.1 (below c.next-f1.ensures.1 c.requires.3)

pub arrow-a0-requires : goal.arrow-a0-requires
arrow-a0-requires c = let o = c in let p = o.requires in (p.0, p.1, p.2, o.other-q0.ensures.1)

pub arrow-a1-requires : goal.arrow-a1-requires
arrow-a1-requires c = let o = c in let p = o.requires in (p.0, p.1, p.2, o.other-q1.ensures.1)

pub arrow-a2-requires : goal.arrow-a2-requires
arrow-a2-requires c = let o = c in let p = o.requires in (p.0, p.1, p.2, o.other-q2.ensures.1)

pub arrow-a3-requires : goal.arrow-a3-requires
arrow-a3-requires c = let o = c in let p = o.requires in (p.0, p.1, p.2, o.other-q3.ensures.1)

pub arrow_volumes-v-requires : goal.arrow_volumes-v-requires
arrow_volumes-v-requires c = (points_short c.arrow-a0.ensures, points_short c.arrow-a1.ensures, points_short c.arrow-a2.ensures, points_short c.arrow-a3.ensures)

pub judge-requires : goal.judge-requires
judge-requires c =
    let o = c in
    (holds_small c.arrow_volumes-v.ensures, o.other-q0.ensures.1, o.other-q1.ensures.1, o.other-q2.ensures.1, o.other-q3.ensures.1)

pub returns : goal.returns
returns c =
    let a = c in
    let n = a in
    let o = n in
    c.judge.ensures
    ∙ turned _ _ _ _ _ _ _ _ _ _ _ _ _ _ _
    (λ i. record { v0 = o.other-q0.ensures.0 i; v1 = o.other-q1.ensures.0 i; v2 = o.other-q2.ensures.0 i; v3 = o.other-q3.ensures.0 i })
    n.next-f1.ensures.0
    n.next-f2.ensures.0
    n.next-f3.ensures.0
    a.arrow-a0.ensures
    a.arrow-a1.ensures
    a.arrow-a2.ensures
    a.arrow-a3.ensures
    (holds_same c.arrow_volumes-v.ensures)
