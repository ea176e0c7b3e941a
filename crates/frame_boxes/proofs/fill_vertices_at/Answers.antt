use native.Mathlib.Omega.{arith}
use Rattle.list_boxes.specs.Filling.{holds_none, holds_more, holds_all, kept_all, kept_wider, kept_more}
use Rattle.frame_boxes.proofs.fill_vertices_at.Goals as goal

pub loop-v-init : goal.loop-v-init
loop-v-init c = (kept_all _ _, holds_none _ _ _)

pub loop-v-preserved : goal.loop-v-preserved
loop-v-preserved c =
    let inv = c.loop-v.invariant in
    let stored = c.store_vertex_at.ensures in
    (kept_more inv.0 stored (omega arith) (omega arith), holds_more inv.1 (omega arith) stored)

pub returns : goal.returns
returns c =
    let inv = c.loop-v.invariant in
    (holds_all (omega arith) inv.1, kept_wider (omega arith) inv.0)
