use Rattle.std.proofs.Common.{arith}
use Rattle.list_boxes.specs.Filling.{holds_none, holds_more, holds_all, kept_all, kept_wider, kept_more}
use Rattle.list_boxes.proofs.filling.fill_vertices.Goals as goal

pub loop-v-init : goal.loop-v-init
loop-v-init c = record { kept = kept_all _ _; vertices = holds_none _ _ _ }

pub loop-v-preserved : goal.loop-v-preserved
loop-v-preserved c =
    let before = c.loop-v.invariant in
    let stored = c.store_vertex.ensures in
    record {
      kept = kept_more before.kept stored (omega arith) (omega arith);
      vertices = holds_more before.vertices (omega arith) stored;
    }

pub returns : goal.returns
returns c =
    let done = c.loop-v.invariant in
    (holds_all (omega arith) done.vertices, kept_wider (omega arith) done.kept)
