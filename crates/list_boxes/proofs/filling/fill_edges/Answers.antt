use Rattle.std.proofs.Common.{refl, arith}
use Rattle.list_boxes.specs.Filling.{holds_none, holds_kept, holds_more, holds_all, kept_all, kept_wider, kept_more}
use Rattle.list_boxes.proofs.filling.fill_edges.Goals as goal

pub loop-j-init : goal.loop-j-init
loop-j-init c = record { kept = kept_all _ _; vertices = c.requires.vertices_in; edges = holds_none _ _ _ }

pub store_edge-requires : goal.store_edge-requires
store_edge-requires c = record {
  j_bound = omega arith;
  ready = record {
    known = c.requires.edges_value;
    vertices = c.loop-j.invariant.vertices;
    behind = omega arith;
    room = omega (arith, c.requires.edges_in_bounds);
  };
}

pub loop-j-preserved : goal.loop-j-preserved
loop-j-preserved c =
    let before = c.loop-j.invariant in
    let stored = c.store_edge.ensures in
    record {
      kept = kept_more before.kept stored (omega arith) (omega arith);
      vertices = holds_kept before.vertices stored (omega arith);
      edges = holds_more before.edges refl stored;
    }

pub returns : goal.returns
returns c =
    let done = c.loop-j.invariant in
    (done.vertices, holds_all (omega arith) done.edges, kept_wider (omega arith) done.kept)
