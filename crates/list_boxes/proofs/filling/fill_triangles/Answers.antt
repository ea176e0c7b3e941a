use Rattle.std.proofs.Common.{refl, arith}
use Rattle.list_boxes.specs.Filling.{holds_none, holds_kept, holds_more, holds_all, kept_all, kept_wider, kept_more}
use Rattle.list_boxes.proofs.filling.fill_triangles.Goals as goal

pub loop-j-init : goal.loop-j-init
loop-j-init c =
    let before = c.requires.vertices_in in
    record { kept = kept_all _ _; vertices = before.0; edges = before.1; triangles = holds_none _ _ _ }

pub store_triangle-requires : goal.store_triangle-requires
store_triangle-requires c = record {
  j_bound = omega arith;
  ready = record {
    known = c.requires.triangles_value;
    vertices = c.loop-j.invariant.vertices;
    behind = omega arith;
    room = omega (arith, c.requires.triangles_in_bounds);
  };
}

pub loop-j-preserved : goal.loop-j-preserved
loop-j-preserved c =
    let before = c.loop-j.invariant in
    let stored = c.store_triangle.ensures in
    record {
      kept = kept_more before.kept stored (omega arith) (omega arith);
      vertices = holds_kept before.vertices stored (omega arith);
      edges = holds_kept before.edges stored (omega arith);
      triangles = holds_more before.triangles refl stored;
    }

pub returns : goal.returns
returns c =
    let done = c.loop-j.invariant in
    λ w. record {
      boxed = record {
        vertices = done.vertices;
        edges = done.edges;
        triangles = holds_all (omega arith) done.triangles;
        room = omega (arith, c.requires.triangles_in_bounds, done.kept.same);
      };
      kept = kept_wider (omega arith) done.kept;
    }
