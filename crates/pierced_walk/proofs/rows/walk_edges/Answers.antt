use native.Mathlib.Omega.{arith}
use mathlib.Core.Path.{◌≡◌}
use Rattle.scene_seams.specs.Alone.{tabled}
use Rattle.mesh_entries.specs.Entering.{up_to_starts, up_to_next, entered_length}
use Rattle.through_laws.specs.Listing.{rows_few}
use Rattle.pierced_walk.specs.Rows.{edge_row_lem}
use Rattle.pierced_walk.proofs.rows.walk_edges.Goals as goal

pub loop-i-init : goal.loop-i-init
loop-i-init c = up_to_starts _ _ _ _

pub walk_edge-k-requires : goal.walk_edge-k-requires
walk_edge-k-requires c =
    let start = c in
    let a = start.args in
    let s = tabled a.positions.now a.edges.now a.triangles.now a.stands.now in
    let loop = c.loop-i in
    let below = c.loop-i-test.true in
    let grove = start.requires.grove.0 in
    let few = rows_few a.frame s a.first loop.i grove.few_triangles (omega (arith, start.requires.grove.3, grove.few_edges)) in
    record {
      edge_row = edge_row_lem grove start.requires.grove.1 loop.i _ _ (omega (arith, start.requires.grove.3)) (omega (arith, c.vertex_count-vertices.ensures)) c.triangle_count-parts.ensures;
      most_in_bounds = (omega (arith, start.requires.most_in_bounds, entered_length loop.invariant.done), omega (arith, loop.invariant.done.counts));
    }

pub loop-i-preserved : goal.loop-i-preserved
loop-i-preserved c = up_to_next _ c.loop-i.invariant c.walk_edge-k.ensures

pub returns : goal.returns
returns c =
    let loop = c.loop-i in
    let all : loop.i ≡ c.args.end = omega (arith, c.loop-i-test.false, loop.auto.i-end c.requires.grove.2) in
    rw all at loop.invariant.done
