-- `lent_short`: one of the three is.
use Prim.Native.Nat.{◌+◌, ◌*◌}
use mathlib.Core.Path.{refl}
use lib.ListN.{length}
use Rattle.meaning.specs.MeshRows.{lent_of}
use Rattle.meaning.specs.Scene.{scene_of}
use Rattle.mesh_asked.specs.Asking.{all_short}
use Rattle.mesh_asked.proofs.lent_short.Goals as goal

pub returns : goal.returns
returns c =
    let a = c.args in
    let edges = c.edge_count.ensures in
    let triangles = c.triangle_count.ensures in
    all_short (scene_of a.positions.now a.edges.now a.triangles.now a.seams.now)
    (lent_of a.edge_order.now a.triangle_order.now (length a.table.now) a.places a.boxes)
    a.table.now refl c.table_short-short.ensures
    (λ t. edges t + triangles t + 2 * (length a.edge_order.now + length a.triangle_order.now))
    c.scratch_room.ensures
