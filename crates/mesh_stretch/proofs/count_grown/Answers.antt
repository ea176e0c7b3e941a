-- `count_grown`: a walk that enters none counts all.
use native.Mathlib.Omega.{arith}
use Rattle.meaning.specs.MeshRows.{rows_in}
use Rattle.scene_seams.specs.Alone.{tabled}
use Rattle.mesh_ordered.specs.Either.{lent_roomed}
use Rattle.mesh_stretch.specs.Stretching.{walked_count}
use Rattle.mesh_stretch.proofs.count_grown.Goals as goal

pub walk_ready-requires : goal.walk_ready-requires
walk_ready-requires c = record { forest = c.requires.forest; orders_roomed = (lent_roomed c.requires.orders_lent, omega arith) }

pub returns : goal.returns
returns c =
    let a = c.args in
    walked_count (rows_in a.which (tabled a.positions.now a.edges.now a.triangles.now a.stands.now) a.first a.end) c.walk_ready.ensures
