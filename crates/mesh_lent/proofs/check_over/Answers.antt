-- `check_over`: a blanked list is a table without seams.
use Rattle.meaning.specs.Scene.{scene_of}
use Rattle.mesh_lent.specs.Answering.{room_for, mesh_sewn}
use Rattle.mesh_lent.proofs.check_over.Goals as goal

pub check_mesh_into-requires : goal.check_mesh_into-requires
check_mesh_into-requires c =
    let a = c.args in
    rw c.blank.ensures (room_for (scene_of a.positions.now a.edges.now a.triangles.now a.seams.now) a.table.now c.requires)

pub returns : goal.returns
returns c =
    let a = c.args in
    mesh_sewn (scene_of a.positions.now a.edges.now a.triangles.now a.seams.now) c.check_mesh_into.ensures
