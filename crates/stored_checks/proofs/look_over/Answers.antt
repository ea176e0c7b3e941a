use Rattle.meaning.specs.Scene.{scene_of}
use Rattle.stored_checks.specs.Looked.{stale_told}
use Rattle.stored_checks.proofs.look_over.Goals as goal

pub returns : goal.returns
returns c w =
    let a = c.args in
    rw (c.refused_if.ensures, c.stale_box-stale.ensures w)
    (stale_told (scene_of a.positions.now a.edges.now a.triangles.now w) a.stored.now)
