-- `plant_at`: the tree has room behind the boxes.
use borrow.Author.Rules.{rules}
use native.Mathlib.Omega.{arith}
use Rattle.meaning.specs.Scene.{scene_of}
use Rattle.frame_boxes.specs.Grove.{grove_planted, other_seams}
use Rattle.frame_boxes.proofs.plant_at.Goals as goal

pub returns : goal.returns
returns c =
    λ w.
    let start = c in
    let a = start.args in
    let s = scene_of a.positions.now a.edges.now a.triangles.now w in
    grove_planted a.frame s (other_seams w start.requires.0) start.requires.1
    (omega (arith, c.vertex_count.ensures, c.edge_count.ensures))
    c.triangle_count-faces.ensures
    (omega (arith, c.vertex_count.ensures, c.edge_count.ensures, c.triangle_count-faces.ensures))
    (c.fill_at.ensures w)
    c.grow.ensures
