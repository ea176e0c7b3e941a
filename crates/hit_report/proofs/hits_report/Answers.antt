use Rattle.meaning.specs.Scene.{Scene}
use Rattle.scene_seams.specs.Alone.{tabled}
use Rattle.hit_report.specs.Lines.{whole_told}
use Rattle.hit_report.proofs.hits_report.Goals as goal

pub returns : goal.returns
returns c =
    let start = c in
    let s : Scene = tabled start.args.positions.now start.args.edges.now start.args.triangles.now start.args.stands.now in
    let lines = c.hit_lines-lines.ensures in
    whole_told s start.requires.2 lines.2 lines.0 c.contact_total.ensures
