-- `keep_into`: judged from nothing on.
use native.Mathlib.Omega.{arith}
use mathlib.Core.Path.{ap}
use Rattle.mesh_keep.specs.declared.Going.{Going}
use Rattle.mesh_wanted.specs.Stretch.{forest_sized}
use Rattle.scene_seams.specs.Alone.{tabled}
use Rattle.mesh_judged.specs.Judged.{judged_into}
use Rattle.mesh_judged.proofs.keep_into.Goals as goal

pub keep_stretch-going-requires : goal.keep_stretch-going-requires
keep_stretch-going-requires c = let start = c in record { forest = start.requires.forest; orders_lent = start.requires.orders_lent; sound = (start.requires.sound.0, start.requires.sound.1, start.requires.sound.2, omega (arith, ap (λ (g : Going). g.count) c.none_yet-start.ensures)) }

pub returns : goal.returns
returns c =
    let start = c in
    let a = start.args in
    judged_into a.which a.wanted (tabled a.positions.now a.edges.now a.triangles.now a.stands.now) a.first a.end c.none_yet-start.ensures c.keep_stretch-going.ensures c.told.ensures (forest_sized start.requires.forest.0) start.requires.forest.2
