-- The starts decide where all vertices rest, else the pieces.
use mathlib.Core.Path.{sym, subst}
use Rattle.meaning.specs.Scene.{Scene}
use Rattle.scene_seams.specs.Alone.{tabled}
use Rattle.scene_checks.specs.Facts.{accepted_sound}
use Rattle.corner_leaf.specs.Points.{SixIn}
use Rattle.four_words.specs.Six.{six_in}
use Rattle.four_words.specs.Rests.{starts_said}
use Rattle.four_words.proofs.accepted.touches.Goals as goal

pub starts_touch-requires : goal.starts_touch-requires
starts_touch-requires c =
    let b = c in
    let a = b.args in
    let s : Scene = tabled a.positions.now a.edges.now a.triangles.now a.stands.now in
    subst (SixIn a.positions.now) (sym c.six_of-six.ensures) (six_in s (accepted_sound b.requires.0) a.kind a.i a.j 0 b.requires.1)

pub returns-then-pair_rests : goal.returns-then-pair_rests
returns-then-pair_rests c =
    let b = c in
    let a = b.args in
    let s : Scene = tabled a.positions.now a.edges.now a.triangles.now a.stands.now in
    starts_said s a.kind a.i a.j b.requires.2 c.pair_rests.ensures c.if-pair_rests.true c.six_of-six.ensures _ c.starts_touch.ensures
