use mathlib.Core.Path.{sym, subst}
use Rattle.meaning.specs.Scene.{Scene}
use Rattle.scene_seams.specs.Alone.{tabled}
use Rattle.scene_checks.specs.Facts.{accepted_sound}
use Rattle.corner_leaf.specs.Points.{SixIn}
use Rattle.four_words.specs.Six.{six_in}
use Rattle.four_words.specs.Words.{none_before, one_more, touch_found, none_found}
use Rattle.four_words.specs.Singular.{told_touch, told_none}
use Rattle.four_words.proofs.accepted.some_piece_touches.Goals as goal

pub piece_touches-requires : goal.piece_touches-requires
piece_touches-requires c =
    let a = c.args in
    let s : Scene = tabled a.positions.now a.edges.now a.triangles.now a.stands.now in
    subst (SixIn a.positions.now) (sym c.six_of-six.ensures) (six_in s (accepted_sound c.requires.0) a.kind a.i a.j _ c.requires.1)

pub returns-then-piece_touches : goal.returns-then-piece_touches
returns-then-piece_touches c =
    let a = c.args in
    let s : Scene = tabled a.positions.now a.edges.now a.triangles.now a.stands.now in
    touch_found s a.kind a.i a.j c.piece_count-k-end.ensures _ c.loop-k-test.true
    (told_touch s a.kind a.i a.j _ c.six_of-six.ensures _ c.piece_touches.ensures c.if-piece_touches.true c.requires.2)

pub loop-k-preserved : goal.loop-k-preserved
loop-k-preserved c =
    let a = c.args in
    let s : Scene = tabled a.positions.now a.edges.now a.triangles.now a.stands.now in
    one_more s a.kind a.i a.j c.loop-k.invariant
    (told_none s a.kind a.i a.j _ c.six_of-six.ensures _ c.piece_touches.ensures c.if-piece_touches.false)

pub loop-k-init : goal.loop-k-init
loop-k-init c = none_before _ _ _ _

pub returns : goal.returns
returns c = none_found _ _ _ _ c.piece_count-k-end.ensures _ c.loop-k-test.false c.loop-k.invariant
