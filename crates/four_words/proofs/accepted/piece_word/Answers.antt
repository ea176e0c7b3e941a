use Rattle.scene_seams.specs.Alone.{tabled}
use Rattle.scene_checks.specs.Facts.{accepted_sound}
use Rattle.four_words.specs.Six.{asked, settled}
use Rattle.four_words.proofs.accepted.piece_word.Goals as goal

pub settle_piece-requires : goal.settle_piece-requires
settle_piece-requires c =
    let a = c.args in
    let p = c.requires in
    asked (tabled a.positions.now a.edges.now a.triangles.now a.stands.now) a.kind a.i a.j a.k _ c.six_of-six.ensures (accepted_sound p.0) p.1 _ p.2

pub returns : goal.returns
returns c =
    let a = c.args in
    settled (tabled a.positions.now a.edges.now a.triangles.now a.stands.now) a.kind a.i a.j a.k _ c.six_of-six.ensures _ c.settle_piece.ensures
