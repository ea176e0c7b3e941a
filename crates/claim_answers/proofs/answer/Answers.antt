-- The six points are the piece's, and the weights those in the buffer.
use Rattle.scene_seams.specs.Alone.{tabled}
use Rattle.claim_answers.specs.Weighing.{points_in, points_answer}
use Rattle.claim_answers.proofs.answer.Goals as goal

pub borne_out-requires : goal.borne_out-requires
borne_out-requires c =
    let six = c in
    let start = six in
    let a = start.args in
    points_in (tabled a.positions.now a.edges.now a.triangles.now a.stands.now) a.kind _ _ _ six.six_of-six.ensures start.requires.accepted start.requires.numbers_value

pub returns : goal.returns
returns c =
    let six = c in
    let start = six in
    let a = start.args in
    points_answer (tabled a.positions.now a.edges.now a.triangles.now a.stands.now) a.kind _ _ _ six.six_of-six.ensures _ _ c.borne_out.ensures
