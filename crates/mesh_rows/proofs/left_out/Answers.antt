-- `left_out`: by the choice of rows.
use borrow.Author.Rules.{rules}
use Rattle.scene_seams.specs.Table.{seams_of}
use Rattle.mesh_rows.specs.Asking.{left_out}
use Rattle.mesh_rows.proofs.left_out.Goals as goal

pub returns-in-Listed : goal.returns-in-Listed
unfolding left_out
returns-in-Listed c = rw c.in-Listed.is

pub returns-in-Near : goal.returns-in-Near
unfolding left_out
returns-in-Near c =
    let a = c.args in
    rw c.in-Near.is (c.is_far.ensures (seams_of a.stands.now))
