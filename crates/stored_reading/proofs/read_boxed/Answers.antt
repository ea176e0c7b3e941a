-- `stored_reading::read_boxed` meets its contract: each return is right by the tests and the reading that led to it.
use borrow.Author.Tests.{lt-ltb, le-ltb}
use Rattle.std.proofs.lemmas.Result.{err_from_is_err_and}
use Rattle.meaning.specs.Scene.{scene_of}
use Rattle.stored_reading.specs.Reading.{read_in_front, read_drawn, boxed_short, boxed_refused, boxed_given}
use Rattle.stored_reading.proofs.read_boxed.Goals as goal

pub returns-then-boxes-lt-BOX_NUMBERS : goal.returns-then-boxes-lt-BOX_NUMBERS
returns-then-boxes-lt-BOX_NUMBERS c =
    let a = c.args in
    rw c.from.ensures (boxed_short a.text.now (scene_of a.positions.now a.edges.now a.triangles.now a.seams.now) a.boxes.now (lt-ltb _ _ c.if-boxes-lt-BOX_NUMBERS.true))

pub fill_front-requires : goal.fill_front-requires
fill_front-requires c =
    let read = c.read_scene.ensures in
    let so = c.in_ok-counts.was in record { in_front = read_in_front read so; drawn = (read_drawn read so, c.if-boxes-lt-BOX_NUMBERS.false) }

pub returns-in_err-counts : goal.returns-in_err-counts
returns-in_err-counts c =
    let a = c.args in
    let (y, is, same) = err_from_is_err_and c.from_residual.result c.from_residual.ensures.1 in
    rw (is, same)
    (boxed_refused a.text.now (scene_of a.positions.now a.edges.now a.triangles.now a.seams.now) a.boxes.now (le-ltb _ _ c.if-boxes-lt-BOX_NUMBERS.false)
    c.read_scene.ensures c.in_err-counts.was)

pub returns : goal.returns
returns c =
    let a = c.args in
    boxed_given a.text.now (scene_of a.positions.now a.edges.now a.triangles.now a.seams.now) a.boxes.now (le-ltb _ _ c.if-boxes-lt-BOX_NUMBERS.false)
    c.read_scene.ensures c.in_ok-counts.was c.fill_front.ensures
