-- 12 for the box buffer, then what the import answers, with the boxes of the scene that it left in front.
use borrow.Author.Tests.{lt-ltb, le-ltb}
use Rattle.std.proofs.lemmas.Result.{err_from_is_err_and}
use Rattle.stored_reading.specs.Importing.{boxed_short, boxed_refused, import_in_front, import_drawn, boxed_read}
use Rattle.stored_reading.proofs.import_scene.Goals as goal

pub returns-then-boxes-lt-BOX_NUMBERS : goal.returns-then-boxes-lt-BOX_NUMBERS
returns-then-boxes-lt-BOX_NUMBERS c = boxed_short _ _ _ _ (lt-ltb _ _ c.if-boxes-lt-BOX_NUMBERS.true)

pub fill_front-requires : goal.fill_front-requires
fill_front-requires c =
    let enough = c.if-boxes-lt-BOX_NUMBERS.false in
    let brought = c.import_plain.ensures in
    let so = c.in_ok-counts.was in record { in_front = import_in_front brought so; drawn = (import_drawn brought so, enough) }

pub returns : goal.returns
returns c = boxed_read _ _ _ _ (le-ltb _ _ c.if-boxes-lt-BOX_NUMBERS.false) c.import_plain.ensures c.in_ok-counts.was c.fill_front.ensures

pub returns-in_err-counts : goal.returns-in_err-counts
returns-in_err-counts c =
    let (y, is, same) = err_from_is_err_and c.from_residual.result c.from_residual.ensures.1 in
    rw (is, same) (boxed_refused _ _ _ _ (le-ltb _ _ c.if-boxes-lt-BOX_NUMBERS.false) c.import_plain.ensures c.in_err-counts.was)
