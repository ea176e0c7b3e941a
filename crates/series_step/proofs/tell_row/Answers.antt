use mathlib.Core.Path.{refl}
use Rattle.scene_seams.specs.Alone.{tabled}
use Rattle.series_step.specs.Rows.{row_buffered, bytes_room, buffered_told}
use Rattle.series_step.proofs.tell_row.Goals as goal

pub settle_entries-requires : goal.settle_entries-requires
settle_entries-requires c =
    let start = c in
    let a = start.args in
    let s = tabled a.positions.now a.edges.now a.triangles.now a.stands.now in
    let b = row_buffered s a.kind a.i start.requires.0.accepted start.requires.1 c.walk_row-walk.ensures.0 refl in
    (start.requires.0.accepted, b.room, b.there, b.few)

pub tell_words-requires : goal.tell_words-requires
tell_words-requires c =
    let start = c in
    let a = start.args in
    let s = tabled a.positions.now a.edges.now a.triangles.now a.stands.now in
    let b = row_buffered s a.kind a.i start.requires.0.accepted start.requires.1 c.walk_row-walk.ensures.0 refl in
    (b.room, bytes_room s _ _ _ _ b.room b.few c.settle_entries.ensures)

pub returns : goal.returns
returns c =
    let start = c in
    let a = start.args in
    let s = tabled a.positions.now a.edges.now a.triangles.now a.stands.now in
    let b = row_buffered s a.kind a.i start.requires.0.accepted start.requires.1 c.walk_row-walk.ensures.0 refl in
    buffered_told _ _ b c.settle_entries.ensures c.tell_words.ensures
