-- `list_grown`: walked, and entered where there is room, from where the entries are held or by another walk.
use native.Mathlib.Omega.{arith}
use Rattle.meaning.specs.MeshRows.{rows_in, mesh_entries}
use Rattle.scene_seams.specs.Alone.{tabled}
use Rattle.mesh_entries.specs.Telling.{mesh_entries_length}
use Rattle.mesh_ordered.specs.Either.{lent_roomed, front_roomed, roomed_as}
use Rattle.mesh_stretch.specs.Stretching.{stretch_refused, stretch_listed, walked_list}
use Rattle.mesh_stretch.proofs.list_grown.Goals as goal

pub hold_rows-walked-requires : goal.hold_rows-walked-requires
hold_rows-walked-requires c = record { forest = c.requires.forest; orders_roomed = (front_roomed c.requires.orders_lent, omega (arith, c.requires.orders_lent.room)) }

pub returns-then-room-count : goal.returns-then-room-count
returns-then-room-count c =
    let a = c.args in
    let s = tabled a.positions.now a.edges.now a.triangles.now a.stands.now in
    stretch_refused a.which s a.first a.end a.room c.hold_rows-walked.ensures.counts a.list.now c.if-room-count.true

pub take_held-requires : goal.take_held-requires
take_held-requires c =
    let start = c in
    let a = start.args in
    let s = tabled a.positions.now a.edges.now a.triangles.now a.stands.now in
    let walked = c.hold_rows-walked.ensures in
    let long = mesh_entries_length (rows_in a.which s a.first a.end) in
    (omega (arith, walked.counts, (walked.holds c.if-walked.true).room), omega (arith, c.if-room-count.false, start.requires.room_in_bounds))

pub returns-then-walked : goal.returns-then-walked
returns-then-walked c =
    let a = c.args in
    let s = tabled a.positions.now a.edges.now a.triangles.now a.stands.now in
    let walked = c.hold_rows-walked.ensures in
    let long = mesh_entries_length (rows_in a.which s a.first a.end) in
    stretch_listed a.which s a.first a.end a.room walked.counts a.list.now c.if-room-count.false
    (c.take_held.ensures (mesh_entries (rows_in a.which s a.first a.end)) (omega (arith, walked.counts)) (walked.holds c.if-walked.true))

pub walk_ready-requires : goal.walk_ready-requires
walk_ready-requires c = record { forest = c.requires.forest; orders_roomed = (roomed_as (lent_roomed c.requires.orders_lent) c.hold_rows-walked.auto.places, c.requires.room_in_bounds) }

pub returns : goal.returns
returns c =
    let start = c in
    let a = start.args in
    let s = tabled a.positions.now a.edges.now a.triangles.now a.stands.now in
    let counted = c.hold_rows-walked.ensures.counts in
    let fits = c.if-room-count.false in
    stretch_listed a.which s a.first a.end a.room counted a.list.now fits
    (walked_list (rows_in a.which s a.first a.end) (omega arith) start.requires.room_in_bounds c.walk_ready.ensures)
