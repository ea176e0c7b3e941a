-- `keep_grown`: 7, or what was copied, or what was judged again.
use native.Mathlib.Omega.{arith}
use Rattle.scene_seams.specs.Alone.{tabled}
use Rattle.mesh_ordered.specs.Either.{lent_as}
use Rattle.mesh_keeping.specs.Kept.{kept_refused, kept_copied, kept_again}
use Rattle.mesh_keeping.proofs.keep_grown.Goals as goal

pub returns-then-room-counted : goal.returns-then-room-counted
returns-then-room-counted c =
    let a = c.args in
    kept_refused a.which a.wanted (tabled a.positions.now a.edges.now a.triangles.now a.stands.now) a.first a.end c.keep_own-counted.ensures c.if-room-counted.true

pub returns-then-counted-le-OWN_ENTRIES : goal.returns-then-counted-le-OWN_ENTRIES
returns-then-counted-le-OWN_ENTRIES c =
    let a = c.args in
    kept_copied a.which a.wanted (tabled a.positions.now a.edges.now a.triangles.now a.stands.now) a.first a.end c.keep_own-counted.ensures c.if-room-counted.false c.if-counted-le-OWN_ENTRIES.true

pub keep_into-kept-requires : goal.keep_into-kept-requires
keep_into-kept-requires c =
    let start = c in
    let places = c.places-1.given in record { forest = start.requires.forest; orders_lent = lent_as start.requires.orders_lent places; sound = (start.requires.sound.0, omega (arith, start.requires.sound.1, c.list-1.given), omega (arith, start.requires.sound.2, c.words-1.given)) }

pub returns : goal.returns
returns c =
    let start = c in
    let a = start.args in
    kept_again a.which a.wanted (tabled a.positions.now a.edges.now a.triangles.now a.stands.now) a.first a.end c.keep_own-counted.ensures c.if-room-counted.false c.if-counted-le-OWN_ENTRIES.false start.requires.sound.1 start.requires.sound.2 c.keep_into-kept.ensures
