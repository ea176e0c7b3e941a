-- `keep_own`: judged into one's own arrays, and copied where all that are kept fit there and into the lent lists.
use native.Mathlib.Omega.{arith}
use Rattle.scene_seams.specs.Alone.{tabled}
use Rattle.mesh_entries.specs.Entering.{entered_length}
use Rattle.mesh_judged.specs.Judged.{own_copied, own_left}
use Rattle.mesh_judged.proofs.keep_own.Goals as goal

pub keep_into-counted-requires : goal.keep_into-counted-requires
keep_into-counted-requires c = let start = c in record { forest = start.requires.forest; orders_lent = start.requires.orders_lent; sound = (start.requires.sound.0, omega arith, omega arith) }

pub copy_kept-requires : goal.copy_kept-requires
copy_kept-requires c =
    let start = c in
    let fits = c.min.ensures in
    let few = c.if-counted-min.true in
    let long = entered_length c.keep_into-counted.ensures.list in
    let wide = entered_length c.keep_into-counted.ensures.bytes in
    (omega (arith, fits, few, long), omega (arith, fits, few, wide), omega (arith, fits, few, start.requires.sound.1), omega (arith, fits, few, start.requires.sound.2))

pub returns-then-counted-min : goal.returns-then-counted-min
returns-then-counted-min c =
    let a = c.args in
    own_copied a.which a.wanted (tabled a.positions.now a.edges.now a.triangles.now a.stands.now) a.first a.end c.keep_into-counted.ensures c.min.ensures a.list.now a.words.now (omega arith) (omega arith) c.if-counted-min.true c.copy_kept.ensures.0 c.copy_kept.ensures.1

pub returns-else-counted-min : goal.returns-else-counted-min
returns-else-counted-min c =
    let a = c.args in
    own_left a.which a.wanted (tabled a.positions.now a.edges.now a.triangles.now a.stands.now) a.first a.end c.keep_into-counted.ensures c.min.ensures a.list.now a.words.now c.if-counted-min.false
