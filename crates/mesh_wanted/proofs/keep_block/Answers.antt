-- `keep_block`: the rows' entries are listed and judged, or the rows are judged alone.
use native.Mathlib.Omega.{arith}
use Rattle.scene_seams.specs.Alone.{tabled}
use Rattle.meaning.specs.MeshRows.{rows_in}
use Rattle.mesh_entries.specs.Telling.{mesh_entries_length}
use Rattle.mesh_ordered.specs.Either.{lent_as, lent_roomed}
use Rattle.mesh_keep.specs.Keeping.{kept_as}
use Rattle.mesh_wanted.specs.Stretch.{forest_sized, block_of, block_pairs}
use Rattle.mesh_wanted.proofs.keep_block.Goals as goal

pub walk_ready-count-requires : goal.walk_ready-count-requires
walk_ready-count-requires c = record { forest = c.requires.forest; orders_roomed = (lent_roomed c.requires.orders_lent, c.requires.in_bounds) }

pub keep_entries-requires : goal.keep_entries-requires
keep_entries-requires c =
    let a = c.args in
    let sound = c.requires.sound in
    let s = tabled a.positions.now a.edges.now a.triangles.now a.stands.now in
    let walked = c.walk_ready-count.ensures in record { sound = (sound.0, block_of a.which s (forest_sized c.requires.forest.0) a.first a.end c.requires.forest.2 walked c.if-count-le-BLOCK_PAIRS.true c.requires.in_bounds); most_in_bounds = (sound.1, sound.2, omega (arith, sound.3, walked.counts, mesh_entries_length (rows_in a.which s a.first a.end))) }

pub keep_alone-requires : goal.keep_alone-requires
keep_alone-requires c = record { forest = (c.requires.forest.0, c.requires.forest.1, c.requires.forest.2); orders_lent = lent_as c.requires.orders_lent (omega arith); sound = c.requires.sound }

pub returns-then-count-le-BLOCK_PAIRS : goal.returns-then-count-le-BLOCK_PAIRS
returns-then-count-le-BLOCK_PAIRS c =
    let a = c.args in
    let s = tabled a.positions.now a.edges.now a.triangles.now a.stands.now in
    kept_as (block_pairs a.which s (forest_sized c.requires.forest.0) a.first a.end c.requires.forest.2 c.walk_ready-count.ensures c.if-count-le-BLOCK_PAIRS.true c.requires.in_bounds) c.keep_entries.ensures

pub returns-else-count-le-BLOCK_PAIRS : goal.returns-else-count-le-BLOCK_PAIRS
returns-else-count-le-BLOCK_PAIRS c = c.keep_alone.ensures
