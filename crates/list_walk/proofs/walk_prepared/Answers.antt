-- `walk_prepared`: the rows of points and triangles, then those of edges.
use borrow.Author.Rules.{rules}
use native.Mathlib.Omega.{arith}
use mathlib.Core.Path.{◌∙◌}
use Rattle.scene_seams.specs.Alone.{tabled}
use Rattle.meaning.specs.declared.Kind.TheVariants.{PointTriangle, EdgeEdge}
use Rattle.list_entries.proofs.UpTo.{walked_then, walked_length}
use Rattle.list_candidates.specs.Rows.{rows_of, rows_short, pairs_rows}
use Rattle.list_walk.specs.Testing.{point_rows}
use Rattle.list_walk.proofs.walk_prepared.Goals as goal

pub walk_rows-all-requires : goal.walk_rows-all-requires
walk_rows-all-requires c =
    let start = c in
    let s = tabled start.args.positions.now start.args.edges.now start.args.triangles.now start.args.stands.now in
    let done = c.walk_rows-points.ensures.0 in record { prepared = start.requires.0; most_in_bounds = (omega (arith, start.requires.1, walked_length done), omega (arith, done.counts, rows_short s PointTriangle start.requires.0.accepted)) }

pub returns : goal.returns
returns c =
    let start = c in
    let s = tabled start.args.positions.now start.args.edges.now start.args.triangles.now start.args.stands.now in
    let points = c.walk_rows-points.ensures in (
      rw (pairs_rows s) (walked_then {ps = rows_of s PointTriangle} {qs = rows_of s EdgeEdge} points.0 c.walk_rows-all.ensures.0),
      points.1 ∙ point_rows s,
    )
