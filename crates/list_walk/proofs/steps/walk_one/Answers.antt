-- `series_laws::walk_one`: a pair that is listed is counted, and one that is not leaves everything as it is.
use borrow.Author.Rules.{rules}
use native.Mathlib.Omega.{arith}
use Rattle.scene_seams.specs.Alone.{tabled}
use Rattle.meaning.specs.Boxes.{listed}
use Rattle.meaning.specs.List.{pair}
use Rattle.list_entries.specs.UpTo.{walked_pair, walked_no_pair}
use Rattle.list_candidates.specs.Rows.{few_firsts, few_seconds}
use Rattle.list_walk.proofs.steps.walk_one.Goals as goal

pub is_listed-requires : goal.is_listed-requires
is_listed-requires c =
    let p = c.requires.prepared in
    (p.0.boxed, p.1, p.2)

pub put_below-requires : goal.put_below-requires
put_below-requires c =
    let start = c in
    let a = start.args in
    let s = tabled a.positions.now a.edges.now a.triangles.now a.stands.now in
    let accepted = start.requires.prepared.0.accepted in (
      start.requires.most_in_bounds.0,
      omega (arith, start.requires.prepared, few_firsts s a.kind accepted),
      omega (arith, start.requires.prepared, few_seconds s a.kind accepted),
    )

pub returns-then-is_listed : goal.returns-then-is_listed
returns-then-is_listed c =
    let start = c in
    let a = start.args in
    let s = tabled a.positions.now a.edges.now a.triangles.now a.stands.now in
    walked_pair (listed s a.kind a.i a.j) (pair a.kind a.i a.j) c.is_listed.ensures c.if-is_listed.true c.put_below.ensures

pub returns-else-is_listed : goal.returns-else-is_listed
returns-else-is_listed c =
    let start = c in
    let a = start.args in
    let s = tabled a.positions.now a.edges.now a.triangles.now a.stands.now in
    walked_no_pair (listed s a.kind a.i a.j) (pair a.kind a.i a.j) c.is_listed.ensures c.if-is_listed.false
