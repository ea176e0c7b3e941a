-- `is_through`: found first.
use Rattle.scene_seams.specs.Alone.{tabled}
use Rattle.pierced_walk.specs.Rows.{found_passes, none_found}
use Rattle.pierced_walk.proofs.asked.is_through.Goals as goal

pub is_pierced-requires : goal.is_pierced-requires
is_pierced-requires c = let start = c in (start.requires.0, start.requires.1, start.requires.2 c.if-found.true)

pub returns-then-found : goal.returns-then-found
returns-then-found c =
    let a = c.args in
    found_passes a.frame (tabled a.positions.now a.edges.now a.triangles.now a.stands.now) a.i a.j c.if-found.true c.is_pierced.ensures

pub returns-else-found : goal.returns-else-found
returns-else-found c =
    let a = c.args in
    none_found a.frame (tabled a.positions.now a.edges.now a.triangles.now a.stands.now) a.i a.j c.if-found.false
