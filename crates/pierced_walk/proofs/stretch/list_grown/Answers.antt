-- `list_grown`: counted, and entered where there is room.
use Rattle.scene_seams.specs.Alone.{tabled}
use Rattle.pierced_walk.specs.Stretching.{through_refused, through_none, through_listed}
use Rattle.pierced_walk.proofs.stretch.list_grown.Goals as goal

pub returns-then-room-count : goal.returns-then-room-count
returns-then-room-count c =
    let a = c.args in
    through_refused a.frame (tabled a.positions.now a.edges.now a.triangles.now a.stands.now) a.first a.end c.count_grown-count.ensures a.list.now a.room c.if-room-count.true

pub returns-then-count-eq0 : goal.returns-then-count-eq0
returns-then-count-eq0 c =
    let start = c in
    let a = start.args in
    through_none a.frame (tabled a.positions.now a.edges.now a.triangles.now a.stands.now) a.first a.end c.count_grown-count.ensures a.list.now a.room c.if-count-eq0.true start.requires.room_in_bounds

pub returns : goal.returns
returns c =
    let start = c in
    let a = start.args in
    through_listed a.frame (tabled a.positions.now a.edges.now a.triangles.now a.stands.now) a.first a.end c.count_grown-count.ensures a.list.now a.room c.if-room-count.false start.requires.room_in_bounds c.walk_edges.ensures
