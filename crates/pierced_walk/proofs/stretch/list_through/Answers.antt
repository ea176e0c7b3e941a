-- `list_through`: what was planted is what the walks go by.
use Rattle.scene_seams.specs.Table.{seams_of}
use Rattle.pierced_walk.proofs.stretch.list_through.Goals as goal

pub list_grown-requires : goal.list_grown-requires
list_grown-requires c =
    let start = c in
    let pre = start.requires.plantable in record { grove = (c.plant_at-top.ensures (seams_of start.args.stands.now), pre.1, pre.2, pre.3); room_in_bounds = start.requires.room_in_bounds }
