use Rattle.exact.specs.Minors.{minors_small, standing_first, standing_last}
use Rattle.exact.specs.Volumes.{held_small, held_in_turn}
use Rattle.exact.proofs.volumes_with.Goals as goal

pub volume_with-e0-requires : goal.volume_with-e0-requires
volume_with-e0-requires c = (c.requires.rooms.0.room1, minors_small c.requires.minors_of.1, c.requires.rooms.1)

pub volume_with-e1-requires : goal.volume_with-e1-requires
volume_with-e1-requires c = (c.requires.rooms.0.room0, minors_small c.requires.minors_of.1, c.requires.rooms.1)

pub volume_with-e2-requires : goal.volume_with-e2-requires
volume_with-e2-requires c = (c.requires.rooms.0.room3, minors_small c.requires.minors_of.0, c.requires.rooms.1)

pub volume_with-e3-requires : goal.volume_with-e3-requires
volume_with-e3-requires c = (c.requires.rooms.0.room2, minors_small c.requires.minors_of.0, c.requires.rooms.1)

pub in_turn-requires : goal.in_turn-requires
in_turn-requires c =
    let m = c.requires.minors_of in
    held_small (standing_first c.volume_with-e0.ensures m.1)
    (standing_first c.volume_with-e1.ensures m.1)
    (standing_last c.volume_with-e2.ensures m.0)
    (standing_last c.volume_with-e3.ensures m.0)

pub returns : goal.returns
returns c =
    let m = c.requires.minors_of in
    held_in_turn (standing_first c.volume_with-e0.ensures m.1)
    (standing_first c.volume_with-e1.ensures m.1)
    (standing_last c.volume_with-e2.ensures m.0)
    (standing_last c.volume_with-e3.ensures m.0)
    c.in_turn.ensures
