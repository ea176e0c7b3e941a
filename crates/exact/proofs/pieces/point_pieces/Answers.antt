use borrow.Author.Rules.{rules}
use Rattle.exact.specs.Shared.{at_start_lem, at_end_lem}
use Rattle.exact.proofs.pieces.point_pieces.Goals as goal

pub minors_at-ab-requires : goal.minors_at-ab-requires
minors_at-ab-requires c = let p = c.requires in (at_start_lem p.1 p.0, at_start_lem p.2 p.0, p.4)

pub minors_at-ad-requires : goal.minors_at-ad-requires
minors_at-ad-requires c = let p = c.requires in (at_start_lem p.1 p.0, at_end_lem p.1 p.0, p.4)

pub minors_at-cf-requires : goal.minors_at-cf-requires
minors_at-cf-requires c = let p = c.requires in (at_start_lem p.3 p.0, at_end_lem p.3 p.0, p.4)

pub minors_at-ef-requires : goal.minors_at-ef-requires
minors_at-ef-requires c = let p = c.requires in (at_end_lem p.2 p.0, at_end_lem p.3 p.0, p.4)

pub volumes_with-first-requires : goal.volumes_with-first-requires
volumes_with-first-requires c = let p = c.requires in record { rooms = (record { room0 = at_start_lem p.1 p.0; room1 = at_start_lem p.2 p.0; room2 = at_start_lem p.3 p.0; room3 = at_end_lem p.3 p.0 }, p.4); minors_of = (c.minors_at-ab.ensures, c.minors_at-cf.ensures) }

pub volumes_with-second-requires : goal.volumes_with-second-requires
volumes_with-second-requires c = let p = c.requires in record { rooms = (record { room0 = at_start_lem p.1 p.0; room1 = at_start_lem p.2 p.0; room2 = at_end_lem p.2 p.0; room3 = at_end_lem p.3 p.0 }, p.4); minors_of = (c.minors_at-ab.ensures, c.minors_at-ef.ensures) }

pub volumes_with-third-requires : goal.volumes_with-third-requires
volumes_with-third-requires c = let p = c.requires in record { rooms = (record { room0 = at_start_lem p.1 p.0; room1 = at_end_lem p.1 p.0; room2 = at_end_lem p.2 p.0; room3 = at_end_lem p.3 p.0 }, p.4); minors_of = (c.minors_at-ad.ensures, c.minors_at-ef.ensures) }

pub returns : goal.returns
returns c = record { holds0 = c.volumes_with-first.ensures; holds1 = c.volumes_with-second.ensures; holds2 = c.volumes_with-third.ensures }
