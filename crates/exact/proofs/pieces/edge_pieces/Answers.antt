use borrow.Author.Rules.{rules}
use Rattle.exact.specs.Shared.{at_start_lem, at_end_lem}
use Rattle.exact.proofs.pieces.edge_pieces.Goals as goal

pub minors_at-rg-requires : goal.minors_at-rg-requires
minors_at-rg-requires c = let p = c.requires in (at_start_lem p.1 p.0, at_start_lem p.2 p.0, p.4)

pub minors_at-sg-requires : goal.minors_at-sg-requires
minors_at-sg-requires c = let p = c.requires in (at_end_lem p.0 p.1, at_start_lem p.2 p.0, p.4)

pub minors_at-hl-requires : goal.minors_at-hl-requires
minors_at-hl-requires c = let p = c.requires in (at_start_lem p.3 p.0, at_end_lem p.3 p.1, p.4)

pub minors_at-kl-requires : goal.minors_at-kl-requires
minors_at-kl-requires c = let p = c.requires in (at_end_lem p.2 p.1, at_end_lem p.3 p.1, p.4)

pub volumes_with-aa-requires : goal.volumes_with-aa-requires
volumes_with-aa-requires c = let p = c.requires in record { rooms = (record { room0 = at_start_lem p.1 p.0; room1 = at_start_lem p.2 p.0; room2 = at_start_lem p.3 p.0; room3 = at_end_lem p.3 p.1 }, p.4); minors_of = (c.minors_at-rg.ensures, c.minors_at-hl.ensures) }

pub volumes_with-ab-requires : goal.volumes_with-ab-requires
volumes_with-ab-requires c = let p = c.requires in record { rooms = (record { room0 = at_start_lem p.1 p.0; room1 = at_start_lem p.2 p.0; room2 = at_end_lem p.2 p.1; room3 = at_end_lem p.3 p.1 }, p.4); minors_of = (c.minors_at-rg.ensures, c.minors_at-kl.ensures) }

pub volumes_with-ba-requires : goal.volumes_with-ba-requires
volumes_with-ba-requires c = let p = c.requires in record { rooms = (record { room0 = at_end_lem p.0 p.1; room1 = at_start_lem p.2 p.0; room2 = at_start_lem p.3 p.0; room3 = at_end_lem p.3 p.1 }, p.4); minors_of = (c.minors_at-sg.ensures, c.minors_at-hl.ensures) }

pub volumes_with-bb-requires : goal.volumes_with-bb-requires
volumes_with-bb-requires c = let p = c.requires in record { rooms = (record { room0 = at_end_lem p.0 p.1; room1 = at_start_lem p.2 p.0; room2 = at_end_lem p.2 p.1; room3 = at_end_lem p.3 p.1 }, p.4); minors_of = (c.minors_at-sg.ensures, c.minors_at-kl.ensures) }

pub returns : goal.returns
returns c = record { holds0 = c.volumes_with-aa.ensures; holds1 = c.volumes_with-ab.ensures; holds2 = c.volumes_with-ba.ensures; holds3 = c.volumes_with-bb.ensures }
