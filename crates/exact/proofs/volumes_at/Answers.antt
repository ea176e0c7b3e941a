use Rattle.exact.proofs.volumes_at.Goals as goal

pub minors_at-former-requires : goal.minors_at-former-requires
minors_at-former-requires c = let p = c.requires in (p.0.room0, p.0.room1, p.1)

pub minors_at-latter-requires : goal.minors_at-latter-requires
minors_at-latter-requires c = let p = c.requires in (p.0.room2, p.0.room3, p.1)

pub volumes_with-requires : goal.volumes_with-requires
volumes_with-requires c = let p = c.requires in record { rooms = (p.0, p.1); minors_of = (c.minors_at-former.ensures, c.minors_at-latter.ensures) }

pub returns : goal.returns
returns c = c.volumes_with.ensures
