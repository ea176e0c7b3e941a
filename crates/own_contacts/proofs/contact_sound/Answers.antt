-- `contact_sound`: beyond the old range, or without room, or each entry is met.
use mathlib.Core.Path.{sym, ◌∙◌}
use native.Mathlib.Omega.{arith}
use Rattle.contact_pair.specs.Ready.{within_old}
use Rattle.own_contacts.specs.Answering.{sound_beyond, sound_no_room, sound_met}
use Rattle.own_contacts.proofs.contact_sound.Goals as goal

pub returns-then-beyond_old_range : goal.returns-then-beyond_old_range
returns-then-beyond_old_range c = rw c.from.ensures (sound_beyond _ _ _ _ (sym c.beyond_old_range.ensures ∙ c.if-beyond_old_range.true))

pub returns-then-room-count : goal.returns-then-room-count
returns-then-room-count c =
    sound_no_room _ _ _ _ (sym c.beyond_old_range.ensures ∙ c.if-beyond_old_range.false)
    (rw (sym c.min-room.ensures) c.if-room-count.true)

pub contact_entries-requires : goal.contact_entries-requires
contact_entries-requires c =
    let p = c.requires in (
      within_old p.0 (sym c.beyond_old_range.ensures ∙ c.if-beyond_old_range.false),
      omega arith,
      p.1,
      omega (arith, c.min-room.ensures, c.if-room-count.false),
      omega (arith, c.min-room.ensures, c.if-room-count.false),
    )

pub returns : goal.returns
returns c =
    sound_met _ _ _ _ (sym c.beyond_old_range.ensures ∙ c.if-beyond_old_range.false)
    (rw (sym c.min-room.ensures) c.if-room-count.false)
    c.contact_entries.ensures.0 c.contact_entries.ensures.1
