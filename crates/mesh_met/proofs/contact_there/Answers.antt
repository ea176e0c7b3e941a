-- `contact_there`: 16, then the stretch.
use mathlib.Core.Path.{sym, ◌∙◌}
use Rattle.scene_seams.specs.Alone.{tabled}
use Rattle.mesh_check_laws.specs.Facts.{mesh_sound_within}
use Rattle.mesh_met.specs.Meeting.{met_beyond, met_near}
use Rattle.mesh_met.proofs.contact_there.Goals as goal

pub returns-then-beyond_old_range : goal.returns-then-beyond_old_range
returns-then-beyond_old_range c =
    let a = c.args in
    rw c.from.ensures
    (met_beyond a.which (tabled a.positions.now a.edges.now a.triangles.now a.stands.now) a.first a.end a.list.now a.words.now a.contacts.now (sym c.beyond_old_range.ensures ∙ c.if-beyond_old_range.true))

pub contact_near-requires : goal.contact_near-requires
contact_near-requires c = let a = c.args in record { plantable = c.requires.plantable; orders_lent = c.requires.orders_lent; sound_within = mesh_sound_within {s = tabled a.positions.now a.edges.now a.triangles.now a.stands.now} c.requires.accepted_mesh (sym c.beyond_old_range.ensures ∙ c.if-beyond_old_range.false) }

pub returns : goal.returns
returns c =
    let a = c.args in
    met_near a.which (tabled a.positions.now a.edges.now a.triangles.now a.stands.now) a.first a.end a.list.now a.words.now a.contacts.now (sym c.beyond_old_range.ensures ∙ c.if-beyond_old_range.false) c.contact_near.ensures
