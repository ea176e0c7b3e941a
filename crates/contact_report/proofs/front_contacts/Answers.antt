use native.Mathlib.Omega.{arith}
use mathlib.Core.Path.{sym}
use lib.Seq.{length-take-le}
use Rattle.contact_report.specs.ReadSoFar.{contacts_of_whole, contacts_of_full}
use Rattle.contact_report.proofs.front_contacts.Goals as goal

pub slice_bounds-write_contacts-end : goal.slice_bounds-write_contacts-end
slice_bounds-write_contacts-end c = sym (length-take-le _ _ (omega (arith, c.if-count-read.true)))

pub returns-then-count-read : goal.returns-then-count-read
returns-then-count-read c = contacts_of_whole c.if-count-read.true c.write_contacts.ensures

pub returns : goal.returns
returns c = contacts_of_full c.requires (omega (arith, c.if-count-read.false)) c.refused_line.ensures
