-- A hit writes its row, and another word leaves what stands there.
use mathlib.Core.Path.{◌≡◌, refl}
use mathlib.Core.List.{List}
use Prim.Native.Nat.{ℕ}
use lib.ListN.{take, drop}
use Rattle.meaning.specs.WholeContacts.{row_left}
use Rattle.meaning.specs.declared.ContactNumbers.{ContactNumbers}
use Rattle.meaning.specs.declared.WholeContact.{WholeContact}
use Rattle.meaning.specs.declared.WholeContact.TheVariants.{Hit, Miss, Touch, Apart}
use Rattle.contact_entries.specs.Rows.{small_hit, wrote_hit, wrote_same}
use Rattle.contact_entries.proofs.rows.put_contact_row.Goals as goal

-- the contact that was passed over is no hit
as_it_was : (m : WholeContact) (o : List ℕ) → ((h : ContactNumbers) → m ≡ Hit h → ⊥) → row_left m o ≡ o
unfolding row_left
as_it_was (Hit m) o h = absurd (h m refl)
as_it_was Miss o h = refl
as_it_was Touch o h = refl
as_it_was Apart o h = refl

pub put_row-requires : goal.put_row-requires
put_row-requires c = (c.requires.0, small_hit c.args.contact c.args.contacts.now c.args.at {h = c.in-Hit.contact_numbers} c.in-Hit.is c.requires.1)

pub returns-in-Hit : goal.returns-in-Hit
returns-in-Hit c = wrote_hit c.args.contact _ c.args.at {h = c.in-Hit.contact_numbers} c.in-Hit.is c.put_row.ensures

pub returns-in_default : goal.returns-in_default
returns-in_default c = rw (as_it_was c.args.contact (take 5 (drop c.args.at c.args.contacts.now)) c.in_default.not-Hit) (wrote_same _ c.args.at c.requires.0)
