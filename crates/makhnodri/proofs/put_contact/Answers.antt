-- A hit writes its row, and another word leaves what stands there.
use Prim.Native.Nat.{ℕ, ◌<◌}
use native.Mathlib.Nat.{lt_trans}
use mathlib.Core.Path.{◌≡◌, refl}
use mathlib.Core.List.{List}
use lib.Dec.{lit<}
use mir.Syntax.{w32}
use mir.Val.{Fits}
use Rattle.meaning.specs.WholeContacts.{row_of, row_left}
use Rattle.meaning.specs.declared.ContactNumbers.{ContactNumbers}
use Rattle.meaning.specs.declared.WholeContact.{WholeContact}
use Rattle.meaning.specs.declared.WholeContact.TheVariants.{Hit, Miss, Touch, Apart}
use Rattle.contact_entries.specs.Rows.{SmallContact}
use Rattle.makhnodri.proofs.put_contact.Goals as goal

as_it_was : (m : WholeContact) (o : List ℕ) → ((h : ContactNumbers) → m ≡ Hit h → ⊥) → o ≡ row_left m o
unfolding row_left
as_it_was (Hit m) o h = absurd (h m refl)
as_it_was Miss o h = refl
as_it_was Touch o h = refl
as_it_was Apart o h = refl

small_fits : (m : WholeContact) (h : ContactNumbers) → m ≡ Hit h → SmallContact m → Fits w32 h.piece
unfolding SmallContact
small_fits m h e s = let k : h.piece < 4 = rw e at s in record { fits = lt_trans k (lit< tt) }

its_row : (m : WholeContact) (h : ContactNumbers) (o : List ℕ) → m ≡ Hit h → row_of h ≡ row_left m o
unfolding row_left
its_row m h o e = rw e refl

pub overflow_cast-contact : goal.overflow_cast-contact
overflow_cast-contact c = small_fits c.args.found c.in-Hit.m c.in-Hit.is c.requires

pub returns-in-Hit : goal.returns-in-Hit
returns-in-Hit c = its_row c.args.found c.in-Hit.m c.args.contact.now c.in-Hit.is

pub returns-in_default : goal.returns-in_default
returns-in_default c = as_it_was c.args.found c.args.contact.now c.in_default.not-Hit
