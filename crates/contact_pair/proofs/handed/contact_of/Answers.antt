-- By the word.
use mathlib.Core.Path.{◌≡◌, sym, ap, ◌∙◌}
use Rattle.meaning.specs.WholeContacts.{contact_of}
use Rattle.meaning.specs.declared.WholeContact.TheVariants.{Hit}
use Rattle.contact_pair.specs.Handed.{of_miss, of_touch, of_apart}
use Rattle.contact_pair.proofs.handed.contact_of.Goals as goal

pub returns-in-Hit : goal.returns-in-Hit
returns-in-Hit c =
    let a = c.args in
    let e : a.contact ≡ Hit c.in-Hit.contact_numbers = search in
    c.hit_contact.ensures ∙ ap (contact_of a.kind) (sym e)

pub returns-in-Miss : goal.returns-in-Miss
returns-in-Miss c = let a = c.args in of_miss a.kind c.in-Miss.is

pub returns-in-Touch : goal.returns-in-Touch
returns-in-Touch c = let a = c.args in of_touch a.kind c.in-Touch.is

pub returns-in-Apart : goal.returns-in-Apart
returns-in-Apart c = let a = c.args in of_apart a.kind c.in-Apart.is
