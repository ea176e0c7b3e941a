-- The words that carry nothing, as they are handed out.
use Rattle.std.specs.Prelude.{◌≡◌}
use Rattle.std.proofs.Math.Path.{refl, ap}
use Rattle.std.proofs.Common.{sym, ◌∙◌}
use Rattle.meaning.specs.WholeContacts.{contact_of}
use Rattle.meaning.specs.declared.Kind.{Kind}
use Rattle.meaning.specs.declared.Kind.TheVariants.{PointTriangle, EdgeEdge}
use Rattle.meaning.specs.declared.WholeContact.{WholeContact}
use Rattle.meaning.specs.declared.WholeContact.TheVariants.{Miss, Touch, Apart}
use Rattle.meaning.specs.declared.Contact as Contacts
use Rattle.meaning.specs.declared.Contact.{Contact}

module _ (kind : Kind) {m : WholeContact} where
  pub of_miss : m ≡ Miss → Contacts.TheVariants.Miss ≡ contact_of kind m
  unfolding contact_of
  of_miss e = go kind ∙ ap (contact_of kind) (sym e)
    where
      go : (k : Kind) → Contacts.TheVariants.Miss ≡ contact_of k Miss
      go PointTriangle = refl
      go EdgeEdge = refl

  pub of_touch : m ≡ Touch → Contacts.TheVariants.Touch ≡ contact_of kind m
  unfolding contact_of
  of_touch e = go kind ∙ ap (contact_of kind) (sym e)
    where
      go : (k : Kind) → Contacts.TheVariants.Touch ≡ contact_of k Touch
      go PointTriangle = refl
      go EdgeEdge = refl

  pub of_apart : m ≡ Apart → Contacts.TheVariants.Apart ≡ contact_of kind m
  unfolding contact_of
  of_apart e = go kind ∙ ap (contact_of kind) (sym e)
    where
      go : (k : Kind) → Contacts.TheVariants.Apart ≡ contact_of k Apart
      go PointTriangle = refl
      go EdgeEdge = refl
