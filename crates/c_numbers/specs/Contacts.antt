-- The answer to a contact asked for, as a number: the word's, or the refusal; and the row of a hit in a lent array.
use Rattle.std.specs.Prelude.{ℕ, ◌+◌, ◌*◌, ◌≡◌, Err, Ok, Result}
use mathlib.Core.List.{List, [], ◌∷◌}
use Rattle.std.proofs.Math.Path.{refl, subst}
use Rattle.meaning.specs.Scene.{Scene}
use Rattle.meaning.specs.Refusals.{given, Check, Answers, number_of, outcome_alone}
use Rattle.meaning.specs.WholeContacts.{WholeContactIs, contact_checks, WholeContactFound, row_left}
use Rattle.meaning.specs.declared.Kind.{Kind}
use Rattle.meaning.specs.declared.Refusal.{Refusal}
use Rattle.meaning.specs.declared.WholeContact.{WholeContact}
use Rattle.answers.specs.Answering.{is_given}
use Rattle.contact_entries.specs.Rows.{SmallContact, whole_contact_small}
use Rattle.meaning.specs.Numbers.{upper, number_for, Numbered}
use Rattle.meaning.specs.Numbers.{word_number, contact_number, row_after, ContactInto}

module _ (s : Scene) (kind : Kind) (i j : ℕ) where
  right_in : (ks : List Check) (m : WholeContact) → Answers ks (WholeContactIs s kind i j) (given m) → WholeContactIs s kind i j m
  unfolding Answers
  right_in [] m a = a
  right_in (k ∷ ks) m a = right_in ks m (is_given (WholeContactIs s kind i j) k ks m a).1

  module _ (a : Result WholeContact Refusal) (h : WholeContactFound s kind i j a) where
    pub found_small : (m : WholeContact) → a ≡ Ok m → SmallContact m
    unfolding outcome_alone
    found_small m e =
        whole_contact_small s kind i j m (right_in (contact_checks s kind i j) m (subst (WholeContactFound s kind i j) e h))

    pub contact_told : (m : WholeContact) (o o' : List ℕ) (r : ℕ) → a ≡ Ok m → o' ≡ row_left m o → r ≡ word_number m → Numbered contact_number (ContactInto s kind i j o o') r
    unfolding contact_number outcome_alone number_for row_after
    contact_told m o o' r e row is =
        record { answer = Ok m; right = record { found = subst (WholeContactFound s kind i j) e h; row = row }; is = is }

    pub contact_refused_told : (x : Refusal) (o : List ℕ) (r : ℕ) → a ≡ Err x → r ≡ number_of x * upper + 0 → Numbered contact_number (ContactInto s kind i j o o) r
    unfolding contact_number outcome_alone number_for row_after
    contact_refused_told x o r e is =
        record { answer = Err x; right = record { found = subst (WholeContactFound s kind i j) e h; row = refl }; is = is }
