-- Two results that meet the promise are equal, refused calls too: of a pair asked for, in whole numbers and with f64s, and of a whole scene with its lent buffers.
use Rattle.std.specs.Prelude.{ℕ, List, map, ◌≡◌, length, Result}
use Rattle.std.proofs.Common.{sym, ◌∙◌}
use Rattle.meaning.specs.Scene.{Scene}
use Rattle.meaning.specs.List.{pairs, entries, leaves}
use Rattle.meaning.specs.WholeContacts.{WholeContactIs, ContactIs, contact_checks, WholeContactFound, ContactGiven, rows_after, contact_room, contact_list_checks, ContactsListed}
use Rattle.meaning.specs.declared.Kind.{Kind}
use Rattle.answers.specs.Answering.{one_answer}
use Rattle.contact_entries.specs.OneContact.{one_whole_contact, one_contact}
use Rattle.contact_entries.specs.Listed.{contact_byte, all_met_one}
use Rattle.meaning.specs.declared.WholeContact.{WholeContact}
use Rattle.meaning.specs.declared.Refusal.{Refusal}
use Rattle.meaning.specs.declared.Refused.{Refused}
use Rattle.meaning.specs.declared.Contact.{Contact}
use Rattle.answers.specs.Speaking.{one_alone, one_carrying}
use Rattle.meaning.specs.Refusals.{outcome_alone, outcome_of}

pub one_whole_contact_answer : (s : Scene) (kind : Kind) (i j : ℕ) (r r' : Result WholeContact Refusal) → WholeContactFound s kind i j r → WholeContactFound s kind i j r' → r ≡ r'
one_whole_contact_answer s kind i j r r' p q =
    one_alone r r' (one_answer (WholeContactIs s kind i j) (one_whole_contact s kind i j) (contact_checks s kind i j) (outcome_alone r) (outcome_alone r') p q)

pub one_contact_answer : (s : Scene) (kind : Kind) (i j : ℕ) (r r' : Result Contact Refusal) → ContactGiven s kind i j r → ContactGiven s kind i j r' → r ≡ r'
one_contact_answer s kind i j r r' p q =
    one_alone r r' (one_answer (ContactIs s kind i j) (one_contact s kind i j) (contact_checks s kind i j) (outcome_alone r) (outcome_alone r') p q)

pub one_met_scene : (s : Scene) (o o' o'' b b' b'' c c' c'' : List ℕ) (r r' : Result ℕ Refused) → ContactsListed s o o' b b' c c' r → ContactsListed s o o'' b b'' c c'' r'
    → (r ≡ r') × (o' ≡ o'') × (b' ≡ b'') × (c' ≡ c'')
one_met_scene s o o' o'' b b' b'' c c' c'' r r' p q =
    let same : r ≡ r' =
    one_carrying r r' (one_answer (λ n. n ≡ length (pairs s)) (λ x y h k. h ∙ sym k) (contact_list_checks s (contact_room o b c)) (outcome_of r) (outcome_of r') p.answer q.answer) in
    let met : p.contacts ≡ q.contacts = all_met_one s (pairs s) p.contacts p.right ∙ sym (all_met_one s (pairs s) q.contacts q.right) in (
      same,
      p.list ∙ (λ i. leaves (outcome_of (same i)) (entries (pairs s)) o) ∙ sym q.list,
      p.bytes ∙ (λ i. leaves (outcome_of (same i)) (map contact_byte (met i)) b) ∙ sym q.bytes,
      p.rows ∙ (λ i. rows_after (outcome_of (same i)) (met i) c) ∙ sym q.rows,
    )
