-- Two results that meet the promise are equal, refused calls too, and after a refusal every lent number is what it was.
use Rattle.std.specs.Prelude.{ℕ, List, map, ◌≡◌, Result}
use Rattle.std.proofs.Common.{sym, ◌∙◌, ap}
use Rattle.meaning.specs.Scene.{Scene}
use Rattle.meaning.specs.Refusals.{Outcome, refused, outcome_of}
use Rattle.meaning.specs.List.{leaves}
use Rattle.meaning.specs.WholeContacts.{rows_after}
use Rattle.contact_entries.specs.Listed.{contact_byte, all_met_one}
use Rattle.meaning.specs.OwnList.{asked_for, OwnContacts}
use Rattle.own_words.specs.OneResult.{one_count}
use Rattle.meaning.specs.declared.Refused.{Refused}

pub one_own_met : (s : Scene) (es b b' b'' c c' c'' : List ℕ) (r r' : Result ℕ Refused) → OwnContacts s es b b' c c' r → OwnContacts s es b b'' c c'' r'
    → (r ≡ r') × (b' ≡ b'') × (c' ≡ c'')
one_own_met s es b b' b'' c c' c'' r r' p q =
    let same : r ≡ r' = one_count es _ r r' p.answer q.answer in
    let met : p.contacts ≡ q.contacts = all_met_one s (map asked_for es) p.contacts p.right ∙ sym (all_met_one s (map asked_for es) q.contacts q.right) in (
      same,
      p.bytes ∙ (λ i. leaves (outcome_of (same i)) (map contact_byte (met i)) b) ∙ sym q.bytes,
      p.rows ∙ (λ i. rows_after (outcome_of (same i)) (met i) c) ∙ sym q.rows,
    )

pub own_met_unchanged : (s : Scene) (es b b' c c' : List ℕ) (r : Result ℕ Refused) → OwnContacts s es b b' c c' r → (n m : ℕ) → outcome_of r ≡ refused n m
    → (b' ≡ b) × (c' ≡ c)
unfolding leaves rows_after
own_met_unchanged s es b b' c c' r p n m e = (
  p.bytes ∙ ap (λ (x : Outcome ℕ). leaves x (map contact_byte p.contacts) b) e,
  p.rows ∙ ap (λ (x : Outcome ℕ). rows_after x p.contacts c) e,
)
