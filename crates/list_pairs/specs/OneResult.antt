-- Two results that meet the promise are equal, refused calls too: the list counted and made, with its box tests.
use Rattle.std.specs.Prelude.{ℕ, List, ◌≡◌, length, Result}
use Rattle.std.proofs.Common.{sym, ◌∙◌, ap}
use Rattle.meaning.specs.Scene.{Scene}
use Rattle.meaning.specs.Refusals.{Check, Answers, scene_checks, outcome_of}
use Rattle.meaning.specs.List.{pairs, entries, room_of, list_checks, leaves, Counted, Listing}
use Rattle.meaning.specs.Runs.{tests_left, Tested}
use Rattle.answers.specs.Answering.{one_answer}
use Rattle.meaning.specs.declared.Refused.{Refused}
use Rattle.answers.specs.Speaking.{one_carrying}

pub one_count : (s : Scene) (checks : List Check) (r r' : Result ℕ Refused)
    → Answers checks (λ n. n ≡ length (pairs s)) (outcome_of r) → Answers checks (λ n. n ≡ length (pairs s)) (outcome_of r') → r ≡ r'
one_count s checks r r' p q =
    one_carrying r r' (one_answer (λ n. n ≡ length (pairs s)) (λ a b h k. h ∙ sym k) checks (outcome_of r) (outcome_of r') p q)

pub one_counted : (s : Scene) (r r' : Result ℕ Refused) → Counted s r → Counted s r' → r ≡ r'
one_counted s = one_count s (scene_checks s)

pub one_listing : (s : Scene) (o o' o'' : List ℕ) (r r' : Result ℕ Refused) → Listing s o o' r → Listing s o o'' r' → (r ≡ r') × (o' ≡ o'')
one_listing s o o' o'' r r' p q =
    let same : r ≡ r' = one_count s (list_checks s (room_of o)) r r' p.answer q.answer in
    (same, p.buffer ∙ ap (λ (a : Result ℕ Refused). leaves (outcome_of a) (entries (pairs s)) o) same ∙ sym q.buffer)

-- with the box tests in a lent number
pub same_tests : {s : Scene} {R S : Result ℕ Refused → Type 0} {t t' t'' : List ℕ} {r r' : Result ℕ Refused} → r ≡ r' → Tested s R t t' r → Tested s S t t'' r' → t' ≡ t''
same_tests {s} {t = t} e p q = p.tests ∙ ap (λ (a : Result ℕ Refused). tests_left s (outcome_of a) t) e ∙ sym q.tests

pub one_tested_count : (s : Scene) (t t' t'' : List ℕ) (r r' : Result ℕ Refused) → Tested s (Counted s) t t' r → Tested s (Counted s) t t'' r' → (r ≡ r') × (t' ≡ t'')
one_tested_count s t t' t'' r r' p q =
    let same : r ≡ r' = one_counted s r r' p.list q.list in
    (same, same_tests same p q)

pub one_tested_listing : (s : Scene) (o o' o'' t t' t'' : List ℕ) (r r' : Result ℕ Refused) → Tested s (Listing s o o') t t' r → Tested s (Listing s o o'') t t'' r'
    → (r ≡ r') × (o' ≡ o'') × (t' ≡ t'')
one_tested_listing s o o' o'' t t' t'' r r' p q =
    let (same, list) = one_listing s o o' o'' r r' p.list q.list in
    (same, list, same_tests same p q)
