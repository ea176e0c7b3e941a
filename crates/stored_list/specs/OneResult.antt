-- Two results that meet the promise are equal, refused calls too: the list counted, made and judged from stored boxes.
use Rattle.std.specs.Prelude.{ℕ, min, List, ◌++◌, map, ◌≡◌, ℤ, length, Result}
use Rattle.std.proofs.Common.{sym, ap, ◌∙◌}
use Rattle.meaning.specs.Scene.{Scene}
use Rattle.meaning.specs.List.{pairs, entries, room_of, leaves}
use Rattle.meaning.specs.Runs.{tests_left, Tested}
use Rattle.meaning.specs.StoredBoxes.{box_checks, stale_checks, stored_checks, CountedStored, ListedStored, SettledStored}
use Rattle.meaning.specs.SceneWords.{byte_of}
use Rattle.answers.specs.Answering.{one_answer}
use Rattle.list_words.specs.OneResult.{all_judged_one}
use Rattle.list_pairs.specs.Answering.{IsCount}
use Rattle.meaning.specs.declared.Refused.{Refused}
use Rattle.answers.specs.Speaking.{one_carrying}
use Rattle.meaning.specs.Refusals.{outcome_of}

pub one_stored_count : (s : Scene) (b : List ℤ) (t t' t'' : List ℕ) (r r' : Result ℕ Refused) → Tested s (CountedStored s b) t t' r
    → Tested s (CountedStored s b) t t'' r' → (r ≡ r') × (t' ≡ t'')
one_stored_count s b t t' t'' r r' p q =
    let same : r ≡ r' =
    one_carrying r r' (one_answer (IsCount s) (λ x y h k. h ∙ sym k) (box_checks s b ++ stale_checks s b) (outcome_of r) (outcome_of r') p.list q.list) in
    (same, p.tests ∙ ap (λ (a : Result ℕ Refused). tests_left s (outcome_of a) t) same ∙ sym q.tests)

pub one_stored_listing : (s : Scene) (b : List ℤ) (o o' o'' t t' t'' : List ℕ) (r r' : Result ℕ Refused) → Tested s (ListedStored s b o o') t t' r
    → Tested s (ListedStored s b o o'') t t'' r' → (r ≡ r') × (o' ≡ o'') × (t' ≡ t'')
one_stored_listing s b o o' o'' t t' t'' r r' p q =
    let same : r ≡ r' =
    one_carrying r r'
    (one_answer (IsCount s) (λ x y h k. h ∙ sym k) (box_checks s b ++ stored_checks s b (room_of o)) (outcome_of r) (outcome_of r') p.list.answer q.list.answer) in (
      same,
      p.list.buffer ∙ ap (λ (a : Result ℕ Refused). leaves (outcome_of a) (entries (pairs s)) o) same ∙ sym q.list.buffer,
      p.tests ∙ ap (λ (a : Result ℕ Refused). tests_left s (outcome_of a) t) same ∙ sym q.tests,
    )

pub one_stored_words : (s : Scene) (b : List ℤ) (o o' o'' w w' w'' : List ℕ) (r r' : Result ℕ Refused) → SettledStored s b o o' w w' r
    → SettledStored s b o o'' w w'' r' → (r ≡ r') × (o' ≡ o'') × (w' ≡ w'')
one_stored_words s b o o' o'' w w' w'' r r' p q =
    let checks = box_checks s b ++ stored_checks s b (min (room_of o) (length w)) in
    let same : r ≡ r' = one_carrying r r' (one_answer (IsCount s) (λ x y h k. h ∙ sym k) checks (outcome_of r) (outcome_of r') p.answer q.answer) in
    let words : p.words ≡ q.words = all_judged_one s (pairs s) p.words q.words p.right q.right in (
      same,
      p.list ∙ (λ i. leaves (outcome_of (same i)) (entries (pairs s)) o) ∙ sym q.list,
      p.bytes ∙ (λ i. leaves (outcome_of (same i)) (map byte_of (words i)) w) ∙ sym q.bytes,
    )
