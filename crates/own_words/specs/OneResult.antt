-- Two results that meet the promise are equal, refused calls too, and after a refusal every lent number is what it was.
use Rattle.std.specs.Prelude.{ℕ, List, map, ◌≡◌, length, Result}
use Rattle.std.proofs.Common.{sym, ◌∙◌, ap}
use Rattle.meaning.specs.Scene.{Scene}
use Rattle.meaning.specs.Refusals.{Outcome, refused, Check, Answers, outcome_of}
use Rattle.meaning.specs.List.{leaves}
use Rattle.meaning.specs.SceneWords.{byte_of}
use Rattle.answers.specs.Answering.{one_answer}
use Rattle.list_words.specs.OneResult.{all_judged_one}
use Rattle.meaning.specs.OwnList.{asked_for, OwnSettled}
use Rattle.meaning.specs.declared.Refused.{Refused}
use Rattle.answers.specs.Speaking.{one_carrying}

pub one_count : (es : List ℕ) (checks : List Check) (r r' : Result ℕ Refused)
    → Answers checks (λ n. n ≡ length es) (outcome_of r) → Answers checks (λ n. n ≡ length es) (outcome_of r') → r ≡ r'
one_count es checks r r' p q =
    one_carrying r r' (one_answer (λ n. n ≡ length es) (λ a b h k. h ∙ sym k) checks (outcome_of r) (outcome_of r') p q)

pub one_own_settled : (s : Scene) (es b b' b'' : List ℕ) (r r' : Result ℕ Refused) → OwnSettled s es b b' r → OwnSettled s es b b'' r' → (r ≡ r') × (b' ≡ b'')
one_own_settled s es b b' b'' r r' p q =
    let same : r ≡ r' = one_count es _ r r' p.answer q.answer in
    let words : p.words ≡ q.words = all_judged_one s (map asked_for es) p.words q.words p.right q.right in
    (same, p.bytes ∙ (λ i. leaves (outcome_of (same i)) (map byte_of (words i)) b) ∙ sym q.bytes)

pub own_unchanged : (s : Scene) (es b b' : List ℕ) (r : Result ℕ Refused) → OwnSettled s es b b' r → (n c : ℕ) → outcome_of r ≡ refused n c → b' ≡ b
unfolding leaves
own_unchanged s es b b' r p n c e = p.bytes ∙ ap (λ (x : Outcome ℕ). leaves x (map byte_of p.words) b) e
