-- Two results that meet the promise of saving, or of the length asked for alone, are one; and the length asked for is the length written.
use Rattle.std.specs.Prelude.{ℕ, List, ◌≡◌, length, Result}
use Rattle.std.proofs.Common.{sym, ap, ◌∙◌}
use Rattle.meaning.specs.Scene.{Scene}
use Rattle.meaning.specs.Refusals.{Outcome, outcome_of}
use Rattle.meaning.specs.List.{leaves}
use Rattle.answers.specs.Answering.{one_answer}
use Rattle.meaning.specs.Saved.{saved_text, saved_checks, save_checks, Measured, Saved}
use Rattle.saved_scene.specs.Answering.{IsLength}
use Rattle.meaning.specs.declared.Refused.{Refused}
use Rattle.answers.specs.Speaking.{one_carrying}

pub one_measured : (s : Scene) (r r' : Result ℕ Refused) → Measured s r → Measured s r' → r ≡ r'
one_measured s r r' p q =
    one_carrying r r' (one_answer (IsLength s) (λ a b h k. h ∙ sym k) (saved_checks s) (outcome_of r) (outcome_of r') p q)

pub one_saved : {s : Scene} {o a b : List ℕ} {r r' : Result ℕ Refused} → Saved s o a r → Saved s o b r' → (r ≡ r') × (a ≡ b)
one_saved {s} {o} {a} {b} {r} {r'} p q =
    let same : outcome_of r ≡ outcome_of r' =
    one_answer (IsLength s) (λ m n h k. h ∙ sym k) (save_checks s (length o)) (outcome_of r) (outcome_of r') p.answer q.answer in
    (one_carrying r r' same, p.buffer ∙ ap (λ (x : Outcome ℕ). leaves x (saved_text s) o) same ∙ sym q.buffer)
