-- What is promised of a list with its runs leaves nothing open.
use Rattle.std.specs.Prelude.{ℕ, ◌+◌, ◌*◌, ◌-◌, ◌≤◌, ◌<◌, List, ◌≡◌, ℤ, pos, length, get_or}
use Rattle.std.proofs.Common.{⊎_elim, sym, ◌∙◌, arith, ext_get_or}
use Rattle.sequences.specs.Range.{le_or_lt}
use Rattle.meaning.specs.StoredBoxes.{box_at}
use Rattle.list_boxes.specs.Storing.{same_box}
use Rattle.list_boxes.specs.Once.{numbers_same, holds_one}
use Rattle.list_runs.specs.Filled.{RunsFilling}

pub one_filling_of_runs : {l l₁ l₂ : List ℤ} {first n to m : ℕ} → RunsFilling l first n to m l₁ → RunsFilling l first n to m l₂ → l₁ ≡ l₂
one_filling_of_runs {l} {l₁} {l₂} {first} {n} {to} {m} p q =
    ext_get_or (pos 0) l₁ l₂ (p.same ∙ sym q.same)
    (λ i h.
    ⊎_elim
    (λ behind. p.behind i behind ∙ sym (q.behind i behind))
    (λ before. numbers_same l₁ l₂ (to + m) boxes_same i before)
    (le_or_lt (6 * (to + m)) i))
  where
    boxes_same : (k : ℕ) → k < to + m → box_at l₁ k ≡ box_at l₂ k
    boxes_same k h =
        ⊎_elim
        (λ run. holds_one p.runs q.runs k run h)
        (λ front. same_box l₂ l₁ k (λ i u v. p.front i (omega arith) ∙ sym (q.front i (omega arith))))
        (le_or_lt to k)
