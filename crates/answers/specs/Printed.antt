-- What stands in front of a buffer is one, where what is right there is one.
use Rattle.std.specs.Prelude.{ℕ, List, ◌≡◌, length}
use Rattle.std.proofs.Common.{sym, ◌∙◌, ap}
use Rattle.sequences.specs.Wrote.{written}
use Rattle.meaning.specs.Report.{InFront}

pub one_in_front : (Right : List ℕ → Type 0) → ((l k : List ℕ) → Right l → Right k → l ≡ k) → {o o' o'' : List ℕ} {n n' : ℕ}
    → InFront Right o o' n → InFront Right o o'' n'
    → (n ≡ n') × (o' ≡ o'')
one_in_front Right one {o} p q =
    let same : p.report ≡ q.report = one p.report q.report p.right q.right in (
      p.length_is ∙ ap (length {A = ℕ}) same ∙ sym q.length_is,
      p.buffer ∙ ap (λ (r : List ℕ). written r o) same ∙ sym q.buffer,
    )
