-- What is promised of the list of an accepted scene leaves nothing open: two answers that meet it are one, and so are the buffers.
use Rattle.std.specs.Prelude.{ℕ, List, ◌≡◌, Result}
use Rattle.std.proofs.Common.{sym, ◌∙◌, ap}
use Rattle.meaning.specs.Scene.{Scene}
use Rattle.meaning.specs.List.{pairs, entries, leaves}
use Rattle.answers.specs.Answering.{one_answer}
use Rattle.list_pairs.specs.Answering.{IsCount, room_checks, ListedIn}
use Rattle.meaning.specs.declared.Refused.{Refused}
use Rattle.answers.specs.Speaking.{one_carrying}
use Rattle.meaning.specs.Refusals.{outcome_of}

pub one_listed_in : (s : Scene) (room : ℕ) {o o' o'' : List ℕ} {r r' : Result ℕ Refused} → ListedIn s room o o' r → ListedIn s room o o'' r'
    → (r ≡ r') × (o' ≡ o'')
one_listed_in s room {o} {r = r} {r' = r'} p q =
    let same : r ≡ r' = one_carrying r r' (one_answer (IsCount s) (λ a b h k. h ∙ sym k) (room_checks s room) (outcome_of r) (outcome_of r') p.answer q.answer) in
    (same, p.buffer ∙ ap (λ (a : Result ℕ Refused). leaves (outcome_of a) (entries (pairs s)) o) same ∙ sym q.buffer)
