-- One scene has one count of listed pairs: it fits a room or it does not.
use Rattle.std.specs.Prelude.{ℕ, ◌≤◌, ◌<◌, ◌≡◌, length}
use Rattle.std.proofs.Common.{ap, arith}
use Rattle.meaning.specs.Scene.{Scene}
use Rattle.meaning.specs.List.{pairs}

pub many_or_few : {s t : Scene} {n : ℕ} → s ≡ t → n < length (pairs s) → length (pairs t) ≤ n → ⊥
many_or_few {s} {t} {n} e h k = let d : length (pairs s) ≡ length (pairs t) = ap (λ (u : Scene). length (pairs u)) e in omega arith
