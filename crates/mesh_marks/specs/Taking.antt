-- Of some places those that are marked, and not below another.
use Rattle.std.specs.Prelude.{ℕ, ◌+◌, ◌≤◌, Bool, false, ◌&&◌, List, ◌++◌, ◌≡◌, leb, get_or}
use Rattle.std.proofs.Common.{sym, ap, ◌∙◌, arith}
use Rattle.sequences.specs.Chosen.{one, chosen}
use Rattle.sequences.specs.Gather.{gather_last}

-- whether the c-th is taken
abbrev pub is_taken : List ℕ → List Bool → (from : ℕ) → ℕ → Bool
is_taken ps ms from c = leb from (get_or ps c 0) && get_or ms c false

abbrev pub marked_places : List ℕ → List Bool → (from count : ℕ) → List ℕ
marked_places ps ms from count = chosen (is_taken ps ms from) (λ c. get_or ps c 0) 0 count

pub marked_more : (ps : List ℕ) (ms : List Bool) (from c : ℕ) {t : Bool} → t ≡ is_taken ps ms from c
    → marked_places ps ms from (c + 1) ≡ marked_places ps ms from c ++ one t (get_or ps c 0)
marked_more ps ms from c e =
    gather_last (λ c. one (is_taken ps ms from c) (get_or ps c 0)) 0 c (omega arith)
    ∙ ap (λ (b : Bool). marked_places ps ms from c ++ one b (get_or ps c 0)) (sym e)
