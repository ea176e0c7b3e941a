-- The rows of a log and the numbers beside it.
use Rattle.std.specs.Prelude.{ℕ, ◌+◌, ◌<◌, List, [], ◌∷◌, ◌++◌, ◌≡◌, refl, length, take, get_or}
use Rattle.std.proofs.Common.{sym, ap, ◌∙◌}
use Rattle.sequences.specs.Parts.{take_next}
use Rattle.meaning.specs.declared.StepHit.{StepHit}
use Rattle.meaning.specs.SeriesNumbers.{row_step, row_entry, rows_of}

pub rows_none : (l : List StepHit) → rows_of (take 0 l) ≡ []
unfolding rows_of
rows_none l = refl

rows_behind : (hs ks : List StepHit) → rows_of (hs ++ ks) ≡ rows_of hs ++ rows_of ks
unfolding rows_of
rows_behind [] ks = refl
rows_behind (h ∷ hs) ks = ap (λ (l : List ℕ). row_step h ∷ row_entry h ∷ l) (rows_behind hs ks)

pub rows_next : (l : List StepHit) (k : ℕ) (d : StepHit) → k < length l
    → rows_of (take k l) ++ (row_step (get_or l k d) ∷ row_entry (get_or l k d) ∷ []) ≡ rows_of (take (k + 1) l)
unfolding rows_of
rows_next l k d h = sym (rows_behind (take k l) (get_or l k d ∷ [])) ∙ ap rows_of (sym (take_next l k d h))
