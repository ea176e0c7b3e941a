-- Boxes are filled in one after the other, and those that stand already are kept.
use Rattle.std.specs.Prelude.{ℕ, ◌+◌, ◌*◌, ◌≤◌, ◌<◌, List, ◌≡◌, refl, ℤ, pos, length, get_or}
use Rattle.std.proofs.Common.{⊎_elim, ◌∙◌, not-suc-le-zero, arith}
use Rattle.sequences.specs.Range.{le_or_lt}
use Rattle.meaning.specs.StoredBoxes.{Box, box_at, BoxesStand, KeptBehind}
use Rattle.list_boxes.specs.Storing.{BoxStored, others_kept}

pub holds_none : (l : List ℤ) (first : ℕ) (want : ℕ → Box) → BoxesStand l first 0 want
holds_none l first want = record { at = λ i h. absurd (not-suc-le-zero h) }

module _ {l l' : List ℤ} {first n : ℕ} {want : ℕ → Box} (so : BoxesStand l first n want) where
  pub holds_kept : {k : ℕ} {b : Box} → BoxStored l k b l' → first + n ≤ k → BoxesStand l' first n want
  holds_kept stored h = record { at = λ i p. others_kept stored (first + i) (omega arith) ∙ so.at i p }

  pub holds_more : {k : ℕ} → k ≡ first + n → BoxStored l k (want n) l' → BoxesStand l' first (n + 1) want
  holds_more {k} e stored =
      record {
        at = λ i p.
            ⊎_elim
            (λ le.
            let place : k ≡ first + i = omega arith in
            let here : n ≡ i = omega arith in
            cc stored.here)
            (λ lt. (holds_kept stored (omega arith)).at i lt)
            (le_or_lt n i);
      }

pub holds_all : {l : List ℤ} {first n m : ℕ} {want : ℕ → Box} → n ≡ m → BoxesStand l first n want → BoxesStand l first m want
holds_all e so = rw e at so

pub kept_all : (l : List ℤ) (n : ℕ) → KeptBehind l l n
kept_all l n = record { at = λ i h. refl; same = refl }

pub kept_wider : {l l' : List ℤ} {n m : ℕ} → n ≤ m → KeptBehind l l' n → KeptBehind l l' m
kept_wider h so = record { at = λ i p. so.at i (omega arith); same = so.same }

pub kept_more : {l₀ l l' : List ℤ} {n k m : ℕ} {b : Box} → KeptBehind l₀ l n → BoxStored l k b l' → n ≤ k → k < m → KeptBehind l₀ l' m
kept_more so stored h e =
    record { at = λ i p. stored.behind i (omega arith) ∙ so.at i (omega arith); same = stored.same ∙ so.same }

pub kept_then : {l₀ l l' : List ℤ} {n m : ℕ} → KeptBehind l₀ l n → KeptBehind l l' m → n ≤ m → KeptBehind l₀ l' m
kept_then so next h = record { at = λ i p. next.at i p ∙ so.at i (omega arith); same = next.same ∙ so.same }
