-- The boxes of the parts that were found for a run, spread.
use Rattle.std.specs.Prelude.{ℕ, ◌+◌, ◌≤◌, ◌<◌, List, ◌≡◌, refl, ℤ, length, get_or}
use Rattle.std.proofs.Common.{⊎_elim, ◌∙◌, not-suc-le-zero, arith}
use Rattle.sequences.specs.Range.{le_or_lt}
use Rattle.meaning.specs.StoredBoxes.{Box}
use Rattle.meaning.specs.declared.Kind.{Kind}
use Rattle.mesh_marks.specs.Marked.{spread_box, spread_as, as_length, box_here, box_kept}
use Rattle.mesh_led_runs.specs.PartBoxes.{PartThere}

-- the parts in front of a list are there
pub record PartsIn (e t : List ℕ) (kind : Kind) (n : ℕ) (ps : List ℕ) (count : ℕ) : Type 0 where
  pub room : count ≤ length ps
  pub there : (c : ℕ) → c < count → PartThere e t kind (get_or ps c 0) n

-- their boxes, by f, are spread
pub record PartsSpread (f : ℕ → Box) (ps : List ℕ) (count : ℕ) (s : List ℤ) : Type 0 where
  pub at : (q : ℕ) → q < count → spread_box s q ≡ f (get_or ps q 0)

-- so many of them, in a list that was s₀
pub record SpreadingParts (f : ℕ → Box) (ps : List ℕ) (s₀ s : List ℤ) (count : ℕ) : Type 0 where
  pub done : PartsSpread f ps count s
  pub same : length s ≡ length s₀

pub parts_start : (f : ℕ → Box) (ps : List ℕ) (s : List ℤ) → SpreadingParts f ps s s 0
parts_start f ps s = record { done = record { at = λ q h. absurd (not-suc-le-zero h) }; same = refl }

pub parts_next : {f : ℕ → Box} {ps : List ℕ} {s₀ s : List ℤ} {n : ℕ} {b : Box} → n < 256 → 1536 ≤ length s₀ → b ≡ f (get_or ps n 0)
    → SpreadingParts f ps s₀ s n → SpreadingParts f ps s₀ (spread_as s n b) (n + 1)
parts_next {f} {ps} {s₀} {s} {n} {b} few room made so =
    record {
      done = record {
        at = λ q h.
            ⊎_elim
            (λ last. let here : q ≡ n = omega arith in rw here (box_here s n b few (omega (arith, so.same)) ∙ made))
            (λ lower. box_kept s n b few q lower ∙ so.done.at q lower)
            (le_or_lt n q);
      };
      same = as_length s n b few ∙ so.same;
    }
