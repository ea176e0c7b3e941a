-- The boxes of a run's rows in front of a list, and behind 16 of them a box that covers them.
use Rattle.std.specs.Prelude.{ℕ, ◌+◌, ◌≤◌, ◌<◌, false, List, ◌≡◌, refl, ℤ, length}
use Rattle.std.proofs.Common.{⊎_elim, sym, ap, ◌∙◌, zero-add, not-suc-le-zero, arith}
use Rattle.sequences.specs.Range.{le_or_lt}
use Rattle.meaning.specs.StoredBoxes.{Box, box_at, BoxesStand}
use Rattle.list_boxes.specs.Kept.{meet_boxes}
use Rattle.list_boxes.specs.Storing.{same_box}
use Rattle.list_runs.specs.Filled.{RunsFilled}
use Rattle.mesh_runs.specs.Runs.{joined_covers}
use Rattle.mesh_led_runs.specs.PartBoxes.{PutInFront}

-- ---- row by row

-- the first n of the boxes f from `first` on stand in front of a list that was o₀
pub record Standing (f : ℕ → Box) (first : ℕ) (o₀ o : List ℤ) (n : ℕ) : Type 0 where
  pub done : BoxesStand o 0 n (λ r. f (first + r))
  pub same : length o ≡ length o₀

pub standing_starts : (f : ℕ → Box) (first : ℕ) (o : List ℤ) → Standing f first o o 0
standing_starts f first o = record { done = record { at = λ i h. absurd (not-suc-le-zero h) }; same = refl }

pub standing_next : {f : ℕ → Box} {first : ℕ} {o₀ o o' : List ℤ} {n : ℕ} → Standing f first o₀ o n → PutInFront o n (f (first + n)) o'
    → Standing f first o₀ o' (n + 1)
standing_next {f} {first} {o₀} {o} {o'} {n} so put =
    record {
      done = record {
        at = λ i h.
            ⊎_elim
            (λ last. let here : i ≡ n = omega arith in rw (here, zero-add n) put.here)
            (λ lower. rw (zero-add i) (put.before i lower) ∙ so.done.at i lower)
            (le_or_lt n i);
      };
      same = put.same ∙ so.same;
    }

-- ---- covered

-- the boxes f from `first` on stand in front, and who misses box 16 misses each of them
pub record RowsJoined (f : ℕ → Box) (first count : ℕ) (o : List ℤ) : Type 0 where
  pub rows : (r : ℕ) → r < count → box_at o r ≡ f (first + r)
  pub covers : (r : ℕ) → r < count → (x : Box) → meet_boxes (box_at o 16) x ≡ false → meet_boxes (f (first + r)) x ≡ false

pub rows_joined : {f : ℕ → Box} {first count : ℕ} {o o' : List ℤ} → 0 < count → count ≤ 16 → BoxesStand o 0 count (λ r. f (first + r))
    → RunsFilled o 0 count 16 o' → RowsJoined f first count o'
rows_joined {f} {first} {count} {o} {o'} some most stand filled =
    let row : (r : ℕ) → r < count → box_at o r ≡ f (first + r) = λ r h. rw zero-add at (stand.at r h) in
    let covered = joined_covers {l = o} 0 count some most (record { at = λ r h. refl }) filled in
    record {
      rows = λ r h. same_box o o' r (λ n p q. filled.front n (omega arith)) ∙ row r h;
      covers = λ r h x e.
          ap (λ (b : Box). meet_boxes b x) (sym (row r h)) ∙ rw zero-add at (covered.misses r h x e);
    }
