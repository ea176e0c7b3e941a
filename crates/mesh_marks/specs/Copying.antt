-- Boxes copied number by number in front of another list.
use Rattle.std.specs.Prelude.{ℕ, ◌+◌, ◌*◌, ◌≤◌, ◌<◌, List, ◌≡◌, refl, ℤ, pos, length, get_or, set}
use Rattle.std.proofs.Common.{⊎_elim, ap, ◌∙◌, not-suc-le-zero, arith, length-set, get_or-set_same, get_or-set_other}
use Rattle.sequences.specs.Range.{le_or_lt}
use Rattle.meaning.specs.StoredBoxes.{box_at, BoxesStand}

-- the first n numbers of a list that was o₀ and is o are those of l from a place on
pub record Copying (l o₀ o : List ℤ) (at n : ℕ) : Type 0 where
  pub numbers : (m : ℕ) → m < n → get_or o m (pos 0) ≡ get_or l (at + m) (pos 0)
  pub same : length o ≡ length o₀

pub copying_starts : (l o : List ℤ) (at : ℕ) → Copying l o o at 0
copying_starts l o at = record { numbers = λ m h. absurd (not-suc-le-zero h); same = refl }

pub copying_next : {l o₀ o : List ℤ} {at n : ℕ} → n < length o → Copying l o₀ o at n
    → Copying l o₀ (set o n (get_or l (at + n) (pos 0))) at (n + 1)
copying_next {l} {o₀} {o} {at} {n} room so =
    record {
      numbers = λ m h.
          ⊎_elim
          (λ last. let here : m ≡ n = omega arith in rw here (get_or-set_same o n (get_or l (at + n) (pos 0)) (pos 0) room))
          (λ lower. get_or-set_other o n m (get_or l (at + n) (pos 0)) (pos 0) (omega arith) ∙ so.numbers m lower)
          (le_or_lt n m);
      same = length-set o n (get_or l (at + n) (pos 0)) ∙ so.same;
    }

-- where their numbers stand in front, so many boxes do
pub copied_boxes : (l o : List ℤ) (first count : ℕ) → ((m : ℕ) → m < 6 * count → get_or o m (pos 0) ≡ get_or l (6 * first + m) (pos 0))
    → BoxesStand o 0 count (λ r. box_at l (first + r))
copied_boxes l o first count so =
    record {
      at = λ r h.
          let number : (k e : ℕ) → k < 6 * count → 6 * first + k ≡ e → get_or o k (pos 0) ≡ get_or l e (pos 0) =
          λ k e b q. so k b ∙ ap (λ (i : ℕ). get_or l i (pos 0)) q in
          let xl = number (6 * (0 + r)) (6 * (first + r)) (omega arith) (omega arith) in
          let yl = number (6 * (0 + r) + 1) (6 * (first + r) + 1) (omega arith) (omega arith) in
          let zl = number (6 * (0 + r) + 2) (6 * (first + r) + 2) (omega arith) (omega arith) in
          let xh = number (6 * (0 + r) + 3) (6 * (first + r) + 3) (omega arith) (omega arith) in
          let yh = number (6 * (0 + r) + 1 + 3) (6 * (first + r) + 1 + 3) (omega arith) (omega arith) in
          let zh = number (6 * (0 + r) + 2 + 3) (6 * (first + r) + 2 + 3) (omega arith) (omega arith) in
          λ t.
          record {
            x = record { low = xl t; high = xh t };
            y = record { low = yl t; high = yh t };
            z = record { low = zl t; high = zh t };
          };
    }

pub copying_boxes : {l o₀ o : List ℤ} (first count n : ℕ) → 6 * count ≤ n → Copying l o₀ o (6 * first) n
    → BoxesStand o 0 count (λ r. box_at l (first + r))
copying_boxes {l} {o₀} {o} first count n all so = copied_boxes l o first count (λ m h. so.numbers m (omega arith))
