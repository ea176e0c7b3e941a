-- Runs of the boxes in a list: their joint boxes stand behind all of these, in order.
use Rattle.std.specs.Prelude.{ℕ, suc, ◌+◌, ◌*◌, ◌-◌, ◌/◌, ◌≤◌, ◌<◌, min, List, ◌≡◌, refl, ℤ, pos, length, get_or}
use Rattle.std.proofs.Math.Path.{sym}
use Rattle.std.proofs.Common.{ap, ◌∙◌, subst, add-one, arith}
use Rattle.meaning.specs.Runs.{runs_of, run_from, run_to}
use Rattle.meaning.specs.StoredBoxes.{Box, box_at, BoxesStand}
use Rattle.list_boxes.specs.Kept.{joint_box}
use Rattle.list_boxes.specs.Storing.{BoxStored, others_kept, same_box, box_itself}
use Rattle.list_boxes.specs.Filling.{holds_none, holds_more, holds_all}
use Rattle.list_runs.specs.Joined.{joint_boxes, joint_same, joint_moved}

-- ---- one run: its first box, then the joint box with each further one

module _ (at : ℕ) {to : ℕ} where
  -- the first box is stored: joined with itself it is itself
  pub run_begun : {l l₁ : List ℤ} → at < to → BoxStored l to (joint_box (box_at l at) (box_at l at)) l₁
      → BoxStored l₁ to (joint_boxes (box_at l₁) at 0) l₁
  unfolding joint_boxes
  run_begun {l} before stored =
      record {
        here = stored.here ∙ box_itself (box_at l at) ∙ sym (others_kept stored at (omega arith));
        front = λ n h. refl;
        behind = λ n h. refl;
        same = refl;
      }

  pub run_goes : {l l₁ l₂ : List ℤ} (k : ℕ) → at + 1 + k < to → BoxStored l to (joint_boxes (box_at l) at k) l₁
      → BoxStored l₁ to (joint_box (box_at l₁ to) (box_at l₁ (at + 1 + k))) l₂ → BoxStored l to (joint_boxes (box_at l) at (k + 1)) l₂
  unfolding joint_boxes
  run_goes k before so stored =
      let one = so.here in
      let two = others_kept so (at + 1 + k) (omega arith) in
      rw (add-one k) (record {
        here = stored.here ∙ λ t. joint_box (one t) (two t);
        front = λ n h. stored.front n h ∙ so.front n h;
        behind = λ n h. stored.behind n h ∙ so.behind n h;
        same = stored.same ∙ so.same;
      })

  -- seen from before the first was stored
  pub run_ends : {l l₁ l₂ : List ℤ} {b : Box} (k : ℕ) → at + k < to → BoxStored l to b l₁
      → BoxStored l₁ to (joint_boxes (box_at l₁) at k) l₂ → BoxStored l to (joint_boxes (box_at l) at k) l₂
  run_ends {l} {l₁} k before first so =
      let same = joint_same (box_at l₁) (box_at l) at k (λ j h p. others_kept first j (omega arith)) in
      record {
        here = so.here ∙ same;
        front = λ n h. so.front n h ∙ first.front n h;
        behind = λ n h. so.behind n h ∙ first.behind n h;
        same = so.same ∙ first.same;
      }

-- ---- all runs

-- the joint box of run r of n boxes from `first` on
abbrev pub run_box_in : List ℤ → ℕ → ℕ → ℕ → Box
run_box_in l first n r = joint_boxes (λ j. box_at l (first + j)) (run_from r) (run_to n r - run_from r - 1)

-- the first m runs stand in the list from the box `to` on: it was l and is l', and no other number has changed
pub record RunsFilling (l : List ℤ) (first n to m : ℕ) (l' : List ℤ) : Type 0 where
  pub runs : BoxesStand l' to m (run_box_in l first n)
  pub front : (i : ℕ) → i < 6 * to → get_or l' i (pos 0) ≡ get_or l i (pos 0)
  pub behind : (i : ℕ) → 6 * (to + m) ≤ i → get_or l' i (pos 0) ≡ get_or l i (pos 0)
  pub same : length l' ≡ length l

abbrev pub RunsFilled : List ℤ → ℕ → ℕ → ℕ → List ℤ → Type 0
RunsFilled l first n to l' = RunsFilling l first n to (runs_of n) l'

pub runs_begun : (l : List ℤ) (first n to : ℕ) → RunsFilling l first n to 0 l
runs_begun l first n to =
    record { runs = holds_none l to (run_box_in l first n); front = λ i h. refl; behind = λ i h. refl; same = refl }

-- a run has one box at least, and none outside the n
pub run_inside : (n r : ℕ) → r < runs_of n → (run_from r < run_to n r) × (run_to n r ≤ n)
run_inside n r h = (omega arith, omega arith)

module _ (first n to r : ℕ) (apart : first + n ≤ to) (below : r < runs_of n) where
  -- the boxes that are joined have not changed since
  joined_as : {l l₁ : List ℤ} (k : ℕ) → RunsFilling l first n to r l₁ → k ≡ run_to n r - run_from r - 1
      → joint_boxes (box_at l₁) (first + run_from r) k ≡ run_box_in l first n r
  joined_as {l} {l₁} k so e =
      let (some, most) = run_inside n r below in
      joint_moved (box_at l₁) first (run_from r) k
      ∙ joint_same (λ j. box_at l₁ (first + j)) (λ j. box_at l (first + j)) (run_from r) k
      (λ j h p. same_box l l₁ (first + j) (λ i q u. so.front i (omega arith)))
      ∙ ap (joint_boxes (λ j. box_at l (first + j)) (run_from r)) e

  pub runs_go : {l l₁ l₂ : List ℤ} (k : ℕ) → RunsFilling l first n to r l₁ → k ≡ run_to n r - run_from r - 1
      → BoxStored l₁ (to + r) (joint_boxes (box_at l₁) (first + run_from r) k) l₂ → RunsFilling l first n to (r + 1) l₂
  runs_go {l} {l₁} {l₂} k so e stored =
      let wanted : BoxStored l₁ (to + r) (run_box_in l first n r) l₂ = subst (λ (b : Box). BoxStored l₁ (to + r) b l₂) (joined_as k so e) stored in
      record {
        runs = holds_more so.runs refl wanted;
        front = λ i h. stored.front i (omega arith) ∙ so.front i h;
        behind = λ i h. stored.behind i (omega arith) ∙ so.behind i (omega arith);
        same = stored.same ∙ so.same;
      }

pub runs_all : {l l' : List ℤ} {first n to m : ℕ} → m ≡ runs_of n → RunsFilling l first n to m l' → RunsFilled l first n to l'
runs_all e so = rw e at so
