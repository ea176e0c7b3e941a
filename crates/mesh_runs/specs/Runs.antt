-- Rows in runs: a box that covers the boxes of a run, and the places that it meets, of which each row of the run finds its pairs.
use Rattle.std.specs.Prelude.{ℕ, ◌+◌, ◌*◌, ◌-◌, ◌≤◌, ◌<◌, Bool, true, false, ◌&&◌, ◌≡◌, refl, leb, ℤ, length, get_or, take}
use Rattle.std.proofs.Math.Bool.{and_comm}
use Rattle.std.proofs.lemmas.Bool.{false≢true, lt-leb}
use mathlib.Core.List.{List, Memᴰ}
use Rattle.std.proofs.Common.{⊎_elim, sym, ◌∙◌, subst, arith, get_or-take, length-take-le, le-leb}
use Rattle.std.proofs.Math.Path.{ap}
use Rattle.std.specs.Int.Signed.{le_z}
use Rattle.sequences.specs.Chosen.{one, chosen, chosen_none, chosen_left}
use Rattle.sequences.specs.Gather.{gather_same}
use Rattle.sequences.specs.Range.{le_or_lt, towards}
use Rattle.sequences.specs.Rising.{at_place}
use Rattle.meaning.specs.Limits.{part_limit}
use Rattle.meaning.specs.Scene.{Scene}
use Rattle.meaning.specs.Boxes.{Span, meet}
use Rattle.meaning.specs.Runs.{run_to, run_from}
use Rattle.meaning.specs.StoredBoxes.{Box, box_at, BoxesStand}
use Rattle.meaning.specs.MeshRows.{mesh_number, mesh_entries}
use Rattle.meaning.specs.declared.Kind.{Kind}
use Rattle.meaning.specs.declared.Kind.TheVariants.{PointTriangle, EdgeEdge}
use Rattle.meaning.specs.declared.RowPairs.{RowPairs}
use Rattle.list_boxes.specs.Kept.{meet_boxes}
use Rattle.list_runs.specs.Joined.{joint_boxes, run_misses}
use Rattle.list_runs.specs.Filled.{RunsFilled}
use Rattle.list_candidates.specs.Rows.{first_count, second_from}
use Rattle.mesh_tree.specs.Levels.{nodes_at}
use Rattle.mesh_walk.specs.Places.{places_from, places_exactly}
use Rattle.mesh_walk.specs.Steps.{Tree, box_meets, row_meets}
use Rattle.mesh_walk.specs.PutDown.{PutDown}
use Rattle.mesh_rows.specs.Asking.{passes, Askable}
use Rattle.mesh_rows.specs.Sifting.{sifted, sifted_chosen}
use Rattle.mesh_rows.specs.Rows.{RowTree, part_row, entry_of, whole_row, row_few, row_askable}

-- ---- a box that covers boxes

-- boxes from `first` on: who misses it misses each of them
pub record Covers (b : Box) (l : List ℤ) (first count : ℕ) : Type 0 where
  pub misses : (r : ℕ) → r < count → (x : Box) → meet_boxes b x ≡ false → meet_boxes (box_at l (first + r)) x ≡ false

meet_turned : (p q : Span) → meet p q ≡ meet q p
meet_turned p q = and_comm (le_z p.low q.high) (le_z q.low p.high)

boxes_turned : (p q : Box) → meet_boxes p q ≡ meet_boxes q p
boxes_turned p q =
    let x = meet_turned p.x q.x in
    let y = meet_turned p.y q.y in
    let z = meet_turned p.z q.z in
    λ t. x t && y t && z t

-- the joint box of their copies does
pub joined_covers : {l o o' : List ℤ} (first count : ℕ) → 0 < count → count ≤ 16 → BoxesStand o 0 count (λ r. box_at l (first + r))
    → RunsFilled o 0 count 16 o' → Covers (box_at o' 16) l first count
joined_covers {l} {o} {o'} first count some most copied filled =
    record {
      misses = λ r h x e.
          let f : ℕ → Box = λ j. box_at o (0 + j) in
          let more = run_to count 0 - run_from 0 - 1 in
          let joint : box_at o' 16 ≡ joint_boxes f 0 more = filled.runs.at 0 (omega arith) in
          let missed : meet_boxes x (joint_boxes f 0 more) ≡ false =
          ap (λ (b : Box). meet_boxes x b) (sym joint) ∙ boxes_turned x (box_at o' 16) ∙ e in
          boxes_turned (box_at l (first + r)) x
          ∙ ap (λ (b : Box). meet_boxes x b) (sym (copied.at r h))
          ∙ run_misses x f 0 more missed r (omega arith) (omega arith);
    }

-- ---- the rows of a kind

-- the tree over the second parts of a kind, and where the boxes of the first parts stand
pub record KindTree (s : Scene) (kind : Kind) (l : List ℤ) (t : List ℕ) (parts top offset : ℕ) : Type 0 where
  pub row : (i : ℕ) → i < first_count s kind → RowTree s kind i l t parts top (offset + i) (second_from kind i)
  pub tree : Tree l t parts top
  pub inside : 6 * (offset + first_count s kind) ≤ length l
  pub few : parts ≤ part_limit
  pub few_rows : first_count s kind ≤ part_limit
  pub low : offset ≤ part_limit

abbrev pub kind_entries : RowPairs → Scene → Kind → ℕ → List ℕ
kind_entries w s kind i = mesh_entries (part_row w s kind i)

-- ---- the places that were found for a run

-- whether a place goes with a row, its box meets the row's, and what else is asked
abbrev pub goes_with : List ℤ → (base row from : ℕ) → ℕ → Bool
goes_with l base row from j = leb from j && meet_boxes (box_at l row) (box_at l (base + j))

pub record Sought (w : RowPairs) (s : Scene) (kind : Kind) (i : ℕ) (l : List ℤ) (base row from : ℕ) (ps : List ℕ) (count : ℕ) : Type 0 where
  pub room : count ≤ length ps
  pub inside : 6 * row + 5 < length l
  pub reach : (c : ℕ) → c < count → 6 * (base + get_or ps c 0) + 5 < length l
  pub asked : (c : ℕ) → c < count → Askable s kind i (get_or ps c 0)
  pub whole : kind_entries w s kind i
      ≡ sifted (λ j. goes_with l base row from j && passes w s kind i j) (entry_of kind i) (take count ps)
  pub few : length (kind_entries w s kind i) ≤ part_limit

abbrev pub AllSought : RowPairs → Scene → Kind → List ℤ → (base offset first end : ℕ) → List ℕ → ℕ → Type 0
AllSought w s kind l base offset first end ps count =
    (i : ℕ) → first ≤ i → i < end → Sought w s kind i l base (offset + i) (second_from kind i) ps count

-- of the second parts those in front are passed by
chosen_skipped : (m : ℕ → Bool) (g : ℕ → ℕ) (n b a : ℕ) → a ≤ b → ((j : ℕ) → a ≤ j → j < b → j < n → m j ≡ false)
    → chosen m g a n ≡ chosen m g b n
chosen_skipped m g n b =
    towards b (λ a. a ≤ b → ((j : ℕ) → a ≤ j → j < b → j < n → m j ≡ false) → chosen m g a n ≡ chosen m g b n)
    (λ a past le none. let here : a ≡ b = omega arith in ap (λ (k : ℕ). chosen m g k n) here)
    (λ a lt next le none.
    ⊎_elim
    (λ end. chosen_none m g a n end ∙ sym (chosen_none m g b n (omega arith)))
    (λ there.
    chosen_left m g a n there (none a (omega arith) lt there)
    ∙ next (omega arith) (λ j low high few. none j (omega arith) high few))
    (le_or_lt n a))

-- a place that goes with the row and is entered was found
same_test : (goes met found pass : Bool) → goes ≡ true → (found ≡ false → met && pass ≡ false) → ((goes && met) && pass) && found ≡ pass && met
same_test true true true true e h = refl
same_test true true true false e h = refl
same_test true true false true e h = sym (h refl)
same_test true true false false e h = refl
same_test true false found true e h = refl
same_test true false found false e h = refl
same_test false met found pass e h = absurd (false≢true e)

not_yet : (goes met found pass : Bool) → goes ≡ false → ((goes && met) && pass) && found ≡ false
not_yet goes met found pass e = rw e refl

module _ {s : Scene} {kind : Kind} {i : ℕ} {l : List ℤ} {t : List ℕ} {parts top row from : ℕ} (so : RowTree s kind i l t parts top row from)
    (w : RowPairs) (m : ℕ → Bool) (covers : (j : ℕ) → j < parts → m j ≡ false → row_meets l t row j && passes w s kind i j ≡ false)
    (start : ℕ) (before : start ≤ from) where
  abbrev sought : ℕ → Bool
  sought j = goes_with l (get_or t 0 0) row from j && passes w s kind i j

  from_found : kind_entries w s kind i ≡ sifted sought (entry_of kind i) (places_from m parts start)
  from_found =
      let g = entry_of kind i in
      whole_row so mesh_number w
      ∙ sifted_chosen (passes w s kind i) (row_meets l t row) g parts from
      ∙ sym (gather_same
      (λ j. one (sought j && m j) (g j))
      (λ j. one (passes w s kind i j && row_meets l t row j) (g j))
      from parts
      (λ j low high.
      ap (λ (b : Bool). one b (g j))
      (same_test (leb from j) (row_meets l t row j) (m j) (passes w s kind i j) (le-leb from j low) (covers j high))))
      ∙ sym (chosen_skipped (λ j. sought j && m j) g parts from start before
      (λ j low high there. not_yet (leb from j) (row_meets l t row j) (m j) (passes w s kind i j) (lt-leb from j high)))
      ∙ sym (sifted_chosen sought m g parts start)

  module _ (ps : List ℕ) (count : ℕ) (room : count ≤ length ps) (stand : take count ps ≡ places_from m parts start) where
    found_below : (c : ℕ) → c < count → get_or ps c 0 < parts
    found_below c h =
        let long = length-take-le count ps room in
        let it = get_or (take count ps) c 0 in
        let member = at_place (take count ps) c 0 (omega arith) in
        let there = (places_exactly m parts start it).0 (subst (λ (k : List ℕ). Memᴰ it k) stand member) in
        omega (arith, there.1, get_or-take count ps c 0 h)

    pub row_sought : Sought w s kind i l (get_or t 0 0) row from ps count
    unfolding nodes_at
    row_sought =
        record {
          room = room;
          inside = so.inside;
          reach = λ c h. omega (arith, found_below c h, so.tree.inside 0 (omega arith));
          asked = λ c h. row_askable so (get_or ps c 0) (found_below c h);
          whole = from_found ∙ ap (sifted sought (entry_of kind i)) (sym stand);
          few = omega (arith, row_few so mesh_number w, so.few);
        }

-- the first second part of a later row is no earlier
pub from_rises : (kind : Kind) (i j : ℕ) → i ≤ j → second_from kind i ≤ second_from kind j
unfolding second_from
from_rises PointTriangle i j h = omega arith
from_rises EdgeEdge i j h = omega arith

-- the places that the covering box meets serve each row of the run
pub run_sought : (w : RowPairs) {s : Scene} {kind : Kind} {l : List ℤ} {t : List ℕ} {parts top offset : ℕ} → KindTree s kind l t parts top offset
    → (first end : ℕ) → first < end → end ≤ first_count s kind → (b : Box) → Covers b l (offset + first) (end - first)
    → {o o' : List ℕ} {from n : ℕ} → from ≡ second_from kind first → n ≤ length o
    → PutDown o 0 (places_from (box_meets b l t) parts from) o' n
    → AllSought w s kind l (get_or t 0 0) offset first end o' n
run_sought w {s} {kind} {l} {t} {parts} {top} {offset} so first end some most b covers {o} {o'} {from} {n} begins fits found i low high =
    let place : offset + first + (i - first) ≡ offset + i = omega arith in
    row_sought (so.row i (omega arith)) w (box_meets b l t)
    (λ j h e.
    ap (λ (met : Bool). met && passes w s kind i j)
    (subst (λ (k : ℕ). meet_boxes (box_at l k) (box_at l (get_or t 0 0 + j)) ≡ false) place
    (covers.misses (i - first) (omega arith) (box_at l (get_or t 0 0 + j)) e)))
    from (omega (arith, begins, from_rises kind first i low)) o' n
    (omega (arith, found.same))
    (found.front fits)
