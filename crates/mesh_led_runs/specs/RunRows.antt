-- What the parts that were found for a run tell of each of its rows: those that its own box meets and that go with it, sifted by what else is asked of a
-- pair, are the row.
use Rattle.std.specs.Prelude.{ℕ, zero, suc, ◌+◌, ◌-◌, ◌≤◌, ◌<◌, Bool, true, false, ◌&&◌, ◌≡◌, refl, leb, ℤ, length, get_or, take}
use Rattle.std.proofs.lemmas.Bool.{false≢true, lt-leb}
use mathlib.Core.List.{List, ◌++◌, map, Memᴰ}
use Rattle.std.proofs.Common.{sym, ap, ◌∙◌, subst, add-one, arith, get_or-take, length-take-le, le-leb}
use Rattle.sequences.specs.Chosen.{one, chosen, chosen_none, chosen_short}
use Rattle.sequences.specs.Gather.{gather, gather_same, gather_last}
use Rattle.sequences.specs.Rising.{at_place}
use Rattle.meaning.specs.Limits.{part_limit}
use Rattle.meaning.specs.Scene.{Scene}
use Rattle.meaning.specs.Boxes.{boxes_meet}
use Rattle.meaning.specs.StoredBoxes.{Box, box_at}
use Rattle.meaning.specs.List.{pair}
use Rattle.meaning.specs.MeshRows.{row_test, mesh_number}
use Rattle.meaning.specs.declared.Kind.{Kind}
use Rattle.meaning.specs.declared.RowPairs.{RowPairs}
use Rattle.list_boxes.specs.Kept.{meet_boxes}
use Rattle.list_candidates.specs.Rows.{first_count, second_count, second_from}
use Rattle.mesh_walk.specs.Places.{places_from, places_exactly, places_skipped}
use Rattle.mesh_walk.specs.Steps.{box_meets}
use Rattle.mesh_walk.specs.PutDown.{PutDown}
use Rattle.mesh_entries.specs.Telling.{mesh_entries_length}
use Rattle.mesh_rows.specs.Asking.{passes, passes_listed, Askable, askable}
use Rattle.mesh_rows.specs.Sifting.{sifted, sifted_chosen, map_gather, map_one}
use Rattle.mesh_rows.specs.Rows.{part_row, part_row_short, entry_of}
use Rattle.mesh_marks.specs.Marked.{Marked}
use Rattle.mesh_marks.specs.Taking.{is_taken, marked_places}
use Rattle.mesh_runs.specs.Runs.{kind_entries, from_rises}
use Rattle.mesh_runs.specs.Taken.{Taken}
use Rattle.mesh_order_rows.specs.Led.{first_box, second_box, boxes_meet_lem, LedTree}
use Rattle.mesh_led_runs.specs.PartBoxes.{own_box, part_box, own_is, part_there, part_is}
use Rattle.mesh_led_runs.specs.RowBoxes.{RowsJoined}
use Rattle.mesh_led_runs.specs.SpreadParts.{PartsIn, PartsSpread}
use Rattle.mesh_led_runs.specs.Leading.{sifted_next, sifted_none, RunFound}

-- what stands in front of a list and was chosen below n is below n
pub front_below : (m : ℕ → Bool) (n a : ℕ) (ps : List ℕ) (count : ℕ) → count ≤ length ps → take count ps ≡ places_from m n a
    → (c : ℕ) → c < count → get_or ps c 0 < n
front_below m n a ps count room stand c h =
    let long = length-take-le count ps room in
    let it = get_or (take count ps) c 0 in
    let member = at_place (take count ps) c 0 (omega arith) in
    let there = (places_exactly m n a it).0 (subst (λ (k : List ℕ). Memᴰ it k) stand member) in
    omega (arith, there.1, get_or-take count ps c 0 h)

-- the rows of a run, whose boxes stand in front of a list with one that covers them, and the parts that this one meets
pub record LedRun (s : Scene) (kind : Kind) (first end : ℕ) (own : List ℤ) (ps : List ℕ) (count : ℕ) : Type 0 where
  pub rows : RowsJoined (first_box s kind) first (end - first) own
  pub room : count ≤ length ps
  pub from : ℕ
  pub before : from ≤ second_from kind first
  pub stand : take count ps ≡ places_from (λ j. meet_boxes (box_at own 16) (second_box s kind j)) (second_count s kind) from
  pub asked : (i j : ℕ) → i < end → j < second_count s kind → Askable s kind i j
  pub few : second_count s kind ≤ part_limit

-- ---- from a tree in a lent order

module _ {s : Scene} {kind : Kind} {l : List ℤ} {t : List ℕ} {parts top : ℕ} {o : List ℕ} (so : LedTree s kind l t parts top o) where
  pub led_run : (first end : ℕ) {own : List ℤ} {ps : List ℕ} {from count : ℕ} → end ≤ first_count s kind
      → RowsJoined (own_box s.edges l kind) first (end - first) own → from ≡ second_from kind first
      → RunFound (box_meets (box_at own 16) l t) o parts from ps count
      → LedRun s kind first end own ps count
  led_run first end {own} {ps} {from} {count} last joined begins found =
      let is : (r : ℕ) → r < end - first → own_box s.edges l kind (first + r) ≡ first_box s kind (first + r) =
      λ r h. own_is so (first + r) (omega arith) in
      record {
        rows = record {
          rows = λ r h. joined.rows r h ∙ is r h;
          covers = λ r h x e. ap (λ (b : Box). meet_boxes b x) (sym (is r h)) ∙ joined.covers r h x e;
        };
        room = found.room;
        from = from;
        before = omega (arith, begins);
        stand =
            rw (← so.all)
            (found.stand (λ j. meet_boxes (box_at own 16) (second_box s kind j))
            (λ k h. ap (λ (b : Box). meet_boxes (box_at own 16) b) (so.leaves k h)));
        asked = λ i j h b.
            askable s kind i j (omega arith) b (omega (arith, so.few_rows)) (omega (arith, so.all, so.few)) so.ends so.corners;
        few = omega (arith, so.all, so.few);
      }

  module _ {first end : ℕ} {own : List ℤ} {ps : List ℕ} {count : ℕ} (run : LedRun s kind first end own ps count) where
    below : (c : ℕ) → c < count → get_or ps c 0 < parts
    below c h =
        omega (arith, so.all, front_below (λ j. meet_boxes (box_at own 16) (second_box s kind j)) (second_count s kind) run.from ps count run.room run.stand c h)

    pub run_parts : PartsIn s.edges s.triangles kind (length l) ps count
    run_parts = record { room = run.room; there = λ c h. part_there so (get_or ps c 0) (below c h) }

    pub run_spread : {six : List ℤ} → PartsSpread (part_box s.edges s.triangles l kind) ps count six → PartsSpread (second_box s kind) ps count six
    run_spread spread = record { at = λ q h. spread.at q h ∙ part_is so (get_or ps q 0) (below q h) }

-- ---- a row of the run

same_test : (goes met found : Bool) → goes ≡ true → (found ≡ false → met ≡ false) → (goes && met) && found ≡ met
same_test true true true e h = refl
same_test true true false e h = sym (h refl)
same_test true false found e h = refl
same_test false met found e h = absurd (false≢true e)

not_yet : (goes met found : Bool) → goes ≡ false → (goes && met) && found ≡ false
not_yet goes met found e = rw e refl

-- of the places of a list those that pass a test
chosen_listed : (t : ℕ → Bool) (l : List ℕ) (n : ℕ) → n ≤ length l
    → chosen (λ c. t (get_or l c 0)) (λ c. get_or l c 0) 0 n ≡ sifted t (λ j. j) (take n l)
chosen_listed t l zero h = chosen_none (λ c. t (get_or l c 0)) (λ c. get_or l c 0) 0 0 (omega arith) ∙ sym (sifted_none t (λ j. j) l)
chosen_listed t l (suc n) h =
    let it : ℕ → List ℕ = λ c. one (t (get_or l c 0)) (get_or l c 0) in
    let last : gather it 0 (suc n) ≡ gather it 0 n ++ it n = rw add-one at (gather_last it 0 n (omega arith)) in
    let next : sifted t (λ j. j) (take (suc n) l) ≡ sifted t (λ j. j) (take n l) ++ it n = rw add-one at (sifted_next t (λ j. j) l n (omega arith)) in
    last ∙ ap (λ (m : List ℕ). m ++ it n) (chosen_listed t l n (omega arith)) ∙ sym next

module _ {s : Scene} {kind : Kind} {first end : ℕ} {own : List ℤ} {ps : List ℕ} {count : ℕ} (so : LedRun s kind first end own ps count)
    (i : ℕ) (low : first ≤ i) (high : i < end) where
  abbrev parts : ℕ
  parts = second_count s kind

  abbrev met : ℕ → Bool
  met j = boxes_meet s kind i j

  abbrev covered : ℕ → Bool
  covered j = meet_boxes (box_at own 16) (second_box s kind j)

  -- goes with the row, and meets it
  abbrev goes : ℕ → Bool
  goes j = leb (second_from kind i) j && met j

  missed : (j : ℕ) → covered j ≡ false → met j ≡ false
  missed j e =
      let place : first + (i - first) ≡ i = omega arith in
      sym (boxes_meet_lem s kind i j)
      ∙ subst (λ (r : ℕ). meet_boxes (first_box s kind r) (second_box s kind j) ≡ false) place
      (so.rows.covers (i - first) (omega arith) (second_box s kind j) e)

  row_goes : sifted goes (λ j. j) (take count ps) ≡ places_from met parts (second_from kind i)
  row_goes =
      let later : so.from ≤ second_from kind i = omega (arith, so.before, from_rises kind first i low) in
      ap (sifted goes (λ j. j)) so.stand
      ∙ sifted_chosen goes covered (λ j. j) parts so.from
      ∙ places_skipped (λ j. goes j && covered j) parts (second_from kind i) so.from later
      (λ j a b there. not_yet (leb (second_from kind i) j) (met j) (covered j) (lt-leb (second_from kind i) j b))
      ∙ gather_same
      (λ j. one (goes j && covered j) j)
      (λ j. one (met j) j)
      (second_from kind i) parts
      (λ j a b.
      ap (λ (t : Bool). one t j)
      (same_test (leb (second_from kind i) j) (met j) (covered j) (le-leb (second_from kind i) j a) (missed j)))

  -- its entries are these places, sifted
  pub row_whole : (w : RowPairs) → kind_entries w s kind i ≡ sifted (passes w s kind i) (entry_of kind i) (places_from met parts (second_from kind i))
  row_whole w =
      let g = entry_of kind i in
      map_gather mesh_number (λ j. one (row_test w s kind i j) (pair kind i j)) (second_count s kind) (second_from kind i)
      ∙ gather_same
      (λ j. map mesh_number (one (row_test w s kind i j) (pair kind i j)))
      (λ j. one (passes w s kind i j && met j) (g j))
      (second_from kind i) (second_count s kind)
      (λ j a b.
      map_one mesh_number (row_test w s kind i j) (pair kind i j)
      ∙ ap (λ (t : Bool). one t (g j)) (sym (passes_listed w s kind i j)))
      ∙ sym (sifted_chosen (passes w s kind i) met g parts (second_from kind i))

  row_few : (w : RowPairs) → length (kind_entries w s kind i) ≤ part_limit
  row_few w = omega (arith, mesh_entries_length (part_row w s kind i), part_row_short w s kind i, so.few)

  -- the places that are marked for the row and go with it
  module _ {six : List ℤ} {ms : List Bool} (spread : PartsSpread (second_box s kind) ps count six) (marked : Marked (box_at own (i - first)) six count ms) where
    mark_tells : (c : ℕ) → c < count → get_or ms c false ≡ met (get_or ps c 0)
    mark_tells c h =
        let place : first + (i - first) ≡ i = omega arith in
        let row : box_at own (i - first) ≡ first_box s kind i =
        so.rows.rows (i - first) (omega arith) ∙ ap (first_box s kind) place in
        let part = spread.at c h in
        marked.at c h ∙ (λ t. meet_boxes (row t) (part t)) ∙ boxes_meet_lem s kind i (get_or ps c 0)

    row_marked : (from : ℕ) → from ≡ second_from kind i → marked_places ps ms from count ≡ places_from met parts (second_from kind i)
    row_marked from begins =
        gather_same
        (λ c. one (is_taken ps ms from c) (get_or ps c 0))
        (λ c. one (goes (get_or ps c 0)) (get_or ps c 0))
        0 count
        (λ c a b. ap (λ (t : Bool). one (leb from (get_or ps c 0) && t) (get_or ps c 0)) (mark_tells c b) ∙ rw begins)
        ∙ chosen_listed goes ps count so.room
        ∙ row_goes

    -- put down in front of a list they serve the row
    pub row_taken : (w : RowPairs) {from : ℕ} → from ≡ second_from kind i → {o o' : List ℕ} {n : ℕ} → PutDown o 0 (marked_places ps ms from count) o' n
        → count ≤ length o → Taken w s kind i o' n
    row_taken w {from} begins {o} {o'} {n} put room =
        let few : n ≤ length o = omega (arith, put.counts, chosen_short (is_taken ps ms from) (λ c. get_or ps c 0) 0 count) in
        let fits : n ≤ length o' = omega (arith, put.same) in
        let stand = put.front few ∙ row_marked from begins in
        record {
          room = fits;
          asked = λ c h. so.asked i (get_or o' c 0) high (front_below met parts (second_from kind i) o' n fits stand c h);
          whole = row_whole w ∙ ap (sifted (passes w s kind i) (entry_of kind i)) (sym stand);
          few = row_few w;
        }
