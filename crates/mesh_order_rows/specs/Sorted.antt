-- What a walk over a tree in a lent order finds of a row, sorted, is the row.
use Rattle.std.specs.Prelude.{ℕ, ◌≤◌, ◌<◌, Bool, true, ◌&&◌, List, ◌↔◌, ◌≡◌, refl, leb, ℤ, length, take}
use Rattle.std.proofs.Common.{sym, ap, ◌∙◌, arith, leb-true, le-leb}
use Rattle.std.proofs.lemmas.List.{length-map}
use Rattle.sequences.specs.Chosen.{one, chosen, chosen_short}
use Rattle.sequences.specs.Gather.{gather_same}
use Rattle.sequences.specs.Pick.{both}
use Rattle.sequences.specs.Wrote.{written_unique}
use Rattle.meaning.specs.Scene.{Scene}
use Rattle.meaning.specs.StoredBoxes.{Box}
use Rattle.meaning.specs.List.{Pair, pair}
use Rattle.meaning.specs.MeshRows.{row_test}
use Rattle.meaning.specs.declared.Kind.{Kind}
use Rattle.meaning.specs.declared.RowPairs.{RowPairs}
use Rattle.list_candidates.specs.Rows.{second_count, second_from}
use Rattle.mesh_orders.specs.Orders.{at}
use Rattle.mesh_sort.specs.Sorting.{FrontSorted}
use Rattle.mesh_sort.specs.ByOrder.{by_order, by_order_count}
use Rattle.mesh_walk.specs.Steps.{box_meets}
use Rattle.mesh_entries.specs.Entering.{Entered, entered_wrote, entered_length}
use Rattle.mesh_rows.specs.Asking.{passes, passes_listed}
use Rattle.mesh_rows.specs.Sifting.{sifted_chosen, map_gather, map_one}
use Rattle.mesh_rows.specs.Rows.{part_row, second_of, seconds_of, SecondsPut}
use Rattle.mesh_order_rows.specs.Led.{LedRow, led_test, led_rest}

-- second places that stand in front of a list
pub seconds_in_front : (ps : List Pair) (o : List ℕ) (n : ℕ) → n ≡ length ps → take n o ≡ seconds_of ps → SecondsPut ps o o n
seconds_in_front ps o n e front =
    let long : n ≡ length (seconds_of ps) = e ∙ sym (length-map ps second_of) in
    record { count = e; list = written_unique (seconds_of ps) o o (ap (λ (k : ℕ). take k o) (sym long) ∙ front) refl }

-- a row's second places are the places that its test passes
pub row_seconds : (w : RowPairs) (s : Scene) (kind : Kind) (i : ℕ)
    → chosen (row_test w s kind i) (λ j. j) (second_from kind i) (second_count s kind) ≡ seconds_of (part_row w s kind i)
row_seconds w s kind i =
    gather_same
    (λ j. one (row_test w s kind i j) j)
    (λ j. map_second (one (row_test w s kind i j) (pair kind i j)))
    (second_from kind i) (second_count s kind)
    (λ j a b. sym (map_one second_of (row_test w s kind i j) (pair kind i j)))
    ∙ sym (map_gather second_of (λ j. one (row_test w s kind i j) (pair kind i j)) (second_count s kind) (second_from kind i))
  where
    map_second : List Pair → List ℕ
    map_second ps = seconds_of ps

module _ {s : Scene} {kind : Kind} {i : ℕ} {b : Box} {l : List ℤ} {t : List ℕ} {parts top : ℕ} {o : List ℕ} {from : ℕ} (so : LedRow s kind i b l t parts top o from) (w : RowPairs) where
  abbrev found : ℕ → Bool
  found k = led_test w s kind i o from k && box_meets b l t k

  listed_as : (k : ℕ) → k < parts → passes w s kind i (at o k) && box_meets b l t k ≡ row_test w s kind i (at o k)
  listed_as k h =
      ap (λ (met : Bool). passes w s kind i (at o k) && met) (so.meets k h) ∙ passes_listed w s kind i (at o k)

  agrees : (k : ℕ) → k < parts → (found k ≡ true) ↔ ((from ≤ at o k) × (row_test w s kind i (at o k) ≡ true))
  agrees k h = (
    λ e.
        let (goes, met) = both (led_test w s kind i o from k) (box_meets b l t k) e in
        let (low, pass) = both (leb from (at o k)) (passes w s kind i (at o k)) goes in
        (leb-true from (at o k) low, sym (listed_as k h) ∙ rw (pass, met)),
    λ p.
        let (pass, met) = both (passes w s kind i (at o k)) (box_meets b l t k) (listed_as k h ∙ p.1) in
        rw (le-leb from (at o k) p.0, pass, met),
  )

  module _ {places found' : List ℕ} {count : ℕ} (entered : Entered (length places) places 0 (led_rest w s kind i o from (box_meets b l t) parts 0) found' count) where
    all_found : led_rest w s kind i o from (box_meets b l t) parts 0 ≡ chosen found (at o) 0 parts
    all_found = sifted_chosen (led_test w s kind i o from) (box_meets b l t) (at o) parts 0

    pub few_found : count ≤ parts
    few_found = omega (arith, entered.counts, ap length all_found, chosen_short found (at o) 0 parts)

    module _ (room : parts ≤ length places) where
      front : take count found' ≡ chosen found (at o) 0 parts
      front = (entered_wrote (omega (arith, few_found)) (omega arith) entered).front ∙ all_found

      fits : count ≤ length found'
      fits = omega (arith, few_found, entered_length entered)

      pub led_sorted : {spare : ℕ} {sorted : List ℕ} → FrontSorted count spare found' sorted → SecondsPut (part_row w s kind i) sorted sorted count
      led_sorted {sorted = sorted} done =
          let order = so.led.order in
          let mine : chosen (row_test w s kind i) (λ j. j) from parts ≡ seconds_of (part_row w s kind i) =
          rw (so.begins, so.led.all) (row_seconds w s kind i) in
          let stand = by_order order found (row_test w s kind i) from agrees fits front done in
          let counted = by_order_count order found (row_test w s kind i) from agrees fits front done in
          seconds_in_front (part_row w s kind i) sorted count
          (counted ∙ ap length mine ∙ length-map (part_row w s kind i) second_of)
          (stand ∙ mine)
