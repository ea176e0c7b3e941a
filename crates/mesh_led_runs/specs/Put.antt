-- The second places of a row, which stand in front of a list, give its entries.
use Rattle.std.specs.Prelude.{ℕ, ◌+◌, ◌-◌, ◌*◌, ◌≤◌, ◌<◌, Bool, true, false, ◌≡◌, refl, length, get_or, take, drop}
use mathlib.Core.List.{List, [], ◌∷◌, ◌++◌, map, Memᴰ}
use Rattle.std.proofs.Common.{sym, ap, ◌∙◌, subst, arith, length-append, get_or-take, take_at, length-take-le}
use Rattle.std.proofs.lemmas.List.{length-map}
use Rattle.sequences.specs.Chosen.{one, chosen, chosen_members}
use Rattle.sequences.specs.Gather.{gather, gather_same, gather_short}
use Rattle.sequences.specs.Mapped.{map_append}
use Rattle.sequences.specs.Parts.{take_next}
use Rattle.sequences.specs.Rising.{at_place}
use Rattle.meaning.specs.Limits.{part_limit}
use Rattle.meaning.specs.Scene.{Scene}
use Rattle.meaning.specs.List.{Pair, pair}
use Rattle.meaning.specs.MeshRows.{row_test, mesh_number, mesh_entries}
use Rattle.meaning.specs.declared.Kind.{Kind}
use Rattle.meaning.specs.declared.RowPairs.{RowPairs}
use Rattle.list_candidates.specs.Rows.{first_count, second_count, second_from}
use Rattle.list_entries.specs.UpTo.{kept}
use Rattle.mesh_entries.specs.Telling.{mesh_entries_length}
use Rattle.mesh_entries.specs.Entering.{Entered, entered_none, entered_number, entered_then}
use Rattle.mesh_rows.specs.Sifting.{map_gather}
use Rattle.mesh_rows.specs.Rows.{part_row, part_row_short, entry_of, second_of, seconds_of, SecondsPut}
use Rattle.mesh_runs.specs.Runs.{kind_entries}
use Rattle.mesh_order_rows.specs.Sorted.{seconds_in_front, row_seconds}

-- ---- entered one by one

none_taken : (f : ℕ → ℕ) (l : List ℕ) → [] ≡ map f (take 0 l)
none_taken f [] = refl
none_taken f (x ∷ l) = refl

pub places_none : (f : ℕ → ℕ) (l : List ℕ) (most at : ℕ) (o : List ℕ) → Entered most o at (map f (take 0 l)) o at
places_none f l most at o = subst (λ (ns : List ℕ). Entered most o at ns o at) (none_taken f l) (entered_none most o at)

pub places_next : (f : ℕ → ℕ) (l : List ℕ) (c : ℕ) {most at k : ℕ} {o₀ o o' : List ℕ} → c < length l → Entered most o₀ at (map f (take c l)) o k
    → o' ≡ kept most k (f (get_or l c 0)) o
    → Entered most o₀ at (map f (take (c + 1) l)) o' (k + 1)
places_next f l c {most} {at} {k} {o₀} {o} {o'} h so e =
    let whole : map f (take (c + 1) l) ≡ map f (take c l) ++ (f (get_or l c 0) ∷ []) =
    ap (map f) (take_next l c 0 h) ∙ map_append f (take c l) (get_or l c 0 ∷ []) in
    subst (λ (ns : List ℕ). Entered most o₀ at ns o' (k + 1)) (sym whole) (entered_then so (entered_number e))

pub places_count : (f : ℕ → ℕ) (l : List ℕ) (c : ℕ) {most at k : ℕ} {o o' : List ℕ} → c ≤ length l → Entered most o at (map f (take c l)) o' k
    → k ≡ at + c
places_count f l c h e = omega (arith, e.counts, length-map (take c l) f, length-take-le c l h)

-- ---- a row's

-- each second place is that of the row's pair
entries_back : (kind : Kind) (i : ℕ) (t : ℕ → Bool) (a n : ℕ)
    → map (entry_of kind i) (seconds_of (chosen t (pair kind i) a n)) ≡ mesh_entries (chosen t (pair kind i) a n)
entries_back kind i t a n =
    ap (map (entry_of kind i)) (map_gather second_of (λ j. one (t j) (pair kind i j)) n a)
    ∙ map_gather (entry_of kind i) (λ j. map second_of (one (t j) (pair kind i j))) n a
    ∙ gather_same
    (λ j. map (entry_of kind i) (map second_of (one (t j) (pair kind i j))))
    (λ j. map mesh_number (one (t j) (pair kind i j)))
    a n
    (λ j low high. back (t j) j)
    ∙ sym (map_gather mesh_number (λ j. one (t j) (pair kind i j)) n a)
  where
    back : (b : Bool) (j : ℕ) → map (entry_of kind i) (map second_of (one b (pair kind i j))) ≡ map mesh_number (one b (pair kind i j))
    back true j = refl
    back false j = refl

module _ (ps : List Pair) {o o' : List ℕ} {n : ℕ} (put : SecondsPut ps o o' n) where
  long : length (seconds_of ps) ≡ n
  long = length-map ps second_of ∙ sym put.count

  pub put_front : take n o' ≡ seconds_of ps
  put_front = ap (take n) put.list ∙ take_at (seconds_of ps) (drop (length (seconds_of ps)) o) n long

  -- they stand there, whatever stood there before
  pub put_there : SecondsPut ps o' o' n
  put_there = seconds_in_front ps o' n put.count put_front

  pub put_fits : n ≤ length o'
  put_fits =
      omega (arith, long, ap length put.list, length-append (seconds_of ps) (drop (length (seconds_of ps)) o))

module _ (w : RowPairs) (s : Scene) (kind : Kind) (i : ℕ) {o : List ℕ} {n : ℕ} (put : SecondsPut (part_row w s kind i) o o n) where
  pub row_narrow : second_count s kind ≤ part_limit → (c : ℕ) → c < n → get_or o c 0 < 1_073_741_824
  row_narrow few c h =
      let it = get_or (take n o) c 0 in
      let fits = put_fits (part_row w s kind i) put in
      let member : Memᴰ it (take n o) = at_place (take n o) c 0 (omega (arith, length-take-le n o fits)) in
      let stand : take n o ≡ chosen (row_test w s kind i) (λ j. j) (second_from kind i) (second_count s kind) =
      put_front (part_row w s kind i) put ∙ sym (row_seconds w s kind i) in
      let (j, _, there, _, e) =
      (chosen_members (row_test w s kind i) (λ j. j) (second_from kind i) (second_count s kind) it).0 (subst (λ (k : List ℕ). Memᴰ it k) stand member) in
      omega (arith, there, e, get_or-take n o c 0 h)

  pub row_count_few : second_count s kind ≤ part_limit → n ≤ 1_073_741_824
  row_count_few few = omega (arith, put.count, part_row_short w s kind i)

  pub row_entries : map (entry_of kind i) (take n o) ≡ kind_entries w s kind i
  row_entries =
      ap (map (entry_of kind i)) (put_front (part_row w s kind i) put)
      ∙ entries_back kind i (row_test w s kind i) (second_from kind i) (second_count s kind)

  pub row_entered : {most at k : ℕ} {l l' : List ℕ} → Entered most l at (map (entry_of kind i) (take n o)) l' k
      → Entered most l at (kind_entries w s kind i) l' k
  row_entered {most} {at} {k} {l} {l'} e = subst (λ (ns : List ℕ). Entered most l at ns l' k) row_entries e

-- ---- how many pairs some rows have

pub rows_short : (w : RowPairs) (s : Scene) (kind : Kind) → second_count s kind ≤ part_limit → (first i : ℕ)
    → length (gather (kind_entries w s kind) first i) ≤ (i - first) * part_limit
rows_short w s kind few first i =
    gather_short (kind_entries w s kind) part_limit first i
    (λ j p q. omega (arith, mesh_entries_length (part_row w s kind j), part_row_short w s kind j))

-- at most 2^60
pub kind_most : (w : RowPairs) (s : Scene) (kind : Kind) → second_count s kind ≤ part_limit → first_count s kind ≤ part_limit → (first end : ℕ)
    → first ≤ end → end ≤ first + (first_count s kind - first)
    → length (gather (kind_entries w s kind) first end) ≤ 1152921504606846976
kind_most w s kind few rows first end h last = let short = rows_short w s kind few first end in omega arith
