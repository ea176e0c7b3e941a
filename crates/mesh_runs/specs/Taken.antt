-- Second places that were taken for a row: those that are listed, of these, are the row. No box is told here, so that it serves whoever found them.
use Rattle.std.specs.Prelude.{ℕ, ◌+◌, ◌≤◌, ◌<◌, Bool, ◌&&◌, ◌≡◌, leb, ℤ, length, get_or, take, drop}
use mathlib.Core.List.{List, [], ◌∷◌, ◌++◌, Memᴰ}
use Rattle.std.proofs.Common.{sym, ap, ◌∙◌, subst, arith, get_or-take, length-take-le}
use Rattle.std.proofs.Math.Seq.{drop-length}
use Rattle.std.proofs.lemmas.List.{drop_all}
use Rattle.sequences.specs.Chosen.{one, chosen, chosen_none, chosen_first, chosen_members, chosen_short}
use Rattle.sequences.specs.Parts.{drop_next}
use Rattle.sequences.specs.Range.{towards}
use Rattle.sequences.specs.Rising.{at_place}
use Rattle.meaning.specs.Limits.{part_limit}
use Rattle.meaning.specs.Scene.{Scene}
use Rattle.meaning.specs.declared.Kind.{Kind}
use Rattle.meaning.specs.declared.RowPairs.{RowPairs}
use Rattle.mesh_entries.specs.Entering.{Entered, Entering, entering_starts, entering_as, entering_step, entering_ends}
use Rattle.mesh_walk.specs.PutDown.{PutDown}
use Rattle.mesh_rows.specs.Asking.{passes, Askable}
use Rattle.mesh_rows.specs.Sifting.{sifted, sifted_found}
use Rattle.mesh_rows.specs.Rows.{entry_of}
use Rattle.mesh_marks.specs.Marked.{MarkedFor}
use Rattle.mesh_marks.specs.Taking.{is_taken, marked_places}
use Rattle.mesh_runs.specs.Runs.{kind_entries, goes_with, Sought}

pub record Taken (w : RowPairs) (s : Scene) (kind : Kind) (i : ℕ) (ps : List ℕ) (count : ℕ) : Type 0 where
  pub room : count ≤ length ps
  pub asked : (c : ℕ) → c < count → Askable s kind i (get_or ps c 0)
  pub whole : kind_entries w s kind i ≡ sifted (passes w s kind i) (entry_of kind i) (take count ps)
  pub few : length (kind_entries w s kind i) ≤ part_limit

-- ---- a row goes over them, one by one

-- a place that is read in front of a list stands there in the list
pub front_read : (ps : List ℕ) (count c j : ℕ) → count ≤ length ps → c < length (take count ps) → j ≡ get_or (take count ps) c 0
    → (c < count) × (j ≡ get_or ps c 0)
front_read ps count c j room h read =
    let below : c < count = omega (arith, length-take-le count ps room) in
    (below, read ∙ get_or-take count ps c 0 below)

-- what is left of a list from a place on
left_next : (ps : List ℕ) (count c : ℕ) → count ≤ length ps → c < count → drop c (take count ps) ≡ get_or ps c 0 ∷ drop (c + 1) (take count ps)
left_next ps count c room h =
    let long = length-take-le count ps room in
    drop_next (take count ps) c 0 (omega arith) ∙ ap (λ (x : ℕ). x ∷ drop (c + 1) (take count ps)) (get_or-take count ps c 0 h)

left_none : (ps : List ℕ) (count c : ℕ) → count ≤ length ps → c ≡ count → drop c (take count ps) ≡ []
left_none ps count c room all =
    let long : length (take count ps) ≡ c = length-take-le count ps room ∙ sym all in
    ap (λ (n : ℕ). drop n (take count ps)) (sym long) ∙ drop-length (take count ps)

abbrev pub taken_left : RowPairs → Scene → Kind → ℕ → List ℕ → (count c : ℕ) → List ℕ
taken_left w s kind i ps count c = sifted (passes w s kind i) (entry_of kind i) (drop c (take count ps))

module _ (w : RowPairs) {s : Scene} {kind : Kind} {i : ℕ} {ps : List ℕ} {count : ℕ} (so : Taken w s kind i ps count) where
  pub taken_starts : (most at : ℕ) (o : List ℕ) → Entering most o at (kind_entries w s kind i) o at (taken_left w s kind i ps count 0)
  taken_starts most at o = entering_as so.whole (entering_starts most o at (kind_entries w s kind i))

  pub taken_asked : (c j : ℕ) → c < length (take count ps) → j ≡ get_or (take count ps) c 0 → Askable s kind i j
  taken_asked c j h read =
      let there = front_read ps count c j so.room h read in
      rw there.1 (so.asked c there.0)

  pub taken_goes : (c j : ℕ) {most at k k' : ℕ} {o₀ want o o' : List ℕ} → c < length (take count ps) → j ≡ get_or (take count ps) c 0
      → Entering most o₀ at want o k (taken_left w s kind i ps count c)
      → Entered most o k (one (passes w s kind i j) (entry_of kind i j)) o' k'
      → Entering most o₀ at want o' k' (taken_left w s kind i ps count (c + 1))
  unfolding sifted
  taken_goes c j h read so_far e =
      entering_step
      (entering_as (ap (sifted (passes w s kind i) (entry_of kind i)) (drop_next (take count ps) c 0 h)) so_far)
      (rw read at e)

  pub taken_ends : (c : ℕ) {most at k : ℕ} {o₀ want o : List ℕ} → length (take count ps) ≤ c → Entering most o₀ at want o k (taken_left w s kind i ps count c)
      → Entered most o₀ at want o k
  unfolding sifted
  taken_ends c past so_far =
      entering_ends (entering_as (ap (sifted (passes w s kind i) (entry_of kind i)) (drop_all c (take count ps) past)) so_far)

-- ---- of the places of a run those that are marked

-- places sifted by two tests, of which the first is told by their number in the list, are those chosen by it and sifted by the second
two_tests : (a b m : ℕ → Bool) (g : ℕ → ℕ) (ps : List ℕ) (count : ℕ) → count ≤ length ps → ((c : ℕ) → c < count → a (get_or ps c 0) ≡ m c) → (c : ℕ) → c ≤ count
    → sifted (λ j. a j && b j) g (drop c (take count ps)) ≡ sifted b g (chosen m (λ c. get_or ps c 0) c count)
unfolding sifted
two_tests a b m g ps count room told =
    towards count (λ c. c ≤ count → sifted (λ j. a j && b j) g (drop c (take count ps)) ≡ sifted b g (chosen m (λ c. get_or ps c 0) c count))
    (λ c past le.
    ap (sifted (λ j. a j && b j) g) (left_none ps count c room (omega arith))
    ∙ ap (sifted b g) (sym (chosen_none m (λ c. get_or ps c 0) c count past)))
    (λ c lt next le.
    let rest = chosen m (λ c. get_or ps c 0) (c + 1) count in
    ap (sifted (λ j. a j && b j) g) (left_next ps count c room lt)
    ∙ ap (λ (t : Bool). one (t && b (get_or ps c 0)) (g (get_or ps c 0)) ++ sifted (λ j. a j && b j) g (drop (c + 1) (take count ps))) (told c lt)
    ∙ ap (λ (l : List ℕ). one (m c && b (get_or ps c 0)) (g (get_or ps c 0)) ++ l) (next (omega arith))
    ∙ sym (ap (sifted b g) (chosen_first m (λ c. get_or ps c 0) c count lt) ∙ sifted_found b g (m c) (get_or ps c 0) rest))

module _ (w : RowPairs) {s : Scene} {kind : Kind} {i : ℕ} {l : List ℤ} {base row from : ℕ} {ps : List ℕ} {count : ℕ}
    (so : Sought w s kind i l base row from ps count) {ms : List Bool} (marked : MarkedFor l base row ps count ms)
    {o o' : List ℕ} {n : ℕ} (put : PutDown o 0 (marked_places ps ms from count) o' n) (room : count ≤ length o) where
  few_taken : n ≤ count
  few_taken = omega (arith, put.counts, chosen_short (is_taken ps ms from) (λ c. get_or ps c 0) 0 count)

  stand : take n o' ≡ marked_places ps ms from count
  stand = put.front (omega (arith, few_taken))

  -- each of them is one of the run's
  one_of_run : (c : ℕ) → c < n → Askable s kind i (get_or o' c 0)
  one_of_run c h =
      let long : n ≤ length o' = omega (arith, few_taken, put.same) in
      let it = get_or (take n o') c 0 in
      let member = at_place (take n o') c 0 (omega (arith, length-take-le n o' long)) in
      let (q, low, below, test, e) = (chosen_members (is_taken ps ms from) (λ c. get_or ps c 0) 0 count it).0 (subst (λ (k : List ℕ). Memᴰ it k) stand member) in
      subst (λ (j : ℕ). Askable s kind i j) (sym e ∙ get_or-take n o' c 0 h) (so.asked q below)

  pub row_taken : Taken w s kind i o' n
  row_taken =
      record {
        room = omega (arith, few_taken, put.same);
        asked = one_of_run;
        whole =
            so.whole
            ∙ two_tests (goes_with l base row from) (passes w s kind i) (is_taken ps ms from) (entry_of kind i) ps count so.room
            (λ c h. ap (λ (met : Bool). leb from (get_or ps c 0) && met) (sym (marked.at c h)))
            0 (omega arith)
            ∙ ap (sifted (passes w s kind i) (entry_of kind i)) (sym stand);
        few = so.few;
      }
