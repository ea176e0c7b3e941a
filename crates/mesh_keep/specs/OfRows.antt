-- The pairs of a row, told by its number and the second places that stand in scratch.
use Rattle.std.specs.Prelude.{ℕ, ◌+◌, ◌≤◌, ◌<◌, Bool, true, false, ◌≡◌, refl, length, get_or, take, drop}
use mathlib.Core.List.{List, [], ◌∷◌, ◌++◌, map, Memᴰ}
use Rattle.std.proofs.Common.{sym, ap, ◌∙◌, subst, arith, get_or-take, take_at, length-take-le}
use Rattle.std.proofs.lemmas.List.{length-map}
use Rattle.sequences.specs.Chosen.{one, chosen}
use Rattle.sequences.specs.Gather.{gather_same, gather_none, gather_last, gather_has}
use Rattle.sequences.specs.Mapped.{map_at, map_append}
use Rattle.sequences.specs.Parts.{take_next}
use Rattle.sequences.specs.Rising.{at_place}
use Rattle.sequences.specs.Wrote.{written_length}
use Rattle.meaning.specs.Scene.{Scene}
use Rattle.meaning.specs.Refusals.{not_there}
use Rattle.meaning.specs.List.{Pair, pair}
use Rattle.meaning.specs.MeshRows.{row_test, row_count, mesh_row, rows_in}
use Rattle.meaning.specs.declared.Kind.{Kind}
use Rattle.meaning.specs.declared.Kind.TheVariants.{PointTriangle, EdgeEdge}
use Rattle.meaning.specs.declared.RowPairs.{RowPairs}
use Rattle.meaning.specs.declared.Wanted.{Wanted}
use Rattle.list_candidates.specs.Rows.{second_count, second_from}
use Rattle.list_pairs.specs.InOrder.{list_is}
use Rattle.list_words.specs.Listed.{no_pair}
use Rattle.mesh_laws.specs.Entries.{MeshSized}
use Rattle.mesh_rows.specs.Rows.{part_row, part_row_short, second_of, seconds_of, SecondsPut}
use Rattle.mesh_rows.specs.Sifting.{map_gather}
use Rattle.mesh_words.specs.Asked.{PairThere}
use Rattle.mesh_words.specs.OfRows.{rows_of_list, there_within}
use Rattle.mesh_keep.specs.Keeping.{KeptBy, kept_none, kept_then, kept_as, kept_bound}
use Rattle.mesh_keep.specs.declared.Going.{Going}

-- the first n numbers of a list are second places of pairs that are there
pub record RowOf (s : Scene) (kind : Kind) (i : ℕ) (l : List ℕ) (n : ℕ) : Type 0 where
  pub room : n ≤ length l
  pub low : i < 1073741824
  pub there : (k : ℕ) → k < n → not_there s kind i (get_or l k 0) ≡ false
  pub narrow : (k : ℕ) → k < n → get_or l k 0 < 1073741824

-- their pairs
abbrev pub pairs_of : Kind → ℕ → List ℕ → ℕ → List Pair
pairs_of kind i l k = map (pair kind i) (take k l)

pub pairs_next : (kind : Kind) (i : ℕ) (l : List ℕ) (k : ℕ) → k < length l → pairs_of kind i l (k + 1) ≡ pairs_of kind i l k ++ (pair kind i (get_or l k 0) ∷ [])
pairs_next kind i l k h = ap (map (pair kind i)) (take_next l k 0 h) ∙ map_append (pair kind i) (take k l) (get_or l k 0 ∷ [])

-- the first k of them are judged
pub record RowGoing (s : Scene) (m : Wanted) (most : ℕ) (kind : Kind) (i : ℕ) (l : List ℕ) (n : ℕ) (o v : List ℕ) (g : Going) (o' v' : List ℕ) (g' : Going) (k : ℕ) : Type 0 where
  pub within : k ≤ n
  pub done : KeptBy s m most (pairs_of kind i l k) o v g o' v' g'

pub row_starts : (s : Scene) (m : Wanted) (most : ℕ) (kind : Kind) (i : ℕ) (l : List ℕ) (n : ℕ) (o v : List ℕ) (g : Going)
    → RowGoing s m most kind i l n o v g o v g 0
row_starts s m most kind i l n o v g = record { within = omega arith; done = kept_as (none_taken l) (kept_none s m most o v g) }
  where
    none_taken : (l : List ℕ) → [] ≡ map (pair kind i) (take 0 l)
    none_taken [] = refl
    none_taken (x ∷ l) = refl

module _ {s : Scene} {m : Wanted} {most : ℕ} {kind : Kind} {i : ℕ} {l : List ℕ} {n : ℕ} {o v : List ℕ} {g : Going} {o₁ v₁ : List ℕ} {g₁ : Going} {k : ℕ}
    (so : RowGoing s m most kind i l n o v g o₁ v₁ g₁ k) where
  pub row_goes : {o₂ v₂ : List ℕ} {g₂ : Going} → k < n → n ≤ length l → KeptBy s m most (pair kind i (get_or l k 0) ∷ []) o₁ v₁ g₁ o₂ v₂ g₂
      → RowGoing s m most kind i l n o v g o₂ v₂ g₂ (k + 1)
  row_goes h room b =
      record { within = omega arith; done = kept_as (sym (pairs_next kind i l k (omega arith))) (kept_then so.done b) }

  pub row_few : n ≤ length l → g₁.count ≤ g.count + k
  row_few room =
      omega (arith, kept_bound so.done, length-map (take k l) (pair kind i), length-take-le k l (omega (arith, so.within, room)))

  pub row_ends : n ≤ k → KeptBy s m most (pairs_of kind i l n) o v g o₁ v₁ g₁
  row_ends h = let e : k ≡ n = omega (arith, so.within) in kept_as (ap (pairs_of kind i l) e) so.done

-- ---- a row's second places give it back

seconds_back : (kind : Kind) (i : ℕ) (t : ℕ → Bool) (a n : ℕ) → map (pair kind i) (seconds_of (chosen t (pair kind i) a n)) ≡ chosen t (pair kind i) a n
seconds_back kind i t a n =
    ap (map (pair kind i)) (map_gather second_of (λ j. one (t j) (pair kind i j)) n a)
    ∙ map_gather (pair kind i) (λ j. map second_of (one (t j) (pair kind i j))) n a
    ∙ gather_same (λ j. map (pair kind i) (map second_of (one (t j) (pair kind i j)))) (λ j. one (t j) (pair kind i j)) a n
    (λ j low high. back (t j) j)
  where
    back : (b : Bool) (j : ℕ) → map (pair kind i) (map second_of (one b (pair kind i j))) ≡ one b (pair kind i j)
    back true j = refl
    back false j = refl

module _ (w : RowPairs) (s : Scene) (few : MeshSized s) (row : ℕ) (inside : row < row_count s) (kind : Kind) (i : ℕ) (is : part_row w s kind i ≡ mesh_row w s row) {o o' : List ℕ} {n : ℕ}
    (put : SecondsPut (mesh_row w s row) o o' n)
    (room : length (mesh_row w s row) ≤ length o) where
  row_back : map (pair kind i) (seconds_of (mesh_row w s row)) ≡ mesh_row w s row
  row_back =
      ap (λ (qs : List Pair). map (pair kind i) (seconds_of qs)) (sym is)
      ∙ seconds_back kind i (row_test w s kind i) (second_from kind i) (second_count s kind)
      ∙ is

  long : length (seconds_of (mesh_row w s row)) ≡ n
  long = length-map (mesh_row w s row) second_of ∙ sym put.count

  front : take n o' ≡ seconds_of (mesh_row w s row)
  front = ap (take n) put.list ∙ take_at (seconds_of (mesh_row w s row)) (drop (length (seconds_of (mesh_row w s row))) o) n long

  pub row_pairs : pairs_of kind i o' n ≡ mesh_row w s row
  row_pairs = ap (map (pair kind i)) front ∙ row_back

  member : (p : Pair) → Memᴰ p (mesh_row w s row) → PairThere s p
  member p m =
      (((list_is s).stands p).0
      (rows_of_list s w row (row + 1) (omega arith) p (gather_has (mesh_row w s) (row + 1) row (omega arith) m row (omega arith)))
      ).there

  at : (k : ℕ) → k < n → get_or (mesh_row w s row) k no_pair ≡ pair kind i (get_or o' k 0)
  at k h =
      ap (λ (qs : List Pair). get_or qs k no_pair) (sym row_pairs)
      ∙ map_at (pair kind i) (take n o') k 0 no_pair (omega (arith, ap length front, long))
      ∙ ap (pair kind i) (get_or-take n o' k 0 h)

  pair_there : (k : ℕ) → k < n → PairThere s (pair kind i (get_or o' k 0))
  pair_there k h = subst (PairThere s) (at k h) (member (get_or (mesh_row w s row) k no_pair) (at_place (mesh_row w s row) k no_pair (omega (arith, put.count))))

  pub row_of : i < 1073741824 → RowOf s kind i o' n
  row_of low =
      record {
        room = omega (arith, ap length put.list, written_length (seconds_of (mesh_row w s row)) o (omega (arith, long, put.count)), put.count, room);
        low = low;
        there = pair_there;
        narrow = λ k h. (there_within s few kind i (get_or o' k 0) (pair_there k h)).second_few;
      }

-- ---- row by row

pub rows_next : (w : RowPairs) (s : Scene) (first row : ℕ) → first ≤ row → rows_in w s first row ++ mesh_row w s row ≡ rows_in w s first (row + 1)
rows_next w s first row h = sym (gather_last (mesh_row w s) first row h)

pub rows_none : (w : RowPairs) (s : Scene) (first : ℕ) → [] ≡ rows_in w s first first
rows_none w s first = sym (gather_none (mesh_row w s) first first (omega arith))

-- a row has no more pairs than there are parts
second_few_lem : (s : Scene) → MeshSized s → (kind : Kind) → second_count s kind ≤ 1073741824
unfolding second_count
second_few_lem s few PointTriangle = few.few_triangles
second_few_lem s few EdgeEdge = few.few_edges

pub row_short : (w : RowPairs) (s : Scene) → MeshSized s → (kind : Kind) (i row : ℕ) → part_row w s kind i ≡ mesh_row w s row
    → length (mesh_row w s row) ≤ 1073741824
row_short w s few kind i row is = omega (arith, ap length (sym is), part_row_short w s kind i, second_few_lem s few kind)
