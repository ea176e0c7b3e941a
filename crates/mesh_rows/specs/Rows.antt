-- What one row of a mesh's list goes by: a tree over the parts of the other kind, and the row's own box. The places that a walk finds in it, sifted by
-- what else is asked of a pair, are the row's pairs.
use Rattle.std.specs.Prelude.{ℕ, ◌+◌, ◌*◌, ◌≤◌, ◌<◌, Bool, true, false, ◌&&◌, List, map, ◌≡◌, ℤ, length, get_or}
use Rattle.std.proofs.Math.Path.{refl, sym, ap}
use Rattle.std.proofs.Common.{◌∙◌, arith}
use Rattle.std.proofs.Math.Nat.{zero-add}
use Rattle.std.proofs.lemmas.List.{length-map}
use Rattle.sequences.specs.Chosen.{one, chosen, chosen_short}
use Rattle.sequences.specs.Gather.{gather, gather_same}
use Rattle.sequences.specs.Wrote.{written, wrote_front}
use Rattle.meaning.specs.Limits.{part_limit}
use Rattle.meaning.specs.Scene.{Scene, vertex_count, edge_count, triangle_count, edge_end, corner}
use Rattle.meaning.specs.Boxes.{boxes_meet, meet_on}
use Rattle.meaning.specs.StoredBoxes.{box_at, vertex_box, edge_box, triangle_box}
use Rattle.meaning.specs.List.{Pair, pair}
use Rattle.meaning.specs.MeshRows.{row_test, mesh_row, rows_in, mesh_number, mesh_entries}
use Rattle.meaning.specs.declared.Kind.{Kind}
use Rattle.meaning.specs.declared.Kind.TheVariants.{PointTriangle, EdgeEdge}
use Rattle.meaning.specs.declared.RowPairs.{RowPairs}
use Rattle.list_boxes.specs.Kept.{meet_boxes}
use Rattle.list_candidates.specs.Rows.{first_count, second_count, second_from}
use Rattle.mesh_laws.specs.Rows.{vertex_row_lem, edge_row_lem}
use Rattle.mesh_tree.specs.Levels.{nodes_at, first_under}
use Rattle.mesh_walk.specs.Places.{places_from, places_start, places_end, Stepped}
use Rattle.mesh_walk.specs.Steps.{Tree, row_meets}
use Rattle.mesh_boxes.specs.Led.{part_itself}
use Rattle.mesh_trees.specs.Forest.{Forest}
use Rattle.mesh_entries.specs.Entering.{Entered, entered_wrote, Entering, entering_starts, entering_as, entering_step, entering_ends}
use Rattle.mesh_rows.specs.Asking.{passes, passes_listed, Askable, askable}
use Rattle.mesh_rows.specs.Sifting.{sifted, sifted_found, sifted_chosen, map_gather, map_one}

-- the row of a first part: the tree over the second parts has the levels t in the list l, and box `row` of it is the first part's
pub record RowTree (s : Scene) (kind : Kind) (i : ℕ) (l : List ℤ) (t : List ℕ) (parts top row from : ℕ) : Type 0 where
  pub tree : Tree l t parts top
  pub inside : 6 * row + 5 < length l
  pub there : i < first_count s kind
  pub all : parts ≡ second_count s kind
  pub begins : from ≡ second_from kind i
  pub meets : (j : ℕ) → j < parts → row_meets l t row j ≡ boxes_meet s kind i j
  pub few : parts ≤ part_limit
  pub low : i < part_limit
  pub ends : (m k : ℕ) → m < edge_count s → k < 2 → edge_end s m k < vertex_count s
  pub corners : (m k : ℕ) → m < triangle_count s → k < 3 → corner s m k < vertex_count s

-- its pairs
abbrev pub part_row : RowPairs → Scene → Kind → ℕ → List Pair
part_row w s kind i = chosen (row_test w s kind i) (pair kind i) (second_from kind i) (second_count s kind)

pub part_row_short : (w : RowPairs) (s : Scene) (kind : Kind) (i : ℕ) → length (part_row w s kind i) ≤ second_count s kind
part_row_short w s kind i = omega (arith, chosen_short (row_test w s kind i) (pair kind i) (second_from kind i) (second_count s kind))

-- ---- a walk's places are the row

abbrev pub entry_of : Kind → ℕ → ℕ → ℕ
entry_of kind i j = mesh_number (pair kind i j)

-- the second places of pairs
abbrev pub second_of : Pair → ℕ
second_of p = p.second

abbrev pub seconds_of : List Pair → List ℕ
seconds_of ps = map second_of ps

-- what is left of a row, of the places from one on, each pair as one number
abbrev pub left_of : (Pair → ℕ) → RowPairs → Scene → Kind → ℕ → (ℕ → Bool) → ℕ → ℕ → List ℕ
left_of f w s kind i m n a = sifted (passes w s kind i) (λ j. f (pair kind i j)) (places_from m n a)

module _ {s : Scene} {kind : Kind} {i : ℕ} {l : List ℤ} {t : List ℕ} {parts top row from : ℕ} (so : RowTree s kind i l t parts top row from) where
  -- of a part that is found there may be asked
  pub row_askable : (j : ℕ) → j < parts → Askable s kind i j
  row_askable j h =
      askable s kind i j so.there (omega (arith, so.all)) so.low (omega (arith, so.few)) so.ends so.corners

  module _ (f : Pair → ℕ) (w : RowPairs) where
    row_listed : chosen (λ j. passes w s kind i j && row_meets l t row j) (λ j. f (pair kind i j)) from parts
        ≡ chosen (row_test w s kind i) (λ j. f (pair kind i j)) from parts
    row_listed =
        gather_same
        (λ j. one (passes w s kind i j && row_meets l t row j) (f (pair kind i j)))
        (λ j. one (row_test w s kind i j) (f (pair kind i j)))
        from parts
        (λ j a b.
        ap (λ (m : Bool). one (passes w s kind i j && m) (f (pair kind i j))) (so.meets j b)
        ∙ ap (λ (m : Bool). one m (f (pair kind i j))) (passes_listed w s kind i j))

    row_numbers : chosen (row_test w s kind i) (λ j. f (pair kind i j)) from parts ≡ map f (part_row w s kind i)
    row_numbers =
        rw (so.all, so.begins)
        (gather_same
        (λ j. one (row_test w s kind i j) (f (pair kind i j)))
        (λ j. map f (one (row_test w s kind i j) (pair kind i j)))
        (second_from kind i) (second_count s kind)
        (λ j a b. sym (map_one f (row_test w s kind i j) (pair kind i j)))
        ∙ sym (map_gather f (λ j. one (row_test w s kind i j) (pair kind i j)) (second_count s kind) (second_from kind i)))

    pub whole_row : map f (part_row w s kind i) ≡ left_of f w s kind i (row_meets l t row) parts from
    whole_row =
        sym (sifted_chosen (passes w s kind i) (row_meets l t row) (λ j. f (pair kind i j)) parts from ∙ row_listed ∙ row_numbers)

    -- a walk that has come to a node that has the row's first place as its first part has all of the row before it
    pub row_starts : (most at : ℕ) (o : List ℕ) (v r : ℕ) → first_under v r ≡ first_under 0 from
        → Entering most o at (map f (part_row w s kind i)) o at (left_of f w s kind i (row_meets l t row) parts (first_under v r))
    row_starts most at o v r e =
        entering_as
        (whole_row ∙ ap (sifted (passes w s kind i) (λ j. f (pair kind i j))) (places_start (row_meets l t row) parts from v r e))
        (entering_starts most o at (map f (part_row w s kind i)))

    pub row_few : length (map f (part_row w s kind i)) ≤ parts
    row_few = omega (arith, length-map (part_row w s kind i) f, part_row_short w s kind i, so.all)

module _ (f : Pair → ℕ) (w : RowPairs) (s : Scene) (kind : Kind) (i : ℕ) {m : ℕ → Bool} {n v r : ℕ} {most at k : ℕ} {o₀ want o : List ℕ}
    (so_far : Entering most o₀ at want o k (left_of f w s kind i m n (first_under v r))) where
  -- what a step has found is entered, if it is listed
  pub row_goes : {top v' r' k' : ℕ} {found : Bool} {o' : List ℕ} → Stepped m n top v r v' r' found
      → Entered most o k (one (found && passes w s kind i r) (f (pair kind i r))) o' k'
      → Entering most o₀ at want o' k' (left_of f w s kind i m n (first_under v' r'))
  row_goes {v' = v'} {r'} {found = found} so e =
      entering_step
      (entering_as
      (ap (sifted (passes w s kind i) (λ j. f (pair kind i j))) so.rest
      ∙ sifted_found (passes w s kind i) (λ j. f (pair kind i j)) found r (places_from m n (first_under v' r')))
      so_far)
      e

-- no node is left
pub row_ends : (f : Pair → ℕ) (w : RowPairs) (s : Scene) (kind : Kind) (i : ℕ) (m : ℕ → Bool) (n v r : ℕ) {most at k : ℕ} {o₀ want o : List ℕ}
    → nodes_at n v ≤ r → Entering most o₀ at want o k (left_of f w s kind i m n (first_under v r)) → Entered most o₀ at want o k
unfolding sifted
row_ends f w s kind i m n v r past so_far =
    entering_ends (entering_as (ap (sifted (passes w s kind i) (λ j. f (pair kind i j))) (places_end m n v r past)) so_far)

-- ---- the second places of a row

-- of pairs: how many they are, and their second places in front of a list that was o and is o'
pub record SecondsPut (ps : List Pair) (o o' : List ℕ) (n : ℕ) : Type 0 where
  pub count : n ≡ length ps
  pub list : o' ≡ written (seconds_of ps) o

-- entered with room for all of them they stand there
pub seconds_put : (ps : List Pair) {o o' : List ℕ} {n : ℕ} → length ps ≤ length o → Entered (length o) o 0 (seconds_of ps) o' n → SecondsPut ps o o' n
seconds_put ps {o} room e =
    let long = length-map ps second_of in
    record {
      count = omega (arith, e.counts);
      list = wrote_front (entered_wrote (omega (arith, e.counts)) (omega arith) e);
    }

pub seconds_as : {ps qs : List Pair} {o o' : List ℕ} {n : ℕ} → ps ≡ qs → SecondsPut ps o o' n → SecondsPut qs o o' n
seconds_as e p = rw e at p

-- ---- the two kinds of rows in a forest, where no order is lent for the second parts

module _ {s : Scene} {p q : List ℕ} {l : List ℤ} {e t : List ℕ} {edge_top triangle_top : ℕ} (so : Forest s p q l e t edge_top triangle_top) where
  triangle_at : length q ≡ 0 → (j : ℕ) → j < triangle_count s → box_at l (get_or t 0 0 + j) ≡ triangle_box s j
  triangle_at none j h =
      ap (λ (n : ℕ). box_at l (n + j)) so.triangles_from ∙ so.boxed.triangles.at j h ∙ ap (triangle_box s) (part_itself q j none)

  edge_at : length p ≡ 0 → (n j : ℕ) → n ≡ vertex_count s → j < edge_count s → box_at l (n + j) ≡ edge_box s j
  edge_at none n j from h =
      ap (λ (n : ℕ). box_at l (n + j)) from ∙ so.boxed.edges.at j h ∙ ap (edge_box s) (part_itself p j none)

  pub vertex_tree : length q ≡ 0 → (v n from : ℕ) → v < vertex_count s → n ≡ triangle_count s → from ≡ 0
      → RowTree s PointTriangle v l t n triangle_top v from
  unfolding first_count second_count second_from meet_on
  vertex_tree none v n from h k b =
      let own : box_at l v ≡ vertex_box s v = rw zero-add at (so.boxed.vertices.at v h) in
      rw k (record {
        tree = so.over_triangles;
        inside = omega (arith, so.boxed.room);
        there = h;
        all = refl;
        begins = b;
        meets = λ j q. let other = triangle_at none j q in λ u. meet_boxes (own u) (other u);
        few = so.few_triangles;
        low = omega (arith, so.few_vertices);
        ends = so.ends;
        corners = so.corners;
      })

  pub edge_tree : length p ≡ 0 → (i row n from : ℕ) → i < edge_count s → row ≡ vertex_count s + i → n ≡ edge_count s → from ≡ i + 1
      → RowTree s EdgeEdge i l e n edge_top row from
  unfolding first_count second_count second_from meet_on
  edge_tree none i row n from h p k b =
      let own : box_at l row ≡ edge_box s i = ap (box_at l) p ∙ edge_at none (vertex_count s) i refl h in
      rw k (record {
        tree = so.over_edges;
        inside = omega (arith, so.boxed.room);
        there = h;
        all = refl;
        begins = b;
        meets = λ j q. let other = edge_at none (get_or e 0 0) j so.edges_from q in λ u. meet_boxes (own u) (other u);
        few = so.few_edges;
        low = omega (arith, so.few_edges);
        ends = so.ends;
        corners = so.corners;
      })

-- the row of a number is that of a vertex, or of an edge
module _ (w : RowPairs) (s : Scene) where
  pub vertex_row_of : (v : ℕ) → v < vertex_count s → part_row w s PointTriangle v ≡ mesh_row w s v
  unfolding second_count second_from
  vertex_row_of v h = sym (vertex_row_lem w s v h)

  pub edge_row_of : (i row : ℕ) → row ≡ vertex_count s + i → part_row w s EdgeEdge i ≡ mesh_row w s row
  unfolding second_count second_from
  edge_row_of i row e = sym (ap (mesh_row w s) e ∙ edge_row_lem w s i)

-- ---- a stretch of rows

abbrev pub row_entries : RowPairs → Scene → ℕ → List ℕ
row_entries w s i = mesh_entries (mesh_row w s i)

pub rows_gathered : (w : RowPairs) (s : Scene) (a b : ℕ) → gather (row_entries w s) a b ≡ mesh_entries (rows_in w s a b)
rows_gathered w s a b = sym (map_gather mesh_number (mesh_row w s) b a)
