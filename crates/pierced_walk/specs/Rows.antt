-- What the row of one edge goes by: a tree over the triangles at that time, and the edge's own box. The places that a walk finds in it, sifted by what is
-- pierced without a shared vertex, are the row.
use Rattle.std.specs.Prelude.{ℕ, ◌+◌, ◌*◌, ◌≤◌, ◌<◌, Bool, true, false, not, ◌&&◌, List, ◌≡◌, refl, ℤ, length}
use Rattle.std.proofs.Common.{sym, ap, ◌∙◌, arith}
use Rattle.sequences.specs.Chosen.{one, chosen}
use Rattle.sequences.specs.Gather.{gather_same}
use Rattle.meaning.specs.Scene.{Scene, vertex_count, edge_count, triangle_count}
use Rattle.meaning.specs.Boxes.{x_axis, y_axis, z_axis}
use Rattle.meaning.specs.List.{pair}
use Rattle.meaning.specs.MeshRows.{mesh_number, mesh_kind_part}
use Rattle.meaning.specs.Pierced.{PiercedIs, end_is_corner}
use Rattle.meaning.specs.PiercedRows.{meet_at, may_pierce, through_row}
use Rattle.meaning.specs.declared.Frame.{Frame}
use Rattle.meaning.specs.declared.Kind.TheVariants.{PointTriangle}
use Rattle.scene_checks.specs.Facts.{Sound}
use Rattle.list_entries.specs.UpTo.{kept}
use Rattle.mesh_tree.specs.Levels.{nodes_at, first_under}
use Rattle.mesh_walk.specs.Places.{places_from, places_start, places_end, Stepped}
use Rattle.mesh_walk.specs.Steps.{Tree, row_meets}
use Rattle.mesh_entries.specs.Entering.{Entered, Entering, entering_starts, entering_as, entering_step, entering_ends}
use Rattle.mesh_rows.specs.Sifting.{sifted, sifted_found, sifted_chosen}
use Rattle.frame_boxes.specs.Grove.{Grove, row_meets_lem}
use Rattle.through_laws.specs.Deciding.{is_pierced, found_pierced}
use Rattle.through_laws.specs.Listing.{entry_of, entries_of, row_entries, row_short}

-- no vertex shared, and pierced
abbrev pub passes : Frame → Scene → ℕ → ℕ → Bool
passes f s i j = not (end_is_corner s i j) && is_pierced f s i j

-- the row of edge i: the tree over the triangles has the levels t in the list l, and box `row` of it is the edge's
pub record EdgeRow (f : Frame) (s : Scene) (i : ℕ) (l : List ℤ) (t : List ℕ) (parts top row : ℕ) : Type 0 where
  pub tree : Tree l t parts top
  pub inside : 6 * row + 5 < length l
  pub there : i < edge_count s
  pub all : parts ≡ triangle_count s
  pub meets : (j : ℕ) → j < parts → row_meets l t row j ≡ (meet_at f s i j x_axis && meet_at f s i j y_axis && meet_at f s i j z_axis)
  pub few : parts ≤ 1_073_741_824
  pub low : i < 1_073_741_824
  pub sound : Sound s

pub edge_row_lem : {f : Frame} {s : Scene} {l : List ℤ} {t : List ℕ} {top : ℕ} → Grove f s l t top → Sound s → (i row n : ℕ) → i < edge_count s
    → row ≡ vertex_count s + i → n ≡ triangle_count s → EdgeRow f s i l t n top row
edge_row_lem so sound i row n h e k =
    rw k (record {
      tree = so.over;
      inside = omega (arith, so.boxed.room);
      there = h;
      all = refl;
      meets = λ j q. row_meets_lem so i row j h e q;
      few = so.few_triangles;
      low = omega (arith, so.few_edges);
      sound = sound;
    })

-- ---- what one triangle gives

module _ (f : Frame) (s : Scene) (i j : ℕ) where
  module _ {shared : Bool} (is : shared ≡ end_is_corner s i j) where
    pub shared_fails : shared ≡ true → false ≡ passes f s i j
    shared_fails e = rw (← is, e)

    pub asked_passes : {r : Bool} → shared ≡ false → PiercedIs s f i j r → r ≡ passes f s i j
    asked_passes e h = rw (← is, e) (found_pierced s f i j h)

  module _ {found : Bool} where
    pub found_passes : {r : Bool} → found ≡ true → r ≡ passes f s i j → r ≡ found && passes f s i j
    found_passes e h = rw e h

    pub none_found : found ≡ false → false ≡ found && passes f s i j
    none_found e = rw e

-- the number of an entry is that of a point and a triangle in these places
point_number : (i j : ℕ) → mesh_number (pair PointTriangle i j) ≡ entry_of i j
unfolding mesh_number mesh_kind_part
point_number i j = omega arith

pub kept_through : (most k i j : ℕ) (o : List ℕ) {o' : List ℕ} → o' ≡ kept most k (mesh_number (pair PointTriangle i j)) o
    → o' ≡ kept most k (entry_of i j) o
kept_through most k i j o e = e ∙ ap (λ (n : ℕ). kept most k n o) (point_number i j)

-- ---- a walk's places are the row

-- what is left of a row, of the places from one on
abbrev pub left_of : Frame → Scene → ℕ → (ℕ → Bool) → ℕ → ℕ → List ℕ
left_of f s i m n a = sifted (passes f s i) (entry_of i) (places_from m n a)

-- the two tests in another order
reordered : (a b c : Bool) → (a && b) && c ≡ (a && c) && b
reordered false b c = refl
reordered true true true = refl
reordered true true false = refl
reordered true false true = refl
reordered true false false = refl

module _ {f : Frame} {s : Scene} {i : ℕ} {l : List ℤ} {t : List ℕ} {parts top row : ℕ} (so : EdgeRow f s i l t parts top row) where
  row_pierced : chosen (λ j. passes f s i j && row_meets l t row j) (entry_of i) 0 parts ≡ entries_of f s (through_row f s i)
  row_pierced =
      rw so.all
      (gather_same
      (λ j. one (passes f s i j && row_meets l t row j) (entry_of i j))
      (λ j. one (may_pierce f s i j && is_pierced f s i j) (entry_of i j))
      0 (triangle_count s)
      (λ j a b.
      ap (λ (m : Bool). one (passes f s i j && m) (entry_of i j)) (so.meets j (omega (arith, so.all)))
      ∙ ap (λ (m : Bool). one m (entry_of i j))
      (reordered (not (end_is_corner s i j)) (is_pierced f s i j) (meet_at f s i j x_axis && meet_at f s i j y_axis && meet_at f s i j z_axis)))
      ∙ sym (row_entries f s i))

  whole_row : entries_of f s (through_row f s i) ≡ left_of f s i (row_meets l t row) parts 0
  whole_row = sym (sifted_chosen (passes f s i) (row_meets l t row) (entry_of i) parts 0 ∙ row_pierced)

  -- a walk that has come to a node that has the first triangle as its first part has all of the row before it
  pub row_starts : (most at : ℕ) (o : List ℕ) (v r : ℕ) → first_under v r ≡ first_under 0 0
      → Entering most o at (entries_of f s (through_row f s i)) o at (left_of f s i (row_meets l t row) parts (first_under v r))
  row_starts most at o v r e =
      entering_as
      (whole_row ∙ ap (sifted (passes f s i) (entry_of i)) (places_start (row_meets l t row) parts 0 v r e))
      (entering_starts most o at (entries_of f s (through_row f s i)))

  pub row_few : length (entries_of f s (through_row f s i)) ≤ 1_073_741_824
  row_few = omega (arith, row_short f s i, so.all, so.few)

-- what a step has found is entered, if it passes
pub row_goes : (f : Frame) (s : Scene) (i : ℕ) {m : ℕ → Bool} {n v r most at k : ℕ} {o₀ want o : List ℕ}
    → Entering most o₀ at want o k (left_of f s i m n (first_under v r)) → {top v' r' k' : ℕ} {found : Bool} {o' : List ℕ}
    → Stepped m n top v r v' r' found → Entered most o k (one (found && passes f s i r) (entry_of i r)) o' k'
    → Entering most o₀ at want o' k' (left_of f s i m n (first_under v' r'))
row_goes f s i {m} {n} {r = r} w {v' = v'} {r'} {found = found} so e =
    entering_step
    (entering_as
    (ap (sifted (passes f s i) (entry_of i)) so.rest
    ∙ sifted_found (passes f s i) (entry_of i) found r (places_from m n (first_under v' r')))
    w)
    e

-- no node is left
pub row_ends : (f : Frame) (s : Scene) (i : ℕ) (m : ℕ → Bool) (n v r : ℕ) {most at k : ℕ} {o₀ want o : List ℕ} → nodes_at n v ≤ r
    → Entering most o₀ at want o k (left_of f s i m n (first_under v r)) → Entered most o₀ at want o k
unfolding sifted
row_ends f s i m n v r past w =
    entering_ends (entering_as (ap (sifted (passes f s i) (entry_of i)) (places_end m n v r past)) w)
