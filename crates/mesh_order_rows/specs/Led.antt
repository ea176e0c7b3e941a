-- What a row goes by where an order of the second parts is lent: in place k of the tree stands the part to which the order leads from k. The places that a walk
-- finds, each taken to its part and sifted, are those of the row, in another order.
use Rattle.std.specs.Prelude.{ℕ, ◌+◌, ◌*◌, ◌≤◌, ◌<◌, Bool, true, false, ◌&&◌, List, ◌≡◌, refl, leb, ℤ, length}
use Rattle.std.proofs.Common.{sym, ap, ◌∙◌, subst, zero-add, arith}
use Rattle.sequences.specs.Chosen.{one, chosen_short}
use Rattle.meaning.specs.Limits.{part_limit}
use Rattle.meaning.specs.Scene.{Scene, vertex_count, edge_count, triangle_count, edge_end, corner}
use Rattle.meaning.specs.Boxes.{boxes_meet, meet_on}
use Rattle.meaning.specs.StoredBoxes.{Box, span_at, box_at, vertex_box, edge_box, triangle_box, BoxesStand}
use Rattle.meaning.specs.declared.Kind.{Kind}
use Rattle.meaning.specs.declared.Kind.TheVariants.{PointTriangle, EdgeEdge}
use Rattle.meaning.specs.declared.RowPairs.{RowPairs}
use Rattle.scene_seams.specs.Alone.{only_edges}
use Rattle.list_boxes.specs.Kept.{joint_box, meet_boxes}
use Rattle.list_boxes.specs.Storing.{with_span, with_box, BoxStored, box_stored, box_itself, others_kept}
use Rattle.list_candidates.specs.Rows.{first_count, second_count, second_from}
use Rattle.mesh_orders.specs.Orders.{at, Order}
use Rattle.mesh_tree.specs.Levels.{nodes_at, first_under}
use Rattle.mesh_walk.specs.Places.{places_from, places_start, places_end, Stepped}
use Rattle.mesh_walk.specs.Steps.{Tree, leaf_box, box_meets}
use Rattle.mesh_entries.specs.Entering.{Entered, Entering, entering_starts, entering_as, entering_step, entering_ends}
use Rattle.mesh_rows.specs.Asking.{passes, Askable, askable}
use Rattle.mesh_rows.specs.Sifting.{sifted, sifted_found, sifted_chosen}

-- ---- boxes by kind

-- of a first part its only vertex twice, or its two ends
unfoldable pub vertex_of : List ℕ → Kind → ℕ → ℕ → ℕ
vertex_of e PointTriangle i k = i
vertex_of e EdgeEdge i k = edge_end (only_edges e) i k

unfoldable pub first_box : Scene → Kind → ℕ → Box
first_box s PointTriangle i = vertex_box s i
first_box s EdgeEdge i = edge_box s i

unfoldable pub second_box : Scene → Kind → ℕ → Box
second_box s PointTriangle j = triangle_box s j
second_box s EdgeEdge j = edge_box s j

pub boxes_meet_lem : (s : Scene) (kind : Kind) (i j : ℕ) → meet_boxes (first_box s kind i) (second_box s kind j) ≡ boxes_meet s kind i j
unfolding first_box second_box meet_on
boxes_meet_lem s PointTriangle i j = refl
boxes_meet_lem s EdgeEdge i j = refl

-- a box is copied span by span
pub box_copied : (b l : List ℤ) (v to : ℕ) {l₁ l₂ l₃ : List ℤ} → l₁ ≡ with_span l (6 * to) (span_at b (6 * v))
    → l₂ ≡ with_span l₁ (6 * to + 1) (span_at b (6 * v + 1)) → l₃ ≡ with_span l₂ (6 * to + 2) (span_at b (6 * v + 2))
    → 6 * to + 5 < length l
    → BoxStored l to (box_at b v) l₃
box_copied b l v to first second third h =
    let whole : _ ≡ with_box l to (box_at b v) =
    third ∙ λ t. with_span ((second ∙ λ u. with_span (first u) (6 * to + 1) (span_at b (6 * v + 1))) t) (6 * to + 2) (span_at b (6 * v + 2)) in
    subst (BoxStored l to (box_at b v)) (sym whole) (box_stored l to (box_at b v) h)

-- two boxes are stored, and their joint box behind them
pub joined_behind : {l l₁ l₂ l₃ : List ℤ} {p q : Box} → BoxStored l 0 p l₁ → BoxStored l₁ 1 q l₂
    → BoxStored l₂ 2 (joint_box (box_at l₂ 0) (box_at l₂ 1)) l₃
    → box_at l₃ 2 ≡ joint_box p q
joined_behind first second third =
    let one = others_kept second 0 (omega arith) ∙ first.here in
    let two = second.here in
    third.here ∙ λ u. joint_box (one u) (two u)

-- the vertices of a first part are there, and their boxes in a list of so many numbers
pub record OwnThere (e : List ℕ) (kind : Kind) (i n : ℕ) : Type 0 where
  pub edge : kind ≡ EdgeEdge → i < edge_count (only_edges e)
  pub inside : (k : ℕ) → k < 2 → 6 * vertex_of e kind i k + 5 < n

-- ---- what a row goes by

-- a tree over the second parts of a kind in the order o, with the vertices' boxes in the same list
pub record LedTree (s : Scene) (kind : Kind) (l : List ℤ) (t : List ℕ) (parts top : ℕ) (o : List ℕ) : Type 0 where
  pub tree : Tree l t parts top
  pub order : Order parts o
  pub all : parts ≡ second_count s kind
  pub leaves : (k : ℕ) → k < parts → leaf_box l t k ≡ second_box s kind (at o k)
  pub vertices : BoxesStand l 0 (vertex_count s) (vertex_box s)
  pub room : 6 * vertex_count s ≤ length l
  pub few : parts ≤ part_limit
  pub few_rows : first_count s kind ≤ part_limit
  pub ends : (m k : ℕ) → m < edge_count s → k < 2 → edge_end s m k < vertex_count s
  pub corners : (m k : ℕ) → m < triangle_count s → k < 3 → corner s m k < vertex_count s

-- and the box b of a first part
pub record LedRow (s : Scene) (kind : Kind) (i : ℕ) (b : Box) (l : List ℤ) (t : List ℕ) (parts top : ℕ) (o : List ℕ) (from : ℕ) : Type 0 where
  pub led : LedTree s kind l t parts top o
  pub there : i < first_count s kind
  pub begins : from ≡ second_from kind i
  pub meets : (k : ℕ) → k < parts → box_meets b l t k ≡ boxes_meet s kind i (at o k)

module _ {s : Scene} {kind : Kind} {l : List ℤ} {t : List ℕ} {parts top : ℕ} {o : List ℕ} (so : LedTree s kind l t parts top o) (i : ℕ) (there : i < first_count s kind) where
  vertex_there : (kind : Kind) → i < first_count s kind → (k : ℕ) → k < 2 → vertex_of s.edges kind i k < vertex_count s
  unfolding first_count vertex_of
  vertex_there PointTriangle h k b = h
  vertex_there EdgeEdge h k b = so.ends i k h b

  edge_there : (kind : Kind) → i < first_count s kind → kind ≡ EdgeEdge → i < edge_count s
  unfolding first_count
  edge_there kind h e = rw e at h

  pub own_there : OwnThere s.edges kind i (length l)
  own_there =
      record {
        edge = edge_there kind there;
        inside = λ k h. omega (arith, vertex_there kind there k h, so.room);
      }

  vertex_box_lem : (v : ℕ) → v < vertex_count s → box_at l v ≡ vertex_box s v
  vertex_box_lem v h = rw zero-add at (so.vertices.at v h)

  pub own_box_lem : (kind : Kind) → i < first_count s kind → joint_box (box_at l (vertex_of s.edges kind i 0)) (box_at l (vertex_of s.edges kind i 1)) ≡ first_box s kind i
  unfolding first_count vertex_of first_box
  own_box_lem PointTriangle h = box_itself (box_at l i) ∙ vertex_box_lem i h
  own_box_lem EdgeEdge h =
      let one = vertex_box_lem (edge_end s i 0) (so.ends i 0 h (omega arith)) in
      let two = vertex_box_lem (edge_end s i 1) (so.ends i 1 h (omega arith)) in
      λ u. joint_box (one u) (two u)

  pub led_row : (b : Box) (from : ℕ) → b ≡ joint_box (box_at l (vertex_of s.edges kind i 0)) (box_at l (vertex_of s.edges kind i 1)) → from ≡ second_from kind i
      → LedRow s kind i b l t parts top o from
  led_row b from e f =
      let own : b ≡ first_box s kind i = e ∙ own_box_lem kind there in
      record {
        led = so;
        there = there;
        begins = f;
        meets = λ k h. let leaf = so.leaves k h in (λ u. meet_boxes (own u) (leaf u)) ∙ boxes_meet_lem s kind i (at o k);
      }

-- ---- the walk

-- whether the part to which the order leads from k goes with the row, and is listed if it meets it
abbrev pub led_test : RowPairs → Scene → Kind → ℕ → List ℕ → (from : ℕ) → ℕ → Bool
led_test w s kind i o from k = leb from (at o k) && passes w s kind i (at o k)

-- what is left of a row, of the places of the order from one on
abbrev pub led_rest : RowPairs → Scene → Kind → ℕ → List ℕ → (from : ℕ) → (ℕ → Bool) → ℕ → ℕ → List ℕ
led_rest w s kind i o from m n a = sifted (led_test w s kind i o from) (at o) (places_from m n a)

and_assoc : (a b c : Bool) → (a && b) && c ≡ a && (b && c)
and_assoc true b c = refl
and_assoc false b c = refl

module _ (w : RowPairs) (s : Scene) (kind : Kind) (i : ℕ) (o : List ℕ) (from : ℕ) (m : ℕ → Bool) (n : ℕ) where
  pub led_starts : (most : ℕ) (o₀ : List ℕ) (v r : ℕ) → first_under v r ≡ first_under 0 0
      → Entering most o₀ 0 (led_rest w s kind i o from m n 0) o₀ 0 (led_rest w s kind i o from m n (first_under v r))
  led_starts most o₀ v r e =
      entering_as (ap (sifted (led_test w s kind i o from) (at o)) (places_start m n 0 v r e))
      (entering_starts most o₀ 0 (led_rest w s kind i o from m n 0))

  pub led_goes : {top v r v' r' most at' k k' : ℕ} {found : Bool} {o₀ want l l' : List ℕ}
      → Entering most o₀ at' want l k (led_rest w s kind i o from m n (first_under v r)) → Stepped m n top v r v' r' found
      → Entered most l k (one ((found && leb from (at o r)) && passes w s kind i (at o r)) (at o r)) l' k'
      → Entering most o₀ at' want l' k' (led_rest w s kind i o from m n (first_under v' r'))
  led_goes {r = r} {v' = v'} {r'} {found = found} so_far step e =
      let same = and_assoc found (leb from (at o r)) (passes w s kind i (at o r)) in
      entering_step
      (entering_as
      (ap (sifted (led_test w s kind i o from) (at o)) step.rest
      ∙ sifted_found (led_test w s kind i o from) (at o) found r (places_from m n (first_under v' r')))
      so_far)
      (rw same at e)

  pub led_few : length (led_rest w s kind i o from m n 0) ≤ n
  led_few =
      omega (arith, ap length (sifted_chosen (led_test w s kind i o from) m (at o) n 0), chosen_short (λ k. led_test w s kind i o from k && m k) (at o) 0 n)

  pub led_ends : (v r : ℕ) {most at' k : ℕ} {o₀ want l : List ℕ} → nodes_at n v ≤ r
      → Entering most o₀ at' want l k (led_rest w s kind i o from m n (first_under v r)) → Entered most o₀ at' want l k
  unfolding sifted
  led_ends v r past so_far =
      entering_ends (entering_as (ap (sifted (led_test w s kind i o from) (at o)) (places_end m n v r past)) so_far)

-- of the part to which the order leads may be asked
pub led_askable : {s : Scene} {kind : Kind} {i : ℕ} {b : Box} {l : List ℤ} {t : List ℕ} {parts top : ℕ} {o : List ℕ} {from : ℕ}
    → LedRow s kind i b l t parts top o from → (k : ℕ) → k < parts → Askable s kind i (at o k)
led_askable {s} {kind} {i} {o = o} so k h =
    let led = so.led in
    let inside = led.order.out.inside k h in
    askable s kind i (at o k) so.there (omega (arith, led.all)) (omega (arith, so.there, led.few_rows)) (omega (arith, led.few)) led.ends led.corners
