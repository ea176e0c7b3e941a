-- Corresponding pairs of an accepted scene without seams and of the scene turned round are listed in both or in neither, so that the one list is the
-- other in another order.
use Rattle.std.specs.Prelude.{ℕ, zero, suc, ◌+◌, ◌-◌, ◌<◌, Bool, true, false, not, ◌&&◌, ◌≡◌}
use Rattle.std.proofs.Math.Bool.{◌||◌}
use mathlib.Core.List.{List, [], ◌++◌, map, map-append}
use Rattle.std.proofs.Math.Path.{refl, ap, ap₂, subst₂}
use Rattle.std.proofs.Common.{sym, ◌∙◌, arith}
use Rattle.whole.specs.Vector.{Vector}
use Rattle.sequences.specs.Gather.{gather, gather_none, gather_first, gather_last, gather_same}
use Rattle.sequences.specs.Chosen.{one, chosen}
use Rattle.sequences.specs.Range.{towards}
use Rattle.meaning.specs.Scene.{Scene, Accepted, vertex_count, edge_count, triangle_count, edge_end, corner, start_of, end_of, same}
use Rattle.meaning.specs.Refusals.{shares}
use Rattle.meaning.specs.Boxes.{Span, Axis, x_axis, y_axis, z_axis, smaller, larger, vertex_span, joint, edge_span, triangle_span, meet, meet_on, boxes_meet, listed}
use Rattle.meaning.specs.List.{pair, pairs_of_vertex, pairs_of_edge, pairs}
use Rattle.meaning.specs.Backwards.{from_last, turned_round, first_turned, pair_turned}
use Rattle.meaning.specs.declared.Kind.{Kind}
use Rattle.meaning.specs.declared.Kind.TheVariants.{PointTriangle, EdgeEdge}
use Rattle.theory.specs.Joints.{either_way, lowest, highest}
use Rattle.theory.specs.Rearranged.{Rearranged, unmoved, also, change_places, rearranged_before}
use Rattle.scene_checks.specs.Facts.{accepted_end, accepted_corner}
use Rattle.turning_laws.specs.Numbers.{known_number}
use Rattle.turning_laws.specs.Turned.{turns_round}
use Rattle.turning_laws.specs.Pieces.{edge_end_turned, corner_turned}
use Rattle.turning_laws.specs.Checked.{vertices_turned, edges_turned, triangles_turned, same_turned}

-- ---- lists gathered from last to first

module _ {ℓ} {A : Type ℓ} where
  gather_shifted : (f : ℕ → List A) (n i : ℕ) → gather f (i + 1) (n + 1) ≡ gather (λ j. f (j + 1)) i n
  gather_shifted f n i =
      towards n (λ i. gather f (i + 1) (n + 1) ≡ gather (λ j. f (j + 1)) i n)
      (λ i past. gather_none f (i + 1) (n + 1) (omega arith) ∙ sym (gather_none (λ j. f (j + 1)) i n past))
      (λ i lt next.
      gather_first f (i + 1) (n + 1) (omega arith) ∙ ap (λ (l : List A). f (i + 1) ++ l) next ∙ sym (gather_first (λ j. f (j + 1)) i n lt))
      i

  pub gather_from_last : (f : ℕ → List A) (n : ℕ) → Rearranged (gather (λ v. f (n - 1 - v)) 0 n) (gather f 0 n)
  gather_from_last f zero =
      subst₂ Rearranged (sym (gather_none (λ v. f (0 - 1 - v)) 0 0 (omega arith))) (sym (gather_none f 0 0 (omega arith))) unmoved
  gather_from_last f (suc n) =
      subst₂ Rearranged (sym first) (sym last) (also (change_places (f n) (gather (λ v. f (n - 1 - v)) 0 n)) (rearranged_before (f n) (gather_from_last f n)))
    where
      g : ℕ → List A
      g v = f (suc n - 1 - v)

      first : gather g 0 (suc n) ≡ f n ++ gather (λ v. f (n - 1 - v)) 0 n
      first =
          ap (gather g 0) (omega arith) ∙ gather_first g 0 (n + 1) (omega arith)
          ∙ ap₂ ◌++◌ (ap f (omega arith)) (gather_shifted g n 0 ∙ gather_same (λ j. g (j + 1)) (λ v. f (n - 1 - v)) 0 n (λ j a b. ap f (omega arith)))

      last : gather f 0 (suc n) ≡ gather f 0 n ++ f n
      last = ap (gather f 0) (omega arith) ∙ gather_last f 0 n (omega arith)

map_gather : {A B : Type 0} (g : A → B) (f : ℕ → List A) (i n : ℕ) → map g (gather f i n) ≡ gather (λ j. map g (f j)) i n
map_gather {A} {B} g f i n =
    towards n (λ i. map g (gather f i n) ≡ gather (λ j. map g (f j)) i n)
    (λ i past. ap (map g) (gather_none f i n past) ∙ sym (gather_none (λ j. map g (f j)) i n past))
    (λ i lt next.
    ap (map g) (gather_first f i n lt) ∙ map-append g (f i) (gather f (i + 1) n) ∙ ap (λ (l : List B). map g (f i) ++ l) next
    ∙ sym (gather_first (λ j. map g (f j)) i n lt))
    i

map_one : {A B : Type 0} (g : A → B) (c d : Bool) (a : A) → d ≡ c → map g (one c a) ≡ one d (g a)
map_one {A} {B} g c d a e = rw e (go c)
  where
    go : (c : Bool) → map g (one c a) ≡ one c (g a)
    go true = refl
    go false = refl

-- ---- one pair

module _ {s : Scene} (accepted : Accepted s) where
  abbrev t : Scene
  t = turned_round s

  abbrev n : ℕ
  n = vertex_count s

  -- the box of a vertex, from the smaller to the larger of its end and start value
  vertex_box_lem : (a : Axis) (v w : ℕ) → v < n → w ≡ from_last n v → vertex_span t a w ≡ vertex_span s a v
  vertex_box_lem a v w h e =
      ap (vertex_span t a) e ∙ ap₂ between ((turns_round s).starts v h) ((turns_round s).ends v h) ∙ swapped
    where
      between : Vector → Vector → Span
      between p q = record { low = smaller (a p) (a q); high = larger (a p) (a q) }

      swapped : between (end_of s v) (start_of s v) ≡ between (start_of s v) (end_of s v)
      swapped = λ i. record {
        low = either_way lowest (a (end_of s v)) (a (start_of s v)) i;
        high = either_way highest (a (end_of s v)) (a (start_of s v)) i;
      }

  edge_box : (a : Axis) (j : ℕ) → j < edge_count s → edge_span t a j ≡ edge_span s a j
  edge_box a j h = ap₂ joint (at 0 (omega arith)) (at 1 (omega arith))
    where
      at : (k : ℕ) → k < 2 → vertex_span t a (edge_end t j k) ≡ vertex_span s a (edge_end s j k)
      at k l = vertex_box_lem a (edge_end s j k) (edge_end t j k) (accepted_end accepted j k h l) (edge_end_turned (turns_round s) j k h l)

  triangle_box : (a : Axis) (j : ℕ) → j < triangle_count s → triangle_span t a j ≡ triangle_span s a j
  triangle_box a j h = ap₂ joint (ap₂ joint (at 0 (omega arith)) (at 1 (omega arith))) (at 2 (omega arith))
    where
      at : (k : ℕ) → k < 3 → vertex_span t a (corner t j k) ≡ vertex_span s a (corner s j k)
      at k l = vertex_box_lem a (corner s j k) (corner t j k) (accepted_corner accepted j k h l) (corner_turned (turns_round s) j k h l)

  -- the parts of the pair are there
  unfoldable pub Asked : Kind → ℕ → ℕ → Type 0
  Asked PointTriangle i j = (i < vertex_count s) × (j < triangle_count s)
  Asked EdgeEdge i j = (i < edge_count s) × (j < edge_count s)

  meet_turned : (kind : Kind) (i j : ℕ) → Asked kind i j → (a : Axis) → meet_on t kind (first_turned s kind i) j a ≡ meet_on s kind i j a
  unfolding meet_on Asked first_turned
  meet_turned PointTriangle i j (h, k) a = ap₂ meet (vertex_box_lem a i (from_last n i) h refl) (triangle_box a j k)
  meet_turned EdgeEdge i j (h, k) a = ap₂ meet (edge_box a i h) (edge_box a j k)

  pub boxes_turned : (kind : Kind) (i j : ℕ) → Asked kind i j → boxes_meet t kind (first_turned s kind i) j ≡ boxes_meet s kind i j
  boxes_turned kind i j h = ap₂ ◌&&◌ (ap₂ ◌&&◌ (meet_turned kind i j h x_axis) (meet_turned kind i j h y_axis)) (meet_turned kind i j h z_axis)

  module _ (unsewn : s.seams ≡ []) where
    pub shares_turned : (kind : Kind) (i j : ℕ) → Asked kind i j → shares t kind (first_turned s kind i) j ≡ shares s kind i j
    unfolding shares Asked first_turned
    shares_turned PointTriangle i j (h, k) =
        ap₂ ◌||◌ (ap₂ ◌||◌ (at 0 (omega arith)) (at 1 (omega arith))) (at 2 (omega arith))
      where
        at : (l : ℕ) → l < 3 → same t (from_last n i) (corner t j l) ≡ same s i (corner s j l)
        at l b = same_turned s unsewn i (corner s j l) (from_last n i) (corner t j l) refl (corner_turned (turns_round s) j l k b)
    shares_turned EdgeEdge i j (h, k) =
        ap₂ ◌||◌ (ap₂ ◌||◌ (ap₂ ◌||◌ (at 0 0 (omega arith) (omega arith)) (at 0 1 (omega arith) (omega arith))) (at 1 0 (omega arith) (omega arith)))
        (at 1 1 (omega arith) (omega arith))
      where
        at : (l m : ℕ) → l < 2 → m < 2 → same t (edge_end t i l) (edge_end t j m) ≡ same s (edge_end s i l) (edge_end s j m)
        at l m b c = same_turned s unsewn _ _ _ _ (edge_end_turned (turns_round s) i l h b) (edge_end_turned (turns_round s) j m k c)

    pub listed_turned : (kind : Kind) (i j : ℕ) → Asked kind i j → listed t kind (first_turned s kind i) j ≡ listed s kind i j
    listed_turned kind i j h = ap₂ (λ b c. not b && c) (shares_turned kind i j h) (boxes_turned kind i j h)

    -- ---- the list

    vertex_pairs : (v : ℕ) → v < n → map (pair_turned s) (pairs_of_vertex s v) ≡ pairs_of_vertex t (n - 1 - v)
    unfolding first_turned Asked
    vertex_pairs v h =
        map_gather (pair_turned s) (λ j. one (listed s PointTriangle v j) (pair PointTriangle v j)) 0 (triangle_count s)
        ∙ gather_same _ (λ j. one (listed t PointTriangle (from_last n v) j) (pair PointTriangle (from_last n v) j)) 0 (triangle_count s)
        (λ j a b. map_one (pair_turned s) _ _ (pair PointTriangle v j) (listed_turned PointTriangle v j (h, b)))
        ∙ ap₂ (λ w k. chosen (listed t PointTriangle w) (pair PointTriangle w) 0 k) (known_number n v h) (sym (triangles_turned s))

    edge_pairs : (i : ℕ) → i < edge_count s → map (pair_turned s) (pairs_of_edge s i) ≡ pairs_of_edge t i
    unfolding first_turned Asked
    edge_pairs i h =
        map_gather (pair_turned s) (λ j. one (listed s EdgeEdge i j) (pair EdgeEdge i j)) (i + 1) (edge_count s)
        ∙ gather_same _ (λ j. one (listed t EdgeEdge i j) (pair EdgeEdge i j)) (i + 1) (edge_count s)
        (λ j a b. map_one (pair_turned s) _ _ (pair EdgeEdge i j) (listed_turned EdgeEdge i j (h, b)))
        ∙ ap (λ k. chosen (listed t EdgeEdge i) (pair EdgeEdge i) (i + 1) k) (sym (edges_turned s))

    -- the corresponding pairs, in another order, are the list of the scene turned round
    pub pairs_turned : Rearranged (map (pair_turned s) (pairs s)) (pairs t)
    unfolding pairs
    pairs_turned =
        subst₂ Rearranged (sym (map-append (pair_turned s) (gather (pairs_of_vertex s) 0 n) (gather (pairs_of_edge s) 0 (edge_count s)) ∙ ap₂ ◌++◌ points edges))
        (ap₂ ◌++◌ (ap (gather (pairs_of_vertex t) 0) (sym (vertices_turned s))) (ap (gather (pairs_of_edge t) 0) (sym (edges_turned s))))
        (rearranged_before (gather (pairs_of_edge t) 0 (edge_count s)) (gather_from_last (pairs_of_vertex t) n))
      where
        points : map (pair_turned s) (gather (pairs_of_vertex s) 0 n) ≡ gather (λ v. pairs_of_vertex t (n - 1 - v)) 0 n
        points =
            map_gather (pair_turned s) (pairs_of_vertex s) 0 n
            ∙ gather_same (λ v. map (pair_turned s) (pairs_of_vertex s v)) (λ v. pairs_of_vertex t (n - 1 - v)) 0 n (λ v a b. vertex_pairs v b)

        edges : map (pair_turned s) (gather (pairs_of_edge s) 0 (edge_count s)) ≡ gather (pairs_of_edge t) 0 (edge_count s)
        edges =
            map_gather (pair_turned s) (pairs_of_edge s) 0 (edge_count s)
            ∙ gather_same (λ i. map (pair_turned s) (pairs_of_edge s i)) (pairs_of_edge t) 0 (edge_count s) (λ i a b. edge_pairs i b)
