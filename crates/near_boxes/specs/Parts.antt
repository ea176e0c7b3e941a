-- Far from a box as code tests it by positions: each corner of a part is above the box at both times, or each is below it.
use Rattle.std.specs.Prelude.{ℕ, ◌+◌, ◌*◌, ◌<◌, Bool, ◌&&◌, ◌||◌, List, ◌≡◌, ℤ, pos, get_or}
use Rattle.std.proofs.Math.Path.{refl}
use Rattle.std.proofs.Common.{sym, ap, ◌∙◌, arith}
use Rattle.std.specs.Int.Signed.{lt_z}
use Rattle.meaning.specs.Scene.{Scene, vertex_count, edge_count, triangle_count, edge_end, corner}
use Rattle.meaning.specs.Boxes.{smaller, larger}
use Rattle.meaning.specs.StoredBoxes.{box_at}
use Rattle.meaning.specs.Near.{where_at, second_span_at}
use Rattle.meaning.specs.declared.Frame.TheVariants.{Start, End}
use Rattle.meaning.specs.declared.Kind.{Kind}
use Rattle.meaning.specs.declared.Kind.TheVariants.{PointTriangle, EdgeEdge}
use Rattle.list_candidates.specs.Rows.{second_count}
use Rattle.mesh_near.specs.Apart.{below_smaller, larger_below, both_times, under_three, three_under}
use Rattle.near_boxes.specs.Far.{far_boxes, second_box_at}

-- on the axis k, of the boxes 0 and 1 of a list: the first is of the start, the second of the end
abbrev pub over_at : List ℤ → List ℤ → ℕ → ℕ → Bool
over_at o l k i = lt_z (get_or o (k + 3) (pos 0)) (get_or l i (pos 0)) && lt_z (get_or o (k + 6 + 3) (pos 0)) (get_or l (i + 3) (pos 0))

abbrev pub under_at : List ℤ → List ℤ → ℕ → ℕ → Bool
under_at o l k i = lt_z (get_or l i (pos 0)) (get_or o k (pos 0)) && lt_z (get_or l (i + 3) (pos 0)) (get_or o (k + 6) (pos 0))

abbrev pub three_far_at : List ℤ → List ℤ → (k a b c : ℕ) → Bool
three_far_at o l k a b c = (over_at o l k a && over_at o l k b && over_at o l k c) || (under_at o l k a && under_at o l k b && under_at o l k c)

abbrev pub two_far_at : List ℤ → List ℤ → (k a b : ℕ) → Bool
two_far_at o l k a b = (over_at o l k a && over_at o l k b) || (under_at o l k a && under_at o l k b)

abbrev pub three_far : List ℤ → List ℤ → (a b c : ℕ) → Bool
three_far o l a b c =
    three_far_at o l 0 (6 * a) (6 * b) (6 * c) || three_far_at o l 1 (6 * a + 1) (6 * b + 1) (6 * c + 1)
    || three_far_at o l 2 (6 * a + 2) (6 * b + 2) (6 * c + 2)

abbrev pub two_far : List ℤ → List ℤ → (a b : ℕ) → Bool
two_far o l a b =
    two_far_at o l 0 (6 * a) (6 * b) || two_far_at o l 1 (6 * a + 1) (6 * b + 1) || two_far_at o l 2 (6 * a + 2) (6 * b + 2)

-- of which parts it can be asked
pub record Reached (s : Scene) (kind : Kind) (j : ℕ) : Type 0 where
  pub there : j < second_count s kind
  pub ends : (m k : ℕ) → m < edge_count s → k < 2 → edge_end s m k < vertex_count s
  pub corners : (m k : ℕ) → m < triangle_count s → k < 3 → corner s m k < vertex_count s

module _ {s : Scene} {kind : Kind} {j : ℕ} (so : Reached s kind j) where
  pub triangle_reached : kind ≡ PointTriangle → j < triangle_count s
  unfolding second_count
  triangle_reached e = rw e at so.there

  pub edge_reached : kind ≡ EdgeEdge → j < edge_count s
  unfolding second_count
  edge_reached e = rw e at so.there

-- ---- the code's tests are the boxes'

module _ (o l : List ℤ) (k : ℕ) where
  abbrev at : ℕ → ℤ
  at n = get_or l n (pos 0)

  abbrev own : ℕ → ℤ
  own n = get_or o n (pos 0)

  -- corners at the start, and at the end, whose values have the places a' and so on
  three_on : (a b c a' b' c' : ℕ) → a + 3 ≡ a' → b + 3 ≡ b' → c + 3 ≡ c'
      → three_far_at o l k a b c
      ≡ (lt_z (own (k + 3)) (smaller (smaller (at a) (at b)) (at c)) && lt_z (own (k + 6 + 3)) (smaller (smaller (at a') (at b')) (at c')))
      || (lt_z (larger (larger (at a) (at b)) (at c)) (own k) && lt_z (larger (larger (at a') (at b')) (at c')) (own (k + 6)))
  three_on a b c a' b' c' e f g =
      rw (e, f, g) (λ i. under_three (own (k + 3)) (at a) (at b) (at c) (own (k + 6 + 3)) (at a') (at b') (at c') i
      || three_under (own k) (at a) (at b) (at c) (own (k + 6)) (at a') (at b') (at c') i)

  two_on : (a b a' b' : ℕ) → a + 3 ≡ a' → b + 3 ≡ b'
      → two_far_at o l k a b
      ≡ (lt_z (own (k + 3)) (smaller (at a) (at b)) && lt_z (own (k + 6 + 3)) (smaller (at a') (at b')))
      || (lt_z (larger (at a) (at b)) (own k) && lt_z (larger (at a') (at b')) (own (k + 6)))
  two_on a b a' b' e f =
      let over = both_times (lt_z (own (k + 3)) (at a)) (lt_z (own (k + 3)) (at b)) (lt_z (own (k + 6 + 3)) (at a')) (lt_z (own (k + 6 + 3)) (at b')) in
      let low = below_smaller (own (k + 3)) (at a) (at b) in
      let late = below_smaller (own (k + 6 + 3)) (at a') (at b') in
      let beneath = both_times (lt_z (at a) (own k)) (lt_z (at b) (own k)) (lt_z (at a') (own (k + 6))) (lt_z (at b') (own (k + 6))) in
      let high = larger_below (own k) (at a) (at b) in
      let last = larger_below (own (k + 6)) (at a') (at b') in
      rw (e, f) (λ i. (over ∙ sym (λ t. low t && late t)) i || (beneath ∙ sym (λ t. high t && last t)) i)

-- the y of an end stands where its x does and one behind, and its z
y_end : (v : ℕ) → 6 * v + 1 + 3 ≡ 6 * v + 3 + 1
y_end v = omega arith

z_end : (v : ℕ) → 6 * v + 2 + 3 ≡ 6 * v + 3 + 2
z_end v = omega arith

module _ (o : List ℤ) (s : Scene) where
  pub three_far_is : {a b c : ℕ} {r : Bool} (j : ℕ) → a ≡ corner s j 0 → b ≡ corner s j 1 → c ≡ corner s j 2
      → r ≡ three_far o s.positions a b c
      → r ≡ far_boxes (box_at o 0) (box_at o 1) (second_box_at Start s PointTriangle j) (second_box_at End s PointTriangle j)
  unfolding where_at second_span_at
  three_far_is {a} {b} {c} j e f g is =
      let l = s.positions in
      let x = three_on o l 0 (6 * a) (6 * b) (6 * c) (6 * a + 3) (6 * b + 3) (6 * c + 3) refl refl refl in
      let y =
      three_on o l 1 (6 * a + 1) (6 * b + 1) (6 * c + 1) (6 * a + 3 + 1) (6 * b + 3 + 1) (6 * c + 3 + 1) (y_end a) (y_end b) (y_end c) in
      let z =
      three_on o l 2 (6 * a + 2) (6 * b + 2) (6 * c + 2) (6 * a + 3 + 2) (6 * b + 3 + 2) (6 * c + 3 + 2) (z_end a) (z_end b) (z_end c) in
      rw (← e, ← f, ← g) (is ∙ λ i. x i || y i || z i)

  pub two_far_is : {a b : ℕ} {r : Bool} (j : ℕ) → a ≡ edge_end s j 0 → b ≡ edge_end s j 1 → r ≡ two_far o s.positions a b
      → r ≡ far_boxes (box_at o 0) (box_at o 1) (second_box_at Start s EdgeEdge j) (second_box_at End s EdgeEdge j)
  unfolding where_at second_span_at
  two_far_is {a} {b} j e f is =
      let l = s.positions in
      let x = two_on o l 0 (6 * a) (6 * b) (6 * a + 3) (6 * b + 3) refl refl in
      let y = two_on o l 1 (6 * a + 1) (6 * b + 1) (6 * a + 3 + 1) (6 * b + 3 + 1) (y_end a) (y_end b) in
      let z = two_on o l 2 (6 * a + 2) (6 * b + 2) (6 * a + 3 + 2) (6 * b + 3 + 2) (z_end a) (z_end b) in
      rw (← e, ← f) (is ∙ λ i. x i || y i || z i)
