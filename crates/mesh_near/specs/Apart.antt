-- Far as code tests it, axis by axis: a point against each corner, and the ends of edges by their larger and smaller numbers. It is `far` of the boxes: below
-- the smaller of two is below both, and the larger of two is below what both are below.
use Rattle.std.specs.Prelude.{ℕ, ◌+◌, ◌*◌, Bool, true, false, cond, ◌&&◌, ◌||◌, List, ◌≡◌, T, ℤ, pos, get_or, ◌<ℤ◌}
use Rattle.std.proofs.Math.Bool.{and_comm, and-false}
use Rattle.std.proofs.Math.Path.{refl}
use Rattle.std.proofs.Common.{sym, ap, ◌∙◌, arith}
use Rattle.std.specs.Int.Signed.{lt_z, lt_z_yes}
use Rattle.whole.specs.Order.{ord}
use Rattle.meaning.specs.Scene.{Scene, edge_end, corner}
use Rattle.meaning.specs.Boxes.{smaller, larger}
use Rattle.meaning.specs.Near.{where_at, first_span_at, second_span_at, far}
use Rattle.theory.specs.Spans.{Compared, ordered, reversed, compared}
use Rattle.meaning.specs.declared.Kind.TheVariants.{PointTriangle, EdgeEdge}

abbrev pub below_at : List ℤ → ℕ → ℕ → Bool
below_at l i j = lt_z (get_or l i (pos 0)) (get_or l j (pos 0)) && lt_z (get_or l (i + 3) (pos 0)) (get_or l (j + 3) (pos 0))

abbrev pub point_far_at : List ℤ → (p a b c : ℕ) → Bool
point_far_at l p a b c =
    (below_at l p a && below_at l p b && below_at l p c) || (below_at l a p && below_at l b p && below_at l c p)

-- one edge below another, at one time
abbrev pub edge_under : List ℤ → (a b c d : ℕ) → Bool
edge_under l a b c d = lt_z (larger (get_or l a (pos 0)) (get_or l b (pos 0))) (smaller (get_or l c (pos 0)) (get_or l d (pos 0)))

abbrev pub edges_far_at : List ℤ → (a b c d : ℕ) → Bool
edges_far_at l a b c d =
    (edge_under l a b c d && edge_under l (a + 3) (b + 3) (c + 3) (d + 3)) || (edge_under l c d a b && edge_under l (c + 3) (d + 3) (a + 3) (b + 3))

abbrev pub point_far : List ℤ → (v a b c : ℕ) → Bool
point_far l v a b c =
    point_far_at l (6 * v) (6 * a) (6 * b) (6 * c) || point_far_at l (6 * v + 1) (6 * a + 1) (6 * b + 1) (6 * c + 1)
    || point_far_at l (6 * v + 2) (6 * a + 2) (6 * b + 2) (6 * c + 2)

abbrev pub edges_far : List ℤ → (a b c d : ℕ) → Bool
edges_far l a b c d =
    edges_far_at l (6 * a) (6 * b) (6 * c) (6 * d) || edges_far_at l (6 * a + 1) (6 * b + 1) (6 * c + 1) (6 * d + 1)
    || edges_far_at l (6 * a + 2) (6 * b + 2) (6 * c + 2) (6 * d + 2)

-- ---- below the smaller, and the larger below

-- where one test passes the other does
and_first : (x y : Bool) → (T x → T y) → x && y ≡ x
and_first true true h = refl
and_first true false h = absurd (h tt)
and_first false y h = refl

and_second : (x y : Bool) → (T y → T x) → x && y ≡ y
and_second x y h = and_comm x y ∙ and_first y x h

module _ (p a b : ℤ) where
  pub below_smaller : lt_z p (smaller a b) ≡ lt_z p a && lt_z p b
  below_smaller = by (compared a b)
    where
      by : {c : Bool} → Compared a b c → lt_z p (cond c a b) ≡ lt_z p a && lt_z p b
      by (ordered h) =
          sym (and_first (lt_z p a) (lt_z p b) (λ t. let k : p <ℤ a = lt_z_yes t in let m : p <ℤ b = omega (arith, ord) in m.lt))
      by (reversed h) =
          sym (and_second (lt_z p a) (lt_z p b) (λ t. let k : p <ℤ b = lt_z_yes t in let m : p <ℤ a = omega (arith, ord) in m.lt))

  pub larger_below : lt_z (larger a b) p ≡ lt_z a p && lt_z b p
  larger_below = by (compared a b)
    where
      by : {c : Bool} → Compared a b c → lt_z (cond c b a) p ≡ lt_z a p && lt_z b p
      by (ordered h) =
          sym (and_second (lt_z a p) (lt_z b p) (λ t. let k : b <ℤ p = lt_z_yes t in let m : a <ℤ p = omega (arith, ord) in m.lt))
      by (reversed h) =
          sym (and_first (lt_z a p) (lt_z b p) (λ t. let k : a <ℤ p = lt_z_yes t in let m : b <ℤ p = omega (arith, ord) in m.lt))

-- ---- the code's tests are the boxes'

-- tests of both times, regrouped by their time
pub both_times : (a b x y : Bool) → (a && x) && (b && y) ≡ (a && b) && (x && y)
both_times true true x y = refl
both_times true false x y = and-false x
both_times false b x y = refl

abbrev both : (x y x' y' : ℤ) → Bool
both x y x' y' = lt_z x y && lt_z x' y'

-- numbers at the start, and at the end
module _ (p a b c p' a' b' c' : ℤ) where
  pub under_three : both p a p' a' && both p b p' b' && both p c p' c'
      ≡ lt_z p (smaller (smaller a b) c) && lt_z p' (smaller (smaller a' b') c')
  under_three =
      ap (λ (t : Bool). t && both p c p' c') (both_times (lt_z p a) (lt_z p b) (lt_z p' a') (lt_z p' b'))
      ∙ both_times (lt_z p a && lt_z p b) (lt_z p c) (lt_z p' a' && lt_z p' b') (lt_z p' c')
      ∙ sym (λ i. (below_smaller p (smaller a b) c ∙ ap (λ (t : Bool). t && lt_z p c) (below_smaller p a b)) i
      && (below_smaller p' (smaller a' b') c' ∙ ap (λ (t : Bool). t && lt_z p' c') (below_smaller p' a' b')) i)

  pub three_under : both a p a' p' && both b p b' p' && both c p c' p'
      ≡ lt_z (larger (larger a b) c) p && lt_z (larger (larger a' b') c') p'
  three_under =
      ap (λ (t : Bool). t && both c p c' p') (both_times (lt_z a p) (lt_z b p) (lt_z a' p') (lt_z b' p'))
      ∙ both_times (lt_z a p && lt_z b p) (lt_z c p) (lt_z a' p' && lt_z b' p') (lt_z c' p')
      ∙ sym (λ i. (larger_below p (larger a b) c ∙ ap (λ (t : Bool). t && lt_z c p) (larger_below p a b)) i
      && (larger_below p' (larger a' b') c' ∙ ap (λ (t : Bool). t && lt_z c' p') (larger_below p' a' b')) i)

-- the tests at places of a list, where the end values have the places p', a' and so on
module _ (l : List ℤ) where
  abbrev at : ℕ → ℤ
  at n = get_or l n (pos 0)

  point_on : (p a b c p' a' b' c' : ℕ) → p + 3 ≡ p' → a + 3 ≡ a' → b + 3 ≡ b' → c + 3 ≡ c'
      → point_far_at l p a b c
      ≡ (lt_z (at p) (smaller (smaller (at a) (at b)) (at c)) && lt_z (at p') (smaller (smaller (at a') (at b')) (at c')))
      || (lt_z (larger (larger (at a) (at b)) (at c)) (at p) && lt_z (larger (larger (at a') (at b')) (at c')) (at p'))
  point_on p a b c p' a' b' c' d e f g =
      rw (d, e, f, g) (λ i. under_three (at p) (at a) (at b) (at c) (at p') (at a') (at b') (at c') i
      || three_under (at p) (at a) (at b) (at c) (at p') (at a') (at b') (at c') i)

  edges_on : (a b c d a' b' c' d' : ℕ) → a + 3 ≡ a' → b + 3 ≡ b' → c + 3 ≡ c' → d + 3 ≡ d'
      → edges_far_at l a b c d
      ≡ (lt_z (larger (at a) (at b)) (smaller (at c) (at d)) && lt_z (larger (at a') (at b')) (smaller (at c') (at d')))
      || (lt_z (larger (at c) (at d)) (smaller (at a) (at b)) && lt_z (larger (at c') (at d')) (smaller (at a') (at b')))
  edges_on a b c d a' b' c' d' e f g h = rw (e, f, g, h) refl

-- the y of an end stands where its x does and one behind, and its z
y_end : (v : ℕ) → 6 * v + 1 + 3 ≡ 6 * v + 3 + 1
y_end v = omega arith

z_end : (v : ℕ) → 6 * v + 2 + 3 ≡ 6 * v + 3 + 2
z_end v = omega arith

module _ (s : Scene) where
  pub point_far_is : {a b c : ℕ} {r : Bool} (v j : ℕ) → a ≡ corner s j 0 → b ≡ corner s j 1 → c ≡ corner s j 2
      → r ≡ point_far s.positions v a b c → r ≡ far s PointTriangle v j
  unfolding where_at first_span_at second_span_at
  point_far_is {a} {b} {c} v j e f g is =
      let x = point_on s.positions (6 * v) (6 * a) (6 * b) (6 * c) (6 * v + 3) (6 * a + 3) (6 * b + 3) (6 * c + 3) refl refl refl refl in
      let y =
      point_on s.positions (6 * v + 1) (6 * a + 1) (6 * b + 1) (6 * c + 1) (6 * v + 3 + 1) (6 * a + 3 + 1) (6 * b + 3 + 1) (6 * c + 3 + 1)
      (y_end v) (y_end a) (y_end b) (y_end c) in
      let z =
      point_on s.positions (6 * v + 2) (6 * a + 2) (6 * b + 2) (6 * c + 2) (6 * v + 3 + 2) (6 * a + 3 + 2) (6 * b + 3 + 2) (6 * c + 3 + 2)
      (z_end v) (z_end a) (z_end b) (z_end c) in
      rw (← e, ← f, ← g) (is ∙ λ i. x i || y i || z i)

  pub edges_far_is : {a b c d : ℕ} {r : Bool} (i j : ℕ) → a ≡ edge_end s i 0 → b ≡ edge_end s i 1 → c ≡ edge_end s j 0 → d ≡ edge_end s j 1
      → r ≡ edges_far s.positions a b c d → r ≡ far s EdgeEdge i j
  unfolding where_at first_span_at second_span_at
  edges_far_is {a} {b} {c} {d} i j e f g h is =
      let x = edges_on s.positions (6 * a) (6 * b) (6 * c) (6 * d) (6 * a + 3) (6 * b + 3) (6 * c + 3) (6 * d + 3) refl refl refl refl in
      let y =
      edges_on s.positions (6 * a + 1) (6 * b + 1) (6 * c + 1) (6 * d + 1) (6 * a + 3 + 1) (6 * b + 3 + 1) (6 * c + 3 + 1) (6 * d + 3 + 1)
      (y_end a) (y_end b) (y_end c) (y_end d) in
      let z =
      edges_on s.positions (6 * a + 2) (6 * b + 2) (6 * c + 2) (6 * d + 2) (6 * a + 3 + 2) (6 * b + 3 + 2) (6 * c + 3 + 2) (6 * d + 3 + 2)
      (z_end a) (z_end b) (z_end c) (z_end d) in
      rw (← e, ← f, ← g, ← h) (is ∙ λ t. x t || y t || z t)
