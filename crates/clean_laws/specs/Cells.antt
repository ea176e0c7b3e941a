-- A cell: a triangle of a moving edge, which holds an event at the start and one at the end, and a tetrahedron of a moving triangle; seven points in all.
-- The five that are no base have differences from the way between the bases, and all that balances over the seven is given by two numbers.
use Rattle.std.specs.Prelude.{ℕ, zero, suc, ◌+◌, ◌<◌, ◌≡◌, ◌≢◌, List, [], ◌∷◌, ℤ, negsuc, neg_ℤ, ◌+ℤ◌, ◌-ℤ◌, ◌*ℤ◌, get_or}
use Rattle.std.proofs.Common.{arith, sym, ◌∙◌}
use Rattle.std.proofs.Math.Path.{refl, ap₂}
use Rattle.std.proofs.Math.IntN.{pos}
use Rattle.whole.specs.Vector.{Vector, volume}
use Rattle.whole.specs.VectorLaws.{coordinates}
use Rattle.whole.specs.Quote.{quotes, ring, combine, times}
use Rattle.meaning.specs.Pieces.{Event}
use Rattle.meaning.specs.Equations.{total}
use Rattle.theory.specs.Differences.{difference, at_start, at_end}
use Rattle.corner_laws.specs.Level.{Level}
use Rattle.clean_laws.specs.Borders.{Plane}
use Rattle.clean_laws.specs.Facets.{along, Seen, Formed}

-- ---- on plain numbers: w of the seven points, t the times of the five that are no base

-- what the sums and the times leave to the bases
abbrev pub start_left : ℤ → ℤ → ℤ → ℤ → ℤ → ℤ → ℤ → ℤ → ℤ → ℤ → ℤ
start_left t0 t1 t2 t3 t4 n0 n1 n2 n3 n4 = (pos 1 -ℤ t1) *ℤ n1 +ℤ (pos 1 -ℤ t2) *ℤ n2 +ℤ (pos 1 -ℤ t3) *ℤ n3 +ℤ (pos 1 -ℤ t4) *ℤ n4 -ℤ (pos 1 -ℤ t0) *ℤ n0

abbrev pub end_left : ℤ → ℤ → ℤ → ℤ → ℤ → ℤ → ℤ → ℤ → ℤ → ℤ → ℤ
end_left t0 t1 t2 t3 t4 n0 n1 n2 n3 n4 = t1 *ℤ n1 +ℤ t2 *ℤ n2 +ℤ t3 *ℤ n3 +ℤ t4 *ℤ n4 -ℤ t0 *ℤ n0

module _ (t0 t1 t2 t3 t4 n0 n1 n2 n3 n4 : ℤ) where
  abbrev ten : List ℤ
  ten = t0 ∷ t1 ∷ t2 ∷ t3 ∷ t4 ∷ n0 ∷ n1 ∷ n2 ∷ n3 ∷ n4 ∷ []

  abbrev S : ℤ
  S = start_left t0 t1 t2 t3 t4 n0 n1 n2 n3 n4

  abbrev E : ℤ
  E = end_left t0 t1 t2 t3 t4 n0 n1 n2 n3 n4

  sums_are : S *ℤ pos 1 +ℤ (n0 *ℤ pos 1 +ℤ (E *ℤ pos 1 +ℤ pos 0)) ≡ n1 *ℤ pos 1 +ℤ (n2 *ℤ pos 1 +ℤ (n3 *ℤ pos 1 +ℤ (n4 *ℤ pos 1 +ℤ pos 0)))
  sums_are = ring ten (search quotes depth 60 fits 90000) refl

  times_are : S *ℤ pos 0 +ℤ (n0 *ℤ t0 +ℤ (E *ℤ pos 1 +ℤ pos 0)) ≡ n1 *ℤ t1 +ℤ (n2 *ℤ t2 +ℤ (n3 *ℤ t3 +ℤ (n4 *ℤ t4 +ℤ pos 0)))
  times_are = ring ten (search quotes depth 60 fits 90000) refl

  -- along one axis: the places a b of the bases and o of the others
  module _ (a b o0 o1 o2 o3 o4 : ℤ) where
    abbrev off : ℤ → ℤ → ℤ
    off t o = o -ℤ ((pos 1 -ℤ t) *ℤ a +ℤ t *ℤ b)

    abbrev seventeen : List ℤ
    seventeen = a ∷ b ∷ o0 ∷ o1 ∷ o2 ∷ o3 ∷ o4 ∷ ten

    places_are : n0 *ℤ off t0 o0 ≡ n1 *ℤ off t1 o1 +ℤ n2 *ℤ off t2 o2 +ℤ n3 *ℤ off t3 o3 +ℤ n4 *ℤ off t4 o4
        → S *ℤ a +ℤ (n0 *ℤ o0 +ℤ (E *ℤ b +ℤ pos 0)) ≡ n1 *ℤ o1 +ℤ (n2 *ℤ o2 +ℤ (n3 *ℤ o3 +ℤ (n4 *ℤ o4 +ℤ pos 0)))
    places_are h = combine seventeen (times (pos 1) h ∷ []) (search quotes depth 60 fits 90000) refl

    offs_are : (s e : ℤ)
        → s *ℤ pos 1 +ℤ (n0 *ℤ pos 1 +ℤ (e *ℤ pos 1 +ℤ pos 0)) ≡ n1 *ℤ pos 1 +ℤ (n2 *ℤ pos 1 +ℤ (n3 *ℤ pos 1 +ℤ (n4 *ℤ pos 1 +ℤ pos 0)))
        → s *ℤ pos 0 +ℤ (n0 *ℤ t0 +ℤ (e *ℤ pos 1 +ℤ pos 0)) ≡ n1 *ℤ t1 +ℤ (n2 *ℤ t2 +ℤ (n3 *ℤ t3 +ℤ (n4 *ℤ t4 +ℤ pos 0)))
        → s *ℤ a +ℤ (n0 *ℤ o0 +ℤ (e *ℤ b +ℤ pos 0)) ≡ n1 *ℤ o1 +ℤ (n2 *ℤ o2 +ℤ (n3 *ℤ o3 +ℤ (n4 *ℤ o4 +ℤ pos 0)))
        → n0 *ℤ off t0 o0 ≡ n1 *ℤ off t1 o1 +ℤ n2 *ℤ off t2 o2 +ℤ n3 *ℤ off t3 o3 +ℤ n4 *ℤ off t4 o4
    offs_are s e f g h = combine (s ∷ e ∷ seventeen) (times (pos 1) h ∷ times (neg_ℤ a) f ∷ times (a -ℤ b) g ∷ []) (search quotes depth 60 fits 90000) refl

  start_is : (s e : ℤ)
      → s *ℤ pos 1 +ℤ (n0 *ℤ pos 1 +ℤ (e *ℤ pos 1 +ℤ pos 0)) ≡ n1 *ℤ pos 1 +ℤ (n2 *ℤ pos 1 +ℤ (n3 *ℤ pos 1 +ℤ (n4 *ℤ pos 1 +ℤ pos 0)))
      → s *ℤ pos 0 +ℤ (n0 *ℤ t0 +ℤ (e *ℤ pos 1 +ℤ pos 0)) ≡ n1 *ℤ t1 +ℤ (n2 *ℤ t2 +ℤ (n3 *ℤ t3 +ℤ (n4 *ℤ t4 +ℤ pos 0)))
      → s ≡ S
  start_is s e f g = combine (s ∷ e ∷ ten) (times (pos 1) f ∷ times (negsuc 0) g ∷ []) (search quotes depth 60 fits 90000) refl

  end_is : (s e : ℤ)
      → s *ℤ pos 0 +ℤ (n0 *ℤ t0 +ℤ (e *ℤ pos 1 +ℤ pos 0)) ≡ n1 *ℤ t1 +ℤ (n2 *ℤ t2 +ℤ (n3 *ℤ t3 +ℤ (n4 *ℤ t4 +ℤ pos 0)))
      → e ≡ E
  end_is s e g = combine (s ∷ e ∷ ten) (times (pos 1) g ∷ []) (search quotes depth 60 fits 90000) refl

-- ---- on vectors: five of them, of which the first is a combination of the others

-- n of the first is the sum of those of the others
pub record Combines (d0 d1 d2 d3 d4 : Vector) (n0 n1 n2 n3 n4 : ℤ) : Type 0 where
  pub x : n0 *ℤ d0.x ≡ n1 *ℤ d1.x +ℤ n2 *ℤ d2.x +ℤ n3 *ℤ d3.x +ℤ n4 *ℤ d4.x
  pub y : n0 *ℤ d0.y ≡ n1 *ℤ d1.y +ℤ n2 *ℤ d2.y +ℤ n3 *ℤ d3.y +ℤ n4 *ℤ d4.y
  pub z : n0 *ℤ d0.z ≡ n1 *ℤ d1.z +ℤ n2 *ℤ d2.z +ℤ n3 *ℤ d3.z +ℤ n4 *ℤ d4.z

module _ (d0 d1 d2 d3 d4 : Vector) where
  abbrev vectors : List ℤ
  vectors = coordinates (d0 ∷ d1 ∷ d2 ∷ d3 ∷ d4 ∷ [])

  abbrev pub whole : ℤ
  whole = volume d2 d3 d4

  -- by the first two numbers s and t, all of them
  abbrev pub third : ℤ → ℤ → ℤ
  third s t = volume d0 d3 d4 *ℤ s +ℤ neg_ℤ (volume d1 d3 d4) *ℤ t

  abbrev pub fourth : ℤ → ℤ → ℤ
  fourth s t = volume d2 d0 d4 *ℤ s +ℤ neg_ℤ (volume d2 d1 d4) *ℤ t

  abbrev pub fifth : ℤ → ℤ → ℤ
  fifth s t = volume d2 d3 d0 *ℤ s +ℤ neg_ℤ (volume d2 d3 d1) *ℤ t

  pub by_two : (s t : ℤ) → Combines d0 d1 d2 d3 d4 (whole *ℤ s +ℤ pos 0 *ℤ t) (pos 0 *ℤ s +ℤ whole *ℤ t) (third s t) (fourth s t) (fifth s t)
  unfolding volume
  by_two s t = record {
    x = ring (s ∷ t ∷ vectors) (search quotes depth 80 fits 200000) refl;
    y = ring (s ∷ t ∷ vectors) (search quotes depth 80 fits 200000) refl;
    z = ring (s ∷ t ∷ vectors) (search quotes depth 80 fits 200000) refl;
  }

  module _ (n0 n1 n2 n3 n4 : ℤ) (c : Combines d0 d1 d2 d3 d4 n0 n1 n2 n3 n4) where
    abbrev twenty : List ℤ
    twenty = n0 ∷ n1 ∷ n2 ∷ n3 ∷ n4 ∷ vectors

    third_is : whole *ℤ n2 ≡ third n0 n1
    unfolding volume
    third_is = combine twenty
        (times (neg_ℤ (d3.y *ℤ d4.z -ℤ d3.z *ℤ d4.y)) c.x ∷ times (d3.x *ℤ d4.z -ℤ d3.z *ℤ d4.x) c.y ∷ times (neg_ℤ (d3.x *ℤ d4.y -ℤ d3.y *ℤ d4.x)) c.z ∷ [])
        (search quotes depth 80 fits 200000) refl

    fourth_is : whole *ℤ n3 ≡ fourth n0 n1
    unfolding volume
    fourth_is = combine twenty
        (times (d2.y *ℤ d4.z -ℤ d2.z *ℤ d4.y) c.x ∷ times (neg_ℤ (d2.x *ℤ d4.z -ℤ d2.z *ℤ d4.x)) c.y ∷ times (d2.x *ℤ d4.y -ℤ d2.y *ℤ d4.x) c.z ∷ [])
        (search quotes depth 80 fits 200000) refl

    fifth_is : whole *ℤ n4 ≡ fifth n0 n1
    unfolding volume
    fifth_is = combine twenty
        (times (neg_ℤ (d2.y *ℤ d3.z -ℤ d2.z *ℤ d3.y)) c.x ∷ times (d2.x *ℤ d3.z -ℤ d2.z *ℤ d3.x) c.y ∷ times (neg_ℤ (d2.x *ℤ d3.y -ℤ d2.y *ℤ d3.x)) c.z ∷ [])
        (search quotes depth 80 fits 200000) refl

-- what is left to the bases is linear in the five
module _ (t0 t1 t2 t3 t4 p0 p1 p2 p3 p4 q0 q1 q2 q3 q4 s t : ℤ) where
  abbrev many : List ℤ
  many = s ∷ t ∷ t0 ∷ t1 ∷ t2 ∷ t3 ∷ t4 ∷ p0 ∷ p1 ∷ p2 ∷ p3 ∷ p4 ∷ q0 ∷ q1 ∷ q2 ∷ q3 ∷ q4 ∷ []

  start_linear : start_left t0 t1 t2 t3 t4 p0 p1 p2 p3 p4 *ℤ s +ℤ start_left t0 t1 t2 t3 t4 q0 q1 q2 q3 q4 *ℤ t
      ≡ start_left t0 t1 t2 t3 t4 (p0 *ℤ s +ℤ q0 *ℤ t) (p1 *ℤ s +ℤ q1 *ℤ t) (p2 *ℤ s +ℤ q2 *ℤ t) (p3 *ℤ s +ℤ q3 *ℤ t) (p4 *ℤ s +ℤ q4 *ℤ t)
  start_linear = ring many (search quotes depth 80 fits 200000) refl

  end_linear : end_left t0 t1 t2 t3 t4 p0 p1 p2 p3 p4 *ℤ s +ℤ end_left t0 t1 t2 t3 t4 q0 q1 q2 q3 q4 *ℤ t
      ≡ end_left t0 t1 t2 t3 t4 (p0 *ℤ s +ℤ q0 *ℤ t) (p1 *ℤ s +ℤ q1 *ℤ t) (p2 *ℤ s +ℤ q2 *ℤ t) (p3 *ℤ s +ℤ q3 *ℤ t) (p4 *ℤ s +ℤ q4 *ℤ t)
  end_linear = ring many (search quotes depth 80 fits 200000) refl

module _ (k w t0 t1 t2 t3 t4 n0 n1 n2 n3 n4 m0 m1 m2 m3 m4 : ℤ) (h0 : k *ℤ n0 ≡ m0) (h1 : k *ℤ n1 ≡ m1) (h2 : k *ℤ n2 ≡ m2) (h3 : k *ℤ n3 ≡ m3) (h4 : k *ℤ n4 ≡ m4) where
  abbrev both : List ℤ
  both = k ∷ w ∷ t0 ∷ t1 ∷ t2 ∷ t3 ∷ t4 ∷ n0 ∷ n1 ∷ n2 ∷ n3 ∷ n4 ∷ m0 ∷ m1 ∷ m2 ∷ m3 ∷ m4 ∷ []

  start_scaled : w ≡ start_left t0 t1 t2 t3 t4 n0 n1 n2 n3 n4 → k *ℤ w ≡ start_left t0 t1 t2 t3 t4 m0 m1 m2 m3 m4
  start_scaled e = combine both
      (times k e ∷ times (neg_ℤ (pos 1 -ℤ t0)) h0 ∷ times (pos 1 -ℤ t1) h1 ∷ times (pos 1 -ℤ t2) h2 ∷ times (pos 1 -ℤ t3) h3 ∷ times (pos 1 -ℤ t4) h4 ∷ [])
      (search quotes depth 80 fits 200000) refl

  end_scaled : w ≡ end_left t0 t1 t2 t3 t4 n0 n1 n2 n3 n4 → k *ℤ w ≡ end_left t0 t1 t2 t3 t4 m0 m1 m2 m3 m4
  end_scaled e = combine both
      (times k e ∷ times (neg_ℤ t0) h0 ∷ times t1 h1 ∷ times t2 h2 ∷ times t3 h3 ∷ times t4 h4 ∷ [])
      (search quotes depth 80 fits 200000) refl

-- ---- the cell

module _ (a b : Vector) (o0 o1 o2 o3 o4 : Event) where
  abbrev pub edge_part : List Event
  edge_part = at_start a ∷ o0 ∷ at_end b ∷ []

  abbrev pub triangle_part : List Event
  triangle_part = o1 ∷ o2 ∷ o3 ∷ o4 ∷ []

  abbrev pub d0 : Vector
  d0 = difference a b o0

  abbrev pub d1 : Vector
  d1 = difference a b o1

  abbrev pub d2 : Vector
  d2 = difference a b o2

  abbrev pub d3 : Vector
  d3 = difference a b o3

  abbrev pub d4 : Vector
  d4 = difference a b o4

  abbrev pub common : ℤ
  common = volume d2 d3 d4

  -- the vectors of the five that are no base, and of the two bases
  abbrev pub g0 : Plane
  g0 = record { p = common; q = pos 0 }

  abbrev pub g1 : Plane
  g1 = record { p = pos 0; q = common }

  abbrev pub g2 : Plane
  g2 = record { p = volume d0 d3 d4; q = neg_ℤ (volume d1 d3 d4) }

  abbrev pub g3 : Plane
  g3 = record { p = volume d2 d0 d4; q = neg_ℤ (volume d2 d1 d4) }

  abbrev pub g4 : Plane
  g4 = record { p = volume d2 d3 d0; q = neg_ℤ (volume d2 d3 d1) }

  abbrev left_over : (ℤ → ℤ → ℤ → ℤ → ℤ → ℤ → ℤ → ℤ → ℤ → ℤ → ℤ) → Plane
  left_over f = record {
    p = f o0.time o1.time o2.time o3.time o4.time g0.p g1.p g2.p g3.p g4.p;
    q = f o0.time o1.time o2.time o3.time o4.time g0.q g1.q g2.q g3.q g4.q;
  }

  abbrev pub start_form : Plane
  start_form = left_over start_left

  abbrev pub end_form : Plane
  end_form = left_over end_left

  abbrev pub forms : ℕ → Plane
  forms i = get_or (start_form ∷ g0 ∷ end_form ∷ g1 ∷ g2 ∷ g3 ∷ g4 ∷ []) i g0

  module _ (s : Plane) where
    abbrev n : Plane → ℤ
    n g = along g s

    pub start_along : n start_form ≡ start_left o0.time o1.time o2.time o3.time o4.time (n g0) (n g1) (n g2) (n g3) (n g4)
    start_along = start_linear o0.time o1.time o2.time o3.time o4.time g0.p g1.p g2.p g3.p g4.p g0.q g1.q g2.q g3.q g4.q s.p s.q

    pub end_along : n end_form ≡ end_left o0.time o1.time o2.time o3.time o4.time (n g0) (n g1) (n g2) (n g3) (n g4)
    end_along = end_linear o0.time o1.time o2.time o3.time o4.time g0.p g1.p g2.p g3.p g4.p g0.q g1.q g2.q g3.q g4.q s.p s.q

    together : Combines d0 d1 d2 d3 d4 (n g0) (n g1) (n g2) (n g3) (n g4)
    together = by_two d0 d1 d2 d3 d4 s.p s.q

    given_here : Level edge_part triangle_part (λ i. along (forms i) s)
    unfolding total
    given_here = record {
      sums = bases (pos 1) (pos 1) (pos 1) ∙ sums_are o0.time o1.time o2.time o3.time o4.time (n g0) (n g1) (n g2) (n g3) (n g4);
      xs = bases a.x o0.place.x b.x
          ∙ places_are o0.time o1.time o2.time o3.time o4.time (n g0) (n g1) (n g2) (n g3) (n g4) a.x b.x o0.place.x o1.place.x o2.place.x o3.place.x o4.place.x together.x;
      ys = bases a.y o0.place.y b.y
          ∙ places_are o0.time o1.time o2.time o3.time o4.time (n g0) (n g1) (n g2) (n g3) (n g4) a.y b.y o0.place.y o1.place.y o2.place.y o3.place.y o4.place.y together.y;
      zs = bases a.z o0.place.z b.z
          ∙ places_are o0.time o1.time o2.time o3.time o4.time (n g0) (n g1) (n g2) (n g3) (n g4) a.z b.z o0.place.z o1.place.z o2.place.z o3.place.z o4.place.z together.z;
      times = bases (pos 0) o0.time (pos 1) ∙ times_are o0.time o1.time o2.time o3.time o4.time (n g0) (n g1) (n g2) (n g3) (n g4);
    }
      where
        bases : (x y z : ℤ) → n start_form *ℤ x +ℤ (n g0 *ℤ y +ℤ (n end_form *ℤ z +ℤ pos 0))
            ≡ start_left o0.time o1.time o2.time o3.time o4.time (n g0) (n g1) (n g2) (n g3) (n g4) *ℤ x
            +ℤ (n g0 *ℤ y +ℤ (end_left o0.time o1.time o2.time o3.time o4.time (n g0) (n g1) (n g2) (n g3) (n g4) *ℤ z +ℤ pos 0))
        bases x y z = ap₂ (λ (p q : ℤ). p *ℤ x +ℤ (n g0 *ℤ y +ℤ (q *ℤ z +ℤ pos 0))) start_along end_along

  module _ (w : ℕ → ℤ) (v : Level edge_part triangle_part w) where
    seen_together : Combines d0 d1 d2 d3 d4 (w 1) (w 3) (w 4) (w 5) (w 6)
    unfolding total
    seen_together = record {
      x = offs_are o0.time o1.time o2.time o3.time o4.time (w 1) (w 3) (w 4) (w 5) (w 6) a.x b.x o0.place.x o1.place.x o2.place.x o3.place.x o4.place.x (w 0) (w 2) v.sums v.times v.xs;
      y = offs_are o0.time o1.time o2.time o3.time o4.time (w 1) (w 3) (w 4) (w 5) (w 6) a.y b.y o0.place.y o1.place.y o2.place.y o3.place.y o4.place.y (w 0) (w 2) v.sums v.times v.ys;
      z = offs_are o0.time o1.time o2.time o3.time o4.time (w 1) (w 3) (w 4) (w 5) (w 6) a.z b.z o0.place.z o1.place.z o2.place.z o3.place.z o4.place.z (w 0) (w 2) v.sums v.times v.zs;
    }

    seen_here : Seen common forms 7 w
    unfolding total
    seen_here = record { from = s; is = is }
      where
        s : Plane
        s = record { p = w 1; q = w 3 }

        e0 : common *ℤ w 1 ≡ along g0 (record { p = w 1; q = w 3 })
        e0 = plain common (w 1) (w 3)
          where
            plain : (k m n : ℤ) → k *ℤ m ≡ k *ℤ m +ℤ pos 0 *ℤ n
            plain k m n = ring (k ∷ m ∷ n ∷ []) (search quotes depth 40 fits 9000) refl

        e1 : common *ℤ w 3 ≡ along g1 (record { p = w 1; q = w 3 })
        e1 = plain common (w 1) (w 3)
          where
            plain : (k m n : ℤ) → k *ℤ n ≡ pos 0 *ℤ m +ℤ k *ℤ n
            plain k m n = ring (k ∷ m ∷ n ∷ []) (search quotes depth 40 fits 9000) refl

        e2 : common *ℤ w 4 ≡ along g2 (record { p = w 1; q = w 3 })
        e2 = third_is d0 d1 d2 d3 d4 (w 1) (w 3) (w 4) (w 5) (w 6) seen_together

        e3 : common *ℤ w 5 ≡ along g3 (record { p = w 1; q = w 3 })
        e3 = fourth_is d0 d1 d2 d3 d4 (w 1) (w 3) (w 4) (w 5) (w 6) seen_together

        e4 : common *ℤ w 6 ≡ along g4 (record { p = w 1; q = w 3 })
        e4 = fifth_is d0 d1 d2 d3 d4 (w 1) (w 3) (w 4) (w 5) (w 6) seen_together

        is : (i : ℕ) → i < 7 → common *ℤ w i ≡ along (forms i) s
        is zero h =
            start_scaled common (w 0) o0.time o1.time o2.time o3.time o4.time (w 1) (w 3) (w 4) (w 5) (w 6) _ _ _ _ _ e0 e1 e2 e3 e4
            (start_is o0.time o1.time o2.time o3.time o4.time (w 1) (w 3) (w 4) (w 5) (w 6) (w 0) (w 2) v.sums v.times) ∙ sym (start_along s)
        is (suc zero) h = e0
        is (suc (suc zero)) h =
            end_scaled common (w 2) o0.time o1.time o2.time o3.time o4.time (w 1) (w 3) (w 4) (w 5) (w 6) _ _ _ _ _ e0 e1 e2 e3 e4
            (end_is o0.time o1.time o2.time o3.time o4.time (w 1) (w 3) (w 4) (w 5) (w 6) (w 0) (w 2) v.times) ∙ sym (end_along s)
        is (suc (suc (suc zero))) h = e1
        is (suc (suc (suc (suc zero)))) h = e2
        is (suc (suc (suc (suc (suc zero))))) h = e3
        is (suc (suc (suc (suc (suc (suc zero)))))) h = e4
        is (suc (suc (suc (suc (suc (suc (suc i))))))) h = absurd (omega arith)

  -- all that balances over the seven is given by two numbers, where the common factor is not 0
  pub cell_formed : common ≢ pos 0 → Formed edge_part triangle_part forms
  cell_formed n = record { D = common; nonzero = n; given = given_here; seen = seen_here }
