-- Boxes that do not meet are far: a part's box at one time lies in its swept box. So a culled pair is far, and a pair is near exactly when it shares no
-- vertex and is not far.
use Rattle.std.specs.Prelude.{ℕ, Bool, true, false, not, ◌&&◌, ◌||◌, ◌≡◌, refl, T, ◌≤ℤ◌, ◌<ℤ◌}
use Rattle.std.proofs.Common.{true≢false, ⊎_elim, sym, ap, ◌∙◌, arith}
use Rattle.std.proofs.Math.Bool.{and-true, and-false}
use Rattle.whole.specs.Order.{ord}
use Rattle.sequences.specs.Pick.{or_true}
use Rattle.meaning.specs.Scene.{Scene, start_of, end_of, edge_end, corner}
use Rattle.meaning.specs.Refusals.{shares}
use Rattle.meaning.specs.Boxes.{Span, Axis, x_axis, y_axis, z_axis, joint, vertex_span, edge_span, triangle_span, meet_on, boxes_meet, culled}
use Rattle.meaning.specs.Near.{where_at, vertex_span_at, edge_span_at, triangle_span_at, first_span_at, second_span_at, under, far_on, far, near}
use Rattle.meaning.specs.declared.Frame.{Frame}
use Rattle.meaning.specs.declared.Frame.TheVariants.{Start, End}
use Rattle.meaning.specs.declared.Kind.{Kind}
use Rattle.meaning.specs.declared.Kind.TheVariants.{PointTriangle, EdgeEdge}
use Rattle.theory.specs.Spans.{around, smaller_greatest, larger_least, Apart, not_meeting}

-- ---- a box at one time lies in the swept box

pub record Lies (p q : Span) : Type 0 where
  pub low : q.low ≤ℤ p.low
  pub high : p.high ≤ℤ q.high

joint_lies : {p p' q q' : Span} → Lies p p' → Lies q q' → Lies (joint p q) (joint p' q')
joint_lies {p} {p'} {q} {q'} h k =
    let l = around p'.low q'.low in
    let u = around p'.high q'.high in
    record {
      low = smaller_greatest _ p.low q.low (omega (arith, ord, l.low_left, h.low)) (omega (arith, ord, l.low_right, k.low));
      high = larger_least _ p.high q.high (omega (arith, ord, u.high_left, h.high)) (omega (arith, ord, u.high_right, k.high));
    }

module _ (s : Scene) (a : Axis) where
  vertex_lies : (f : Frame) (v : ℕ) → Lies (vertex_span_at f s a v) (vertex_span s a v)
  unfolding where_at
  vertex_lies Start v = let r = around (a (start_of s v)) (a (end_of s v)) in record { low = r.low_left; high = r.high_left }
  vertex_lies End v = let r = around (a (start_of s v)) (a (end_of s v)) in record { low = r.low_right; high = r.high_right }

  edge_lies : (f : Frame) (j : ℕ) → Lies (edge_span_at f s a j) (edge_span s a j)
  edge_lies f j = joint_lies (vertex_lies f (edge_end s j 0)) (vertex_lies f (edge_end s j 1))

  triangle_lies : (f : Frame) (j : ℕ) → Lies (triangle_span_at f s a j) (triangle_span s a j)
  triangle_lies f j =
      joint_lies (joint_lies (vertex_lies f (corner s j 0)) (vertex_lies f (corner s j 1))) (vertex_lies f (corner s j 2))

-- ---- boxes that do not meet are far

passed : (b : Bool) → T b → b ≡ true
passed true t = refl
passed false t = absurd t

under_is : (p q : Span) → p.high <ℤ q.low → under p q ≡ true
under_is p q h = passed (under p q) h.lt

module _ {p q p₀ p₁ q₀ q₁ : Span} (h : Lies p₀ p) (h' : Lies p₁ p) (k : Lies q₀ q) (k' : Lies q₁ q) where
  apart_far : Apart p q → (under p₀ q₀ && under p₁ q₁) || (under q₀ p₀ && under q₁ p₁) ≡ true
  apart_far =
      ⊎_elim
      (λ b.
      let e = under_is p₀ q₀ (omega (arith, ord, h.high, k.low, b)) in
      let e' = under_is p₁ q₁ (omega (arith, ord, h'.high, k'.low, b)) in
      rw (e, e'))
      (λ b.
      let e = under_is q₀ p₀ (omega (arith, ord, k.high, h.low, b)) in
      let e' = under_is q₁ p₁ (omega (arith, ord, k'.high, h'.low, b)) in
      or_true (under p₀ q₀ && under p₁ q₁) (under q₀ p₀ && under q₁ p₁) (rw (e, e')))

pub not_meeting_far : (s : Scene) (kind : Kind) (i j : ℕ) (a : Axis) → meet_on s kind i j a ≡ false → far_on s kind i j a ≡ true
unfolding meet_on first_span_at second_span_at
not_meeting_far s PointTriangle i j a m =
    apart_far (vertex_lies s a Start i) (vertex_lies s a End i) (triangle_lies s a Start j) (triangle_lies s a End j) (not_meeting _ _ m)
not_meeting_far s EdgeEdge i j a m =
    apart_far (edge_lies s a Start i) (edge_lies s a End i) (edge_lies s a Start j) (edge_lies s a End j) (not_meeting _ _ m)

module _ (s : Scene) (kind : Kind) (i j : ℕ) where
  pub away_far : boxes_meet s kind i j ≡ false → far s kind i j ≡ true
  away_far = by (meet_on s kind i j x_axis) (meet_on s kind i j y_axis) (meet_on s kind i j z_axis) refl refl refl
    where
      by : (x y z : Bool) → meet_on s kind i j x_axis ≡ x → meet_on s kind i j y_axis ≡ y → meet_on s kind i j z_axis ≡ z → x && y && z ≡ false
          → far s kind i j ≡ true
      by false y z e f g h = rw (not_meeting_far s kind i j x_axis e)
      by true false z e f g h =
          let w : far_on s kind i j x_axis || far_on s kind i j y_axis ≡ true = or_true (far_on s kind i j x_axis) _ (not_meeting_far s kind i j y_axis f) in
          rw w
      by true true false e f g h = or_true (far_on s kind i j x_axis || far_on s kind i j y_axis) _ (not_meeting_far s kind i j z_axis g)
      by true true true e f g h = absurd (true≢false h)

  -- a pair that the list leaves out is far
  pub culled_far : culled s kind i j ≡ true → far s kind i j ≡ true
  culled_far h = by (boxes_meet s kind i j) refl h
    where
      by : (b : Bool) → boxes_meet s kind i j ≡ b → not (shares s kind i j) && not b ≡ true → far s kind i j ≡ true
      by true e h = absurd (true≢false (sym h ∙ and-false (not (shares s kind i j))))
      by false e h = away_far e

  -- so near is: no vertex shared, and not far
  pub near_is : near s kind i j ≡ not (shares s kind i j) && not (far s kind i j)
  near_is = by (boxes_meet s kind i j) refl
    where
      by : (b : Bool) → boxes_meet s kind i j ≡ b → not (shares s kind i j) && b && not (far s kind i j) ≡ not (shares s kind i j) && not (far s kind i j)
      by true e = ap (λ (t : Bool). t && not (far s kind i j)) (and-true (not (shares s kind i j)))
      by false e =
          let f = away_far e in
          rw f (and-false (not (shares s kind i j) && false) ∙ sym (and-false (not (shares s kind i j))))
