-- Parts whose boxes at one time do not meet are not pierced at that time. Any spans that hold the places then will do: the boxes of that time,
-- and the swept ones too.
use Rattle.std.specs.Prelude.{ℕ, ◌≡◌, refl, Bool, true, false, ◌&&◌, List}
use Rattle.std.proofs.Common.{true≢false}
use Rattle.std.specs.Int.Signed.{≤ℤ_refl}
use Rattle.whole.specs.Vector.{Vector}
use Rattle.meaning.specs.Scene.{Scene, edge_end, corner}
use Rattle.meaning.specs.Boxes.{Span, Axis, x_axis, y_axis, z_axis, joint, meet, edge_span, triangle_span}
use Rattle.meaning.specs.Motion.{Together}
use Rattle.meaning.specs.Near.{where_at, vertex_span_at, edge_span_at, triangle_span_at}
use Rattle.meaning.specs.PiercedRows.{meet_at}
use Rattle.meaning.specs.Pierced.{Pierced}
use Rattle.meaning.specs.declared.Frame.{Frame}
use Rattle.meaning.specs.declared.Frame.TheVariants.{Start, End}
use Rattle.theory.specs.Bounds.{Every}
use Rattle.theory.specs.Spans.{Holds, joint_left, joint_right, not_meeting, Boxed, boxed_apart}
use Rattle.theory.specs.Inside.{HoldsVertex, edge_in_its_box, triangle_in_its_box}
use Rattle.theory.specs.Cull.{SomeAxis, on_x, on_y, on_z}
use Rattle.pierced_laws.specs.OneTime.{end_places, corner_places, pierced_together}

-- places that on some axis lie in two spans that stand apart
pub places_apart : (a b : List Vector) → SomeAxis (λ x. Boxed x a b) → ¬ Together a b
places_apart a b (on_x h) t = boxed_apart x_axis a b h t.u t.v t.some t.sums t.xs
places_apart a b (on_y h) t = boxed_apart y_axis a b h t.u t.v t.some t.sums t.ys
places_apart a b (on_z h) t = boxed_apart z_axis a b h t.u t.v t.some t.sums t.zs

-- a test that fails fails on some axis
on_some_axis : {P : Axis → Type 0} (test : Axis → Bool) → ((x : Axis) → test x ≡ false → P x) → test x_axis && test y_axis && test z_axis ≡ false → SomeAxis P
on_some_axis {P} test h = go (test x_axis) (test y_axis) (test z_axis) refl refl refl
  where
    go : (a b c : Bool) → test x_axis ≡ a → test y_axis ≡ b → test z_axis ≡ c → a && b && c ≡ false → SomeAxis P
    go false b c e f g k = on_x (h x_axis e)
    go true false c e f g k = on_y (h y_axis f)
    go true true false e f g k = on_z (h z_axis g)
    go true true true e f g k = absurd (true≢false k)

module _ (s : Scene) (f : Frame) where
  in_its_spot : (x : Axis) (v : ℕ) → Holds (vertex_span_at f s x v) (x (where_at f s v))
  in_its_spot x v = record { low = ≤ℤ_refl _; high = ≤ℤ_refl _ }

  ends_in : (x : Axis) (i : ℕ) → Every (λ p. Holds (edge_span_at f s x i) (x p)) (end_places s f i)
  ends_in x i =
      let a = vertex_span_at f s x (edge_end s i 0) in
      let b = vertex_span_at f s x (edge_end s i 1) in
      (joint_left a b _ (in_its_spot x _), (joint_right a b _ (in_its_spot x _), tt))

  corners_in : (x : Axis) (j : ℕ) → Every (λ p. Holds (triangle_span_at f s x j) (x p)) (corner_places s f j)
  corners_in x j =
      let a = vertex_span_at f s x (corner s j 0) in
      let b = vertex_span_at f s x (corner s j 1) in
      let c = vertex_span_at f s x (corner s j 2) in (
        joint_left (joint a b) c _ (joint_left a b _ (in_its_spot x _)),
        (joint_left (joint a b) c _ (joint_right a b _ (in_its_spot x _)), (joint_right (joint a b) c _ (in_its_spot x _), tt)),
      )

  -- what a swept box holds at both times it holds at that one
  swept : {x : Axis} {p : Span} {v : ℕ} → HoldsVertex s x p v → Holds p (x (where_at f s v))
  unfolding where_at
  swept {x} {p} {v} h = go f
    where
      go : (f : Frame) → Holds p (x (where_at f s v))
      go Start = h.starts
      go End = h.ends

  module _ (i j : ℕ) where
    -- spans that hold the places of the ends and of the corners, and do not meet
    pub spans_apart : (x : Axis) (p q : Span) → meet p q ≡ false → Every (λ v. Holds p (x v)) (end_places s f i) → Every (λ v. Holds q (x v)) (corner_places s f j)
        → Boxed x (end_places s f i) (corner_places s f j)
    spans_apart x p q m h k = record { p = p; q = q; apart = not_meeting p q m; in_first = h; in_second = k }

    pub not_pierced : SomeAxis (λ x. Boxed x (end_places s f i) (corner_places s f j)) → ¬ Pierced s f i j
    not_pierced h t = places_apart (end_places s f i) (corner_places s f j) h ((pierced_together s f i j).0 t)

    -- the boxes of that time meet on every axis
    abbrev pub boxes_meet_at : Bool
    boxes_meet_at = meet_at f s i j x_axis && meet_at f s i j y_axis && meet_at f s i j z_axis

    pub boxes_apart_lem : boxes_meet_at ≡ false → ¬ Pierced s f i j
    boxes_apart_lem h =
        not_pierced (on_some_axis (λ x. meet (edge_span_at f s x i) (triangle_span_at f s x j))
        (λ x m. spans_apart x (edge_span_at f s x i) (triangle_span_at f s x j) m (ends_in x i) (corners_in x j)) h)

    -- and so of the swept boxes
    pub swept_apart : (meet (edge_span s x_axis i) (triangle_span s x_axis j) && meet (edge_span s y_axis i) (triangle_span s y_axis j) && meet (edge_span s z_axis i) (triangle_span s z_axis j)) ≡ false
        → ¬ Pierced s f i j
    swept_apart h = not_pierced (on_some_axis (λ x. meet (edge_span s x i) (triangle_span s x j)) by h)
      where
        by : (x : Axis) → meet (edge_span s x i) (triangle_span s x j) ≡ false → Boxed x (end_places s f i) (corner_places s f j)
        by x m =
            let e = edge_in_its_box s x i in
            let t = triangle_in_its_box s x j in
            spans_apart x (edge_span s x i) (triangle_span s x j) m (swept e.0, (swept e.1.0, tt))
            (swept t.0, (swept t.1.0, (swept t.1.1.0, tt)))
