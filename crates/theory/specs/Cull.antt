-- A pair that the list leaves out does not touch: in none of its pieces, singular or not, and nowhere in straight motion.
use Rattle.std.specs.Prelude.{◌≡◌, refl, Bool, true, not, ◌&&◌, List, [], ◌∷◌, map, ℕ, ◌/◌, ◌%◌, ◌≤◌, ◌<◌, pos}
use Rattle.std.proofs.Common.{◌∙◌, arith}
use Rattle.std.proofs.Math.Bool.{false, and_comm}
use Rattle.std.proofs.lemmas.Bool.{false≢true}
use Rattle.std.specs.Int.Signed.{le_z}
use Rattle.whole.specs.Order.{parts_lt}
use Rattle.meaning.specs.Scene.{Scene, rising, ends_of, corners_of, edge_end, corner}
use Rattle.meaning.specs.Pieces.{Event, moving_edge, moving_triangle, piece_of}
use Rattle.meaning.specs.Equations.{total, Touches}
use Rattle.meaning.specs.Refusals.{shares}
use Rattle.meaning.specs.Verdicts.{PieceIs, PairIs}
use Rattle.meaning.specs.Resting.{PieceSettled, PairSettled}
use Rattle.meaning.specs.declared.Settled as Words
use Rattle.meaning.specs.Boxes.{Span, Axis, x_axis, y_axis, z_axis, meet, meet_on, culled, vertex_span, edge_span, triangle_span}
use Rattle.meaning.specs.Motion.{standing, first_part, second_part, Together, TouchInMotion}
use Rattle.meaning.specs.declared.Kind.{Kind}
use Rattle.meaning.specs.declared.Kind.TheVariants.{PointTriangle, EdgeEdge}
use Rattle.meaning.specs.declared.Verdict.TheVariants.{Hit}
use Rattle.theory.specs.Bounds.{Every, every_map, every_imp}
use Rattle.theory.specs.Spans.{Holds, Boxed, boxed_apart, not_meeting, apart_stretched, stretched}
use Rattle.theory.specs.InOrder.{rising_keeps, among_keeps, lower_first}
use Rattle.theory.specs.Inside.{HoldsVertex, vertex_in_its_box, edge_in_its_box, triangle_in_its_box, moving_point_in, moving_edge_in, moving_triangle_in, Linear, standing_in}

-- on some axis the boxes do not meet
pub data SomeAxis (P : Axis → Type 0) : Type 0 where
  on_x : P x_axis → SomeAxis P
  on_y : P y_axis → SomeAxis P
  on_z : P z_axis → SomeAxis P

pub culled_on : (s : Scene) (kind : Kind) (i j : ℕ) → culled s kind i j ≡ true → SomeAxis (λ a. meet_on s kind i j a ≡ false)
culled_on s kind i j h = go (shares s kind i j) (meet_on s kind i j x_axis) (meet_on s kind i j y_axis) (meet_on s kind i j z_axis) refl refl refl h
  where
    go : (c x y z : Bool) → meet_on s kind i j x_axis ≡ x → meet_on s kind i j y_axis ≡ y → meet_on s kind i j z_axis ≡ z → (not c && not (x && y && z)) ≡ true → SomeAxis (λ a. meet_on s kind i j a ≡ false)
    go true x y z p q r h = absurd (false≢true h)
    go false false y z p q r h = on_x p
    go false true false z p q r h = on_y q
    go false true true false p q r h = on_z r
    go false true true true p q r h = absurd (false≢true h)

module _ (s : Scene) (a : Axis) where
  pub boxed : (p q : Span) (f g : List Event) → meet p q ≡ false → Every (λ e. Holds p (a e.place)) f → Every (λ e. Holds q (a e.place)) g → Boxed (λ e. a e.place) f g
  boxed p q f g m h k = record { p = p; q = q; apart = not_meeting p q m; in_first = h; in_second = k }

  pub edge_in : (j k : ℕ) → Every (λ e. Holds (edge_span s a j) (a e.place)) (moving_edge s.positions (ends_of s j) k)
  edge_in j k =
      let held = edge_in_its_box s a j in
      let both = rising_keeps s (HoldsVertex s a (edge_span s a j)) (edge_end s j 0) (edge_end s j 1) held.0 held.1.0 in
      moving_edge_in s a (edge_span s a j) (ends_of s j) both.0 both.1 k

  pub triangle_in : (j k : ℕ) → Every (λ e. Holds (triangle_span s a j) (a e.place)) (moving_triangle s.positions (corners_of s j) k)
  triangle_in j k =
      let P : ℕ → Type 0 = HoldsVertex s a (triangle_span s a j) in
      let held = triangle_in_its_box s a j in
      let both = rising_keeps s P (corner s j 0) (corner s j 1) held.0 held.1.0 in
      let all = among_keeps s P (rising s (corner s j 0) (corner s j 1)) (corner s j 2) both.0 both.1 held.1.1.0 in
      moving_triangle_in s a (triangle_span s a j) (corners_of s j) all.0 all.1 all.2 k

  pub piece_boxed : (kind : Kind) (i j k : ℕ) → meet_on s kind i j a ≡ false → Boxed (λ e. a e.place) (piece_of s kind i j k).first (piece_of s kind i j k).second
  unfolding meet_on piece_of
  piece_boxed PointTriangle i j k h =
      boxed (vertex_span s a i) (triangle_span s a j) _ _ h (moving_point_in s a (vertex_span s a i) i (vertex_in_its_box s a i)) (triangle_in j k)
  piece_boxed EdgeEdge i j k h =
      lower_first (λ m n. Boxed (λ e. a e.place) (moving_edge s.positions (ends_of s m) (k / 2)) (moving_edge s.positions (ends_of s n) (k % 2))) i j (edges i j h)
      (edges j i (and_comm (le_z (edge_span s a j).low (edge_span s a i).high) (le_z (edge_span s a i).low (edge_span s a j).high) ∙ h))
    where
      edges : (m n : ℕ) → meet (edge_span s a m) (edge_span s a n) ≡ false → Boxed (λ e. a e.place) (moving_edge s.positions (ends_of s m) (k / 2)) (moving_edge s.positions (ends_of s n) (k % 2))
      edges m n h = boxed (edge_span s a m) (edge_span s a n) _ _ h (edge_in m (k / 2)) (edge_in n (k % 2))

  module _ (lin : Linear a) (p q : ℕ) (within : p ≤ q) (positive : 0 < q) where
    pub standing_boxed : (sp sq : Span) (l m : List ℕ) → meet sp sq ≡ false → Every (HoldsVertex s a sp) l → Every (HoldsVertex s a sq) m → Boxed a (map (standing s p q) l) (map (standing s p q) m)
    standing_boxed sp sq l m h hl hm =
        record {
          p = stretched (pos q) sp;
          q = stretched (pos q) sq;
          apart = apart_stretched (pos q) (parts_lt (omega arith)) sp sq (not_meeting sp sq h);
          in_first = held sp l hl;
          in_second = held sq m hm;
        }
      where
        held : (sp : Span) (l : List ℕ) → Every (HoldsVertex s a sp) l → Every (λ v. Holds (stretched (pos q) sp) (a v)) (map (standing s p q) l)
        held sp l h =
            every_map (λ v. Holds (stretched (pos q) sp) (a v)) (standing s p q) l
            (every_imp (HoldsVertex s a sp) (λ v. Holds (stretched (pos q) sp) (a (standing s p q v))) (λ v. standing_in s a lin sp p q v within) l h)

    pub motion_boxed : (kind : Kind) (i j : ℕ) → meet_on s kind i j a ≡ false → Boxed a (map (standing s p q) (first_part s kind i)) (map (standing s p q) (second_part s kind j))
    unfolding meet_on first_part second_part
    motion_boxed PointTriangle i j h =
        standing_boxed (vertex_span s a i) (triangle_span s a j) (i ∷ []) (second_part s PointTriangle j) h (vertex_in_its_box s a i, tt) (triangle_in_its_box s a j)
    motion_boxed EdgeEdge i j h =
        standing_boxed (edge_span s a i) (edge_span s a j) (first_part s EdgeEdge i) (second_part s EdgeEdge j) h (edge_in_its_box s a i) (edge_in_its_box s a j)

-- ---- the theorem

module _ (s : Scene) (kind : Kind) (i j : ℕ) (h : culled s kind i j ≡ true) where
  pub culled_apart : (k : ℕ) → ¬ Touches (piece_of s kind i j k)
  culled_apart k t = go (culled_on s kind i j h)
    where
      on : (a : Axis) → meet_on s kind i j a ≡ false → ¬ (total (λ (e : Event). a e.place) (λ i. pos (t.u i)) (piece_of s kind i j k).first ≡ total (λ (e : Event). a e.place) (λ i. pos (t.v i)) (piece_of s kind i j k).second)
      on a m = boxed_apart (λ e. a e.place) _ _ (piece_boxed s a kind i j k m) t.u t.v t.some t.balanced.sums

      go : SomeAxis (λ a. meet_on s kind i j a ≡ false) → ⊥
      go (on_x m) = on x_axis m t.balanced.xs
      go (on_y m) = on y_axis m t.balanced.ys
      go (on_z m) = on z_axis m t.balanced.zs

  pub culled_apart_in_motion : ¬ TouchInMotion s kind i j
  culled_apart_in_motion t = go (culled_on s kind i j h)
    where
      c : Together (map (standing s t.p t.q) (first_part s kind i)) (map (standing s t.p t.q) (second_part s kind j))
      c = t.together

      on : (a : Axis) → Linear a → meet_on s kind i j a ≡ false → ¬ (total a (λ i. pos (c.u i)) (map (standing s t.p t.q) (first_part s kind i)) ≡ total a (λ i. pos (c.v i)) (map (standing s t.p t.q) (second_part s kind j)))
      on a lin m = boxed_apart a _ _ (motion_boxed s a lin t.p t.q t.within t.positive kind i j m) c.u c.v c.some c.sums

      go : SomeAxis (λ a. meet_on s kind i j a ≡ false) → ⊥
      go (on_x m) = on x_axis (λ h k u v. refl) m c.xs
      go (on_y m) = on y_axis (λ h k u v. refl) m c.ys
      go (on_z m) = on z_axis (λ h k u v. refl) m c.zs

  pub culled_never_hit : ¬ PairIs s kind i j Hit
  unfolding PairIs PieceIs
  culled_never_hit p = culled_apart p.which p.has.1

  -- nor is it a touch
  pub culled_never_meets : ¬ PairSettled s kind i j Words.TheVariants.Hit × ¬ PairSettled s kind i j Words.TheVariants.Touch
  unfolding PairSettled PieceSettled PieceIs
  culled_never_meets = (
    λ p. culled_apart p.which p.has.1,
    λ p. culled_apart p.1.which p.1.has.1,
  )
