-- A part's box holds every point of every piece of it, and holds its vertices all the way of their straight motion.
use Rattle.std.specs.Prelude.{◌≡◌, [], ◌∷◌, ℤ, pos, ◌+ℤ◌, ◌*ℤ◌, ◌≤ℤ◌}
use Rattle.std.proofs.Common.{ap, arith}
use Prim.Native.Nat.{ℕ, zero, suc, ◌-◌, ◌≤◌}
use Rattle.std.proofs.Math.IntN.{+ℤ_idr}
use Rattle.std.specs.Int.Signed.{≤ℤ_refl}
use Rattle.whole.specs.Laws.{*ℤ_distr}
use Rattle.whole.specs.Vector.{Vector, plus, scale}
use Rattle.meaning.specs.Scene.{Scene, start_of, end_of, edge_end, corner}
use Rattle.meaning.specs.Pieces.{moving_point, moving_edge, moving_triangle}
use Rattle.meaning.specs.Boxes.{Span, Axis, vertex_span, joint, edge_span, triangle_span}
use Rattle.meaning.specs.Motion.{standing}
use Rattle.meaning.specs.declared.Ends.{Ends}
use Rattle.meaning.specs.declared.Corners.{Corners}
use Rattle.theory.specs.Bounds.{Every, weight_nonnegative, weighted_rises}
use Rattle.theory.specs.Spans.{Holds, stretched, around, joint_left, joint_right}

-- the span holds the vertex, on one axis, at the start and at the end
pub record HoldsVertex (s : Scene) (a : Axis) (p : Span) (v : ℕ) : Type 0 where
  pub starts : Holds p (a (start_of s v))
  pub ends : Holds p (a (end_of s v))

module _ (s : Scene) (a : Axis) where
  pub in_joint : (p q : Span) (v : ℕ) → HoldsVertex s a p v → HoldsVertex s a (joint p q) v
  in_joint p q v h = record { starts = joint_left p q _ h.starts; ends = joint_left p q _ h.ends }

  pub in_joint_too : (p q : Span) (v : ℕ) → HoldsVertex s a q v → HoldsVertex s a (joint p q) v
  in_joint_too p q v h = record { starts = joint_right p q _ h.starts; ends = joint_right p q _ h.ends }

  pub vertex_in_its_box : (v : ℕ) → HoldsVertex s a (vertex_span s a v) v
  vertex_in_its_box v =
      let r = around (a (start_of s v)) (a (end_of s v)) in
      record { starts = record { low = r.low_left; high = r.high_left }; ends = record { low = r.low_right; high = r.high_right } }

  pub edge_in_its_box : (j : ℕ) → Every (HoldsVertex s a (edge_span s a j)) (edge_end s j 0 ∷ edge_end s j 1 ∷ [])
  edge_in_its_box j =
      let p = vertex_span s a (edge_end s j 0) in
      let q = vertex_span s a (edge_end s j 1) in
      (in_joint p q _ (vertex_in_its_box _), (in_joint_too p q _ (vertex_in_its_box _), tt))

  pub triangle_in_its_box : (j : ℕ) → Every (HoldsVertex s a (triangle_span s a j)) (corner s j 0 ∷ corner s j 1 ∷ corner s j 2 ∷ [])
  triangle_in_its_box j =
      let p = vertex_span s a (corner s j 0) in
      let q = vertex_span s a (corner s j 1) in
      let r = vertex_span s a (corner s j 2) in (
        in_joint (joint p q) r _ (in_joint p q _ (vertex_in_its_box _)),
        (
          in_joint (joint p q) r _ (in_joint_too p q _ (vertex_in_its_box _)),
          (in_joint_too (joint p q) r _ (vertex_in_its_box _), tt),
        ),
      )

-- ---- pieces

module _ (s : Scene) (a : Axis) (p : Span) where
  pub moving_point_in : (v : ℕ) → HoldsVertex s a p v → Every (λ e. Holds p (a e.place)) (moving_point s.positions v)
  moving_point_in v h = (h.starts, (h.ends, tt))

  pub moving_edge_in : (e : Ends) → HoldsVertex s a p e.low → HoldsVertex s a p e.high → (k : ℕ) → Every (λ e. Holds p (a e.place)) (moving_edge s.positions e k)
  unfolding moving_edge
  moving_edge_in e l h zero = (l.starts, (h.starts, (h.ends, tt)))
  moving_edge_in e l h (suc k) = (l.starts, (l.ends, (h.ends, tt)))

  pub moving_triangle_in : (c : Corners) → HoldsVertex s a p c.low → HoldsVertex s a p c.middle → HoldsVertex s a p c.high → (k : ℕ) → Every (λ e. Holds p (a e.place)) (moving_triangle s.positions c k)
  unfolding moving_triangle
  moving_triangle_in c l m h zero = (l.starts, (m.starts, (h.starts, (h.ends, tt))))
  moving_triangle_in c l m h (suc zero) = (l.starts, (m.starts, (m.ends, (h.ends, tt))))
  moving_triangle_in c l m h (suc (suc k)) = (l.starts, (l.ends, (m.ends, (h.ends, tt))))

-- ---- straight motion

-- an axis reads a sum of multiples as the sum of the multiples of what it reads
abbrev pub Linear : Axis → Type 0
Linear a = (h k : ℤ) (u v : Vector) → a (plus (scale h u) (scale k v)) ≡ h *ℤ a u +ℤ k *ℤ a v

pub mix_rises : (h k x y x' y' : ℤ) → pos 0 ≤ℤ h → pos 0 ≤ℤ k → x ≤ℤ x' → y ≤ℤ y' → (h *ℤ x +ℤ k *ℤ y) ≤ℤ (h *ℤ x' +ℤ k *ℤ y')
mix_rises h k x y x' y' hn kn p q =
    let r = weighted_rises k y y' (pos 0) (pos 0) kn q (≤ℤ_refl (pos 0)) in
    weighted_rises h x x' (k *ℤ y) (k *ℤ y') hn p (simp +ℤ_idr at r)

pub standing_in : (s : Scene) (a : Axis) → Linear a → (sp : Span) (p q v : ℕ) → p ≤ q → HoldsVertex s a sp v → Holds (stretched (pos q) sp) (a (standing s p q v))
standing_in s a lin sp p q v h held =
    let e : pos q ≡ pos (q - p) +ℤ pos p = ap pos (omega arith) in
    let w = weight_nonnegative (q - p) in
    let w' = weight_nonnegative p in
    record {
      low = rw (lin, e, *ℤ_distr) (mix_rises _ _ _ _ _ _ w w' held.starts.low held.ends.low);
      high = rw (lin, e, *ℤ_distr) (mix_rises _ _ _ _ _ _ w w' held.starts.high held.ends.high);
    }
