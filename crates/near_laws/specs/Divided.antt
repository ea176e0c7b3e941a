-- A height on one axis that moves straight from one number at the start to another at the end. The vertices of one part are at most that high at both
-- times, those of another are above it at both times: then weights bring them together in no piece, and at no time of their straight motion.
use Prim.Native.Nat.{ℕ, suc, zero, ◌-◌, ◌≤◌, ◌<◌}
use Rattle.std.specs.Prelude.{List, [], ◌∷◌, map, ◌≡◌, refl, ℤ, pos, neg_ℤ, ◌+ℤ◌, ◌-ℤ◌, ◌*ℤ◌, ◌≤ℤ◌, ◌<ℤ◌}
use Rattle.std.proofs.Common.{sym, ap, ◌∙◌, arith}
use Rattle.whole.specs.Quote.{quotes}
use Rattle.whole.specs.Order.{le, lt, of_lt, ord, parts_lt}
use Rattle.whole.specs.Vector.{Vector}
use Rattle.meaning.specs.Scene.{Scene, start_of, end_of, edge_end, corner, ends_of, corners_of, rising}
use Rattle.meaning.specs.Boxes.{Axis, x_axis, y_axis, z_axis}
use Rattle.meaning.specs.Pieces.{Event, starting, ending, moving_point, moving_edge, moving_triangle}
use Rattle.meaning.specs.Equations.{total, one, time_of, Balanced, Touch}
use Rattle.meaning.specs.Motion.{standing, Together}
use Rattle.theory.specs.Totals.{total_plus, total_times}
use Rattle.theory.specs.Bounds.{Every, every_map, every_imp, kept_apart, weight_nonnegative}
use Rattle.theory.specs.InOrder.{rising_keeps, among_keeps}
use Rattle.theory.specs.Inside.{Linear, mix_rises}

-- an axis that balanced weights keep, in pieces and in motion: x, y and z are such
pub record Fair (a : Axis) : Type 0 where
  pub linear : Linear a
  pub in_pieces : {f g : List Event} {u v : ℕ → ℤ} → Balanced f g u v → total (λ (e : Event). a e.place) u f ≡ total (λ (e : Event). a e.place) v g
  pub in_motion : {p q : List Vector} → (t : Together p q) → total a (λ i. pos (t.u i)) p ≡ total a (λ i. pos (t.v i)) q

pub x_fair : Fair x_axis
x_fair = record { linear = λ h k u v. refl; in_pieces = λ b. b.xs; in_motion = λ t. t.xs }

pub y_fair : Fair y_axis
y_fair = record { linear = λ h k u v. refl; in_pieces = λ b. b.ys; in_motion = λ t. t.ys }

pub z_fair : Fair z_axis
z_fair = record { linear = λ h k u v. refl; in_pieces = λ b. b.zs; in_motion = λ t. t.zs }

module _ (s : Scene) (a : Axis) where
  -- at most as high, at both times; and higher
  pub record Beneath (h h' : ℤ) (v : ℕ) : Type 0 where
    pub starts : a (start_of s v) ≤ℤ h
    pub ends : a (end_of s v) ≤ℤ h'

  pub record Above (h h' : ℤ) (v : ℕ) : Type 0 where
    pub starts : h <ℤ a (start_of s v)
    pub ends : h' <ℤ a (end_of s v)

  pub record Divided (below above : List ℕ) : Type 0 where
    pub at_start : ℤ
    pub at_end : ℤ
    pub low : Every (Beneath at_start at_end) below
    pub high : Every (Above at_start at_end) above

-- ---- in pieces

-- every event of a list is the start or the end of a vertex of a part
pub record MadeOf (s : Scene) (part : List ℕ) (l : List Event) : Type 1 where
  pub every : (R : ℕ → Type 0) (Q : Event → Type 0) → ((v : ℕ) → R v → Q (starting s.positions v))
      → ((v : ℕ) → R v → Q (ending s.positions v)) → Every R part → Every Q l

module _ (s : Scene) where
  pub point_made : (v : ℕ) → MadeOf s (v ∷ []) (moving_point s.positions v)
  point_made v = record { every = λ R Q st en r. (st v r.0, (en v r.0, tt)) }

  pub edge_made : (j k : ℕ) → MadeOf s (edge_end s j 0 ∷ edge_end s j 1 ∷ []) (moving_edge s.positions (ends_of s j) k)
  unfolding moving_edge
  edge_made j zero =
      record {
        every = λ R Q st en r.
            let (m, n) = rising_keeps s R (edge_end s j 0) (edge_end s j 1) r.0 r.1.0 in
            (st _ m, (st _ n, (en _ n, tt)));
      }
  edge_made j (suc k) =
      record {
        every = λ R Q st en r.
            let (m, n) = rising_keeps s R (edge_end s j 0) (edge_end s j 1) r.0 r.1.0 in
            (st _ m, (en _ m, (en _ n, tt)));
      }

  corners_keep : (R : ℕ → Type 0) (j : ℕ) → Every R (corner s j 0 ∷ corner s j 1 ∷ corner s j 2 ∷ [])
      → R (corners_of s j).low × R (corners_of s j).middle × R (corners_of s j).high
  corners_keep R j r =
      let (m, n) = rising_keeps s R (corner s j 0) (corner s j 1) r.0 r.1.0 in
      among_keeps s R (rising s (corner s j 0) (corner s j 1)) (corner s j 2) m n r.1.1.0

  pub triangle_made : (j k : ℕ) → MadeOf s (corner s j 0 ∷ corner s j 1 ∷ corner s j 2 ∷ []) (moving_triangle s.positions (corners_of s j) k)
  unfolding moving_triangle
  triangle_made j zero =
      record { every = λ R Q st en r. let (l, m, h) = corners_keep R j r in (st _ l, (st _ m, (st _ h, (en _ h, tt)))) }
  triangle_made j (suc zero) =
      record { every = λ R Q st en r. let (l, m, h) = corners_keep R j r in (st _ l, (st _ m, (en _ m, (en _ h, tt)))) }
  triangle_made j (suc (suc k)) =
      record { every = λ R Q st en r. let (l, m, h) = corners_keep R j r in (st _ l, (en _ l, (en _ m, (en _ h, tt)))) }

-- how far an event is above the height at its time
abbrev over : Axis → ℤ → ℤ → Event → ℤ
over a h h' e = a e.place +ℤ (neg_ℤ h *ℤ one e +ℤ (h -ℤ h') *ℤ time_of e)

over_total : (a : Axis) (h h' : ℤ) (w : ℕ → ℤ) (l : List Event)
    → total (over a h h') w l ≡ total (λ (e : Event). a e.place) w l +ℤ (neg_ℤ h *ℤ total one w l +ℤ (h -ℤ h') *ℤ total time_of w l)
over_total a h h' w l =
    total_plus (λ (e : Event). a e.place) (λ (e : Event). neg_ℤ h *ℤ one e +ℤ (h -ℤ h') *ℤ time_of e) w l
    ∙ ap (λ (z : ℤ). total (λ (e : Event). a e.place) w l +ℤ z)
    (total_plus (λ (e : Event). neg_ℤ h *ℤ one e) (λ (e : Event). (h -ℤ h') *ℤ time_of e) w l
    ∙ λ i. total_times (neg_ℤ h) one w l i +ℤ total_times (h -ℤ h') time_of w l i)

start_low : (x h k : ℤ) → x ≤ℤ h → (x +ℤ (neg_ℤ h *ℤ pos 1 +ℤ (h -ℤ k) *ℤ pos 0)) ≤ℤ pos 0
start_low x h k p = le (x ∷ h ∷ k ∷ []) (search quotes depth 40 fits 9000) (omega (arith, ord))

end_low : (x h k : ℤ) → x ≤ℤ k → (x +ℤ (neg_ℤ h *ℤ pos 1 +ℤ (h -ℤ k) *ℤ pos 1)) ≤ℤ pos 0
end_low x h k p = le (x ∷ h ∷ k ∷ []) (search quotes depth 40 fits 9000) (omega (arith, ord))

start_high : (x h k : ℤ) → h <ℤ x → pos 1 ≤ℤ (x +ℤ (neg_ℤ h *ℤ pos 1 +ℤ (h -ℤ k) *ℤ pos 0))
start_high x h k p = le (x ∷ h ∷ k ∷ []) (search quotes depth 40 fits 9000) (omega (arith, ord))

end_high : (x h k : ℤ) → k <ℤ x → pos 1 ≤ℤ (x +ℤ (neg_ℤ h *ℤ pos 1 +ℤ (h -ℤ k) *ℤ pos 1))
end_high x h k p = le (x ∷ h ∷ k ∷ []) (search quotes depth 40 fits 9000) (omega (arith, ord))

module _ {s : Scene} {a : Axis} (fair : Fair a) {p q : List ℕ} (d : Divided s a p q) where
  module _ {f g : List Event} (made : MadeOf s p f) (also : MadeOf s q g) where
    lows : Every (λ e. over a d.at_start d.at_end e ≤ℤ pos 0) f
    lows =
        made.every (Beneath s a d.at_start d.at_end) (λ e. over a d.at_start d.at_end e ≤ℤ pos 0)
        (λ v b. start_low (a (start_of s v)) d.at_start d.at_end b.starts)
        (λ v b. end_low (a (end_of s v)) d.at_start d.at_end b.ends) d.low

    highs : Every (λ e. pos 1 ≤ℤ over a d.at_start d.at_end e) g
    highs =
        also.every (Above s a d.at_start d.at_end) (λ e. pos 1 ≤ℤ over a d.at_start d.at_end e)
        (λ v b. start_high (a (start_of s v)) d.at_start d.at_end b.starts)
        (λ v b. end_high (a (end_of s v)) d.at_start d.at_end b.ends) d.high

    pub divided_apart : ¬ Touch f g
    divided_apart t =
        let h = d.at_start in
        let h' = d.at_end in
        let same = fair.in_pieces t.balanced in
        kept_apart (over a h h') (pos 0) (pos 1) f g t.u t.v lows highs (parts_lt (omega arith)) t.some t.balanced.sums
        (over_total a h h' (λ i. pos (t.u i)) f
        ∙ (λ i. same i +ℤ (neg_ℤ h *ℤ t.balanced.sums i +ℤ (h -ℤ h') *ℤ t.balanced.times i))
        ∙ sym (over_total a h h' (λ i. pos (t.v i)) g))

-- ---- in straight motion

-- at a time the height is one number: A and B stand for q - p and p
heights : (A B h k : ℤ) → pos 0 <ℤ (A +ℤ B) → (A *ℤ h +ℤ B *ℤ k) <ℤ (A *ℤ (h +ℤ pos 1) +ℤ B *ℤ (k +ℤ pos 1))
heights A B h k p =
    let e : List ℤ = A ∷ B ∷ h ∷ k ∷ [] in
    let some = of_lt e (search quotes depth 40 fits 9000) p in
    lt e (search quotes depth 40 fits 9000) (omega arith)

next : (h x : ℤ) → h <ℤ x → (h +ℤ pos 1) ≤ℤ x
next h x p = le (h ∷ x ∷ []) (search quotes depth 40 fits 9000) (omega (arith, ord))

module _ {s : Scene} {a : Axis} (fair : Fair a) {below above : List ℕ} (d : Divided s a below above) (p q : ℕ) (within : p ≤ q) (positive : 0 < q) where
  abbrev early : ℤ
  early = pos (q - p)

  abbrev late : ℤ
  late = pos p

  some_weight : pos 0 <ℤ (early +ℤ late)
  some_weight = let e : pos (q - p) +ℤ pos p ≡ pos q = ap pos (omega arith) in rw e (parts_lt (omega arith))

  stands_low : (v : ℕ) → Beneath s a d.at_start d.at_end v → a (standing s p q v) ≤ℤ (early *ℤ d.at_start +ℤ late *ℤ d.at_end)
  stands_low v b =
      rw fair.linear (mix_rises early late _ _ _ _ (weight_nonnegative (q - p)) (weight_nonnegative p) b.starts b.ends)

  stands_high : (v : ℕ) → Above s a d.at_start d.at_end v
      → (early *ℤ (d.at_start +ℤ pos 1) +ℤ late *ℤ (d.at_end +ℤ pos 1)) ≤ℤ a (standing s p q v)
  stands_high v b =
      rw fair.linear
      (mix_rises early late _ _ _ _ (weight_nonnegative (q - p)) (weight_nonnegative p) (next _ _ b.starts) (next _ _ b.ends))

  pub divided_in_motion : ¬ Together (map (standing s p q) below) (map (standing s p q) above)
  divided_in_motion t =
      let h = early *ℤ d.at_start +ℤ late *ℤ d.at_end in
      let k = early *ℤ (d.at_start +ℤ pos 1) +ℤ late *ℤ (d.at_end +ℤ pos 1) in
      kept_apart a h k (map (standing s p q) below) (map (standing s p q) above) t.u t.v
      (every_map (λ v. a v ≤ℤ h) (standing s p q) below
      (every_imp (Beneath s a d.at_start d.at_end) (λ v. a (standing s p q v) ≤ℤ h) stands_low below d.low))
      (every_map (λ v. k ≤ℤ a v) (standing s p q) above
      (every_imp (Above s a d.at_start d.at_end) (λ v. k ≤ℤ a (standing s p q v)) stands_high above d.high))
      (heights early late d.at_start d.at_end some_weight)
      t.some t.sums (fair.in_motion t)
