-- What rests on the definitions of `Pieces`.
use Rattle.std.specs.Prelude.{◌≡◌, ◌⊎◌, false}
use Rattle.std.proofs.Common.{sym, ◌∙◌, ap, ap₂, inl, inr, arith}
use mathlib.Core.List.{[], ◌∷◌, map, reverse}
use Prim.Native.Nat.{ℕ, zero, suc, ◌-◌, ◌<◌, min, max}
use Rattle.meaning.specs.Scene.{Scene, edge_count, triangle_count, edge_end, corner, ends_of, corners_of, same, rising, among}
use Rattle.meaning.specs.Pieces.{starting, ending, moving_point, moving_edge, moving_triangle, piece_of, piece_count}
use Rattle.meaning.specs.Motion.{first_part, second_part}
use Rattle.meaning.specs.Backwards.{from_last, first_turned, piece_turned, time_turned, played_back}
use Rattle.meaning.specs.declared.Ends.{Ends}
use Rattle.meaning.specs.declared.Corners.{Corners}
use Rattle.meaning.specs.declared.Kind.{Kind}
use Rattle.meaning.specs.declared.Kind.TheVariants.{PointTriangle, EdgeEdge}
use Rattle.theory.specs.Bounds.{Every}
use Rattle.theory.specs.Differences.{at_start, at_end}
use Rattle.theory.specs.InOrder.{rising_keeps, among_keeps, lower_first}
use Rattle.theory.specs.Moved.{Known}
use Rattle.theory.specs.Rewritten.{WellMade}
use Rattle.theory.specs.Written.{Lower, lower_or_higher, rising_lower, rising_higher, corners, six_orders, Different, ends_written, corners_written}
use Rattle.turning_laws.specs.Numbers.{number_falls}
use Rattle.turning_laws.specs.Turned.{TurnsRound}
use Rattle.turning_laws.specs.Unsewn.{as_numbered, numbered_so}
use Rattle.turning_laws.specs.Pieces.{ends_turned, corners_turned, edge_end_turned, corner_turned, n, There, EdgeTurned}

module _ (s t : Scene) (n : ℕ) (unsewn : s.seams ≡ []) (also : t.seams ≡ []) where
  fall : (x y : ℕ) → Lower s x y → y < n → Lower t (from_last n y) (from_last n x)
  fall x y l k = numbered_so t also (from_last n y) (from_last n x) (number_falls n x y (as_numbered s unsewn x y l) k)

  rising_turned : (a b : ℕ) → a < n → b < n → same s a b ≡ false → rising t (from_last n a) (from_last n b) ≡ ends_turned n (rising s a b)
  rising_turned a b h k d = go (lower_or_higher s a b d)
    where
      go : Lower s a b ⊎ Lower s b a → rising t (from_last n a) (from_last n b) ≡ ends_turned n (rising s a b)
      go (inl l) = rising_higher t (from_last n b) (from_last n a) (fall a b l k) ∙ ap (ends_turned n) (sym (rising_lower s a b l))
      go (inr l) = rising_lower t (from_last n a) (from_last n b) (fall b a l h) ∙ ap (ends_turned n) (sym (rising_higher s b a l))

  corners_turned_lem : (a b c : ℕ) → a < n → b < n → c < n → same s a b ≡ false → same s b c ≡ false → same s a c ≡ false
      → corners t (from_last n a) (from_last n b) (from_last n c) ≡ corners_turned n (corners s a b c)
  corners_turned_lem a b c ha hb hc ab bc ac = go (lower_or_higher s a b ab) (lower_or_higher s b c bc) (lower_or_higher s a c ac)
    where
      Goal : Type 0
      Goal = corners t (from_last n a) (from_last n b) (from_last n c) ≡ corners_turned n (corners s a b c)

      go : Lower s a b ⊎ Lower s b a → Lower s b c ⊎ Lower s c b → Lower s a c ⊎ Lower s c a → Goal
      go (inl p) (inl q) r =
          (six_orders t _ _ _ (fall b c q hc) (fall a b p hb)).zyx ∙ ap (corners_turned n) (sym (six_orders s a b c p q).xyz)
      go (inl p) (inr q) (inl r) =
          (six_orders t _ _ _ (fall c b q hb) (fall a c r hc)).zxy ∙ ap (corners_turned n) (sym (six_orders s a c b r q).xzy)
      go (inl p) (inr q) (inr r) =
          (six_orders t _ _ _ (fall a b p hb) (fall c a r ha)).yxz ∙ ap (corners_turned n) (sym (six_orders s c a b r p).yzx)
      go (inr p) (inl q) (inl r) =
          (six_orders t _ _ _ (fall a c r hc) (fall b a p ha)).yzx ∙ ap (corners_turned n) (sym (six_orders s b a c p r).yxz)
      go (inr p) (inl q) (inr r) =
          (six_orders t _ _ _ (fall c a r ha) (fall b c q hc)).xzy ∙ ap (corners_turned n) (sym (six_orders s b c a q r).zxy)
      go (inr p) (inr q) r =
          (six_orders t _ _ _ (fall b a p ha) (fall c b q hb)).xyz ∙ ap (corners_turned n) (sym (six_orders s c b a q p).zyx)

module _ {s t : Scene} (h : TurnsRound s t) (unsewn : s.seams ≡ []) where
  start_turned : (v : ℕ) → There h unsewn v → starting t.positions (from_last (n h unsewn) v) ≡ time_turned (ending s.positions v)
  start_turned v k = ap at_start (h.starts v k)

  end_turned : (v : ℕ) → There h unsewn v → ending t.positions (from_last (n h unsewn) v) ≡ time_turned (starting s.positions v)
  end_turned v k = ap at_end (h.ends v k)

  point_turned : (v : ℕ) → There h unsewn v → moving_point t.positions (from_last (n h unsewn) v) ≡ reverse (map time_turned (moving_point s.positions v))
  point_turned v k = λ i. start_turned v k i ∷ end_turned v k i ∷ []

  -- piece A is piece B, and B is A
  edge_turned : (e : Ends) → There h unsewn e.low × There h unsewn e.high
      → (moving_edge t.positions (ends_turned (n h unsewn) e) 1 ≡ reverse (map time_turned (moving_edge s.positions e 0)))
      × (moving_edge t.positions (ends_turned (n h unsewn) e) 0 ≡ reverse (map time_turned (moving_edge s.positions e 1)))
  unfolding moving_edge
  edge_turned e (l, u) = (
    λ i. start_turned e.high u i ∷ end_turned e.high u i ∷ end_turned e.low l i ∷ [],
    λ i. start_turned e.high u i ∷ start_turned e.low l i ∷ end_turned e.low l i ∷ [],
  )

  triangle_turned : (c : Corners) → There h unsewn c.low × There h unsewn c.middle × There h unsewn c.high → (k : ℕ) → k < 3
      → moving_triangle t.positions (corners_turned (n h unsewn) c) (2 - k) ≡ reverse (map time_turned (moving_triangle s.positions c k))
  unfolding moving_triangle
  triangle_turned c (l, m, u) zero b =
      λ i. start_turned c.high u i ∷ end_turned c.high u i ∷ end_turned c.middle m i ∷ end_turned c.low l i ∷ []
  triangle_turned c (l, m, u) (suc zero) b =
      λ i. start_turned c.high u i ∷ start_turned c.middle m i ∷ end_turned c.middle m i ∷ end_turned c.low l i ∷ []
  triangle_turned c (l, m, u) (suc (suc zero)) b =
      λ i. start_turned c.high u i ∷ start_turned c.middle m i ∷ start_turned c.low l i ∷ end_turned c.low l i ∷ []
  triangle_turned c (l, m, u) (suc (suc (suc k))) b = absurd (omega arith)

  ends_turned_lem : (j : ℕ) → j < edge_count s → Different s (ends_written s j) → Every (There h unsewn) (ends_written s j) → ends_of t j ≡ ends_turned (n h unsewn) (ends_of s j)
  ends_turned_lem j b d e =
      ap₂ (rising t) (edge_end_turned h j 0 b (omega arith)) (edge_end_turned h j 1 b (omega arith))
      ∙ rising_turned s t (n h unsewn) unsewn (h.seams ∙ unsewn) (edge_end s j 0) (edge_end s j 1) e.0 e.1.0 d.0.0

  corners_of_turned : (j : ℕ) → j < triangle_count s → Different s (corners_written s j) → Every (There h unsewn) (corners_written s j)
      → corners_of t j ≡ corners_turned (n h unsewn) (corners_of s j)
  corners_of_turned j b d e =
      ap₂ (among t) (ap₂ (rising t) (corner_turned h j 0 b (omega arith)) (corner_turned h j 1 b (omega arith))) (corner_turned h j 2 b (omega arith))
      ∙ corners_turned_lem s t (n h unsewn) unsewn (h.seams ∙ unsewn) (corner s j 0) (corner s j 1) (corner s j 2) e.0 e.1.0 e.1.1.0 d.0.0 d.1.0.0 d.0.1.0

  edge_at_turned : (j : ℕ) → j < edge_count s → Different s (ends_written s j) → Every (There h unsewn) (ends_written s j) → EdgeTurned h unsewn j
  edge_at_turned j b d e =
      rw (ends_turned_lem j b d e) (edge_turned (ends_of s j) (rising_keeps s (There h unsewn) (edge_end s j 0) (edge_end s j 1) e.0 e.1.0))

  triangle_at_turned : (j : ℕ) → j < triangle_count s → Different s (corners_written s j) → Every (There h unsewn) (corners_written s j)
      → (k : ℕ) → k < 3 → moving_triangle t.positions (corners_of t j) (2 - k) ≡ reverse (map time_turned (moving_triangle s.positions (corners_of s j) k))
  triangle_at_turned j b d e k l =
      let (low, high) = rising_keeps s (There h unsewn) (corner s j 0) (corner s j 1) e.0 e.1.0 in
      ap (λ (c : Corners). moving_triangle t.positions c (2 - k)) (corners_of_turned j b d e)
      ∙ triangle_turned (corners_of s j) (among_keeps s (There h unsewn) (rising s (corner s j 0) (corner s j 1)) (corner s j 2) low high e.1.1.0) k l

  pub piece_turned_lem : (kind : Kind) (i j : ℕ) → Known s kind i j → WellMade s kind i j → (k : ℕ) → k < piece_count kind
      → piece_of t kind (first_turned s kind i) j (piece_turned kind k) ≡ played_back (piece_of s kind i j k)
  unfolding piece_of piece_count first_turned piece_turned first_part second_part WellMade
  piece_turned_lem PointTriangle i j known made k b =
      λ x. record { first = point_turned i known.first.0 x; second = triangle_at_turned j made.0 made.1 known.second k b x }
  piece_turned_lem EdgeEdge i j known made k b = four k b
    where
      one : EdgeTurned h unsewn i
      one = edge_at_turned i made.0 made.1 known.first

      other : EdgeTurned h unsewn j
      other = edge_at_turned j made.2 made.3 known.second

      both : EdgeTurned h unsewn (min i j) × EdgeTurned h unsewn (max i j)
      both = lower_first (λ m n. EdgeTurned h unsewn m × EdgeTurned h unsewn n) i j (one, other) (other, one)

      four : (k : ℕ) → k < 4 → piece_of t EdgeEdge i j (3 - k) ≡ played_back (piece_of s EdgeEdge i j k)
      four zero b = λ x. record { first = both.0.0 x; second = both.1.0 x }
      four (suc zero) b = λ x. record { first = both.0.0 x; second = both.1.1 x }
      four (suc (suc zero)) b = λ x. record { first = both.0.1 x; second = both.1.0 x }
      four (suc (suc (suc zero))) b = λ x. record { first = both.0.1 x; second = both.1.1 x }
      four (suc (suc (suc (suc k)))) b = absurd (omega arith)
