-- Clean at the start, nothing touched: clean at the end, for an edge and a triangle. The hypotheses stand in `OnePair` of specs/.
use Prim.Native.Nat.{ℕ, zero, suc}
use Rattle.std.proofs.Common.{arith}
use Rattle.std.specs.Prelude.{◌≡◌, ◌↔◌, [], ◌∷◌}
use Rattle.std.proofs.Math.Path.{refl}
use Rattle.meaning.specs.Scene.{Scene, start_of, end_of, edge_end, corner, before, rising, among, ends_of, corners_of}
use Rattle.meaning.specs.Pieces.{Event, moving_point, moving_edge, moving_triangle, piece_of, piece_count}
use Rattle.meaning.specs.Equations.{Touch}
use Rattle.meaning.specs.Pierced.{stands_at, Pierced}
use Rattle.meaning.specs.declared.Ends.{Ends}
use Rattle.meaning.specs.declared.Corners.{Corners}
use Rattle.meaning.specs.declared.Frame.{Frame}
use Rattle.meaning.specs.declared.Frame.TheVariants.{Start, End}
use Rattle.meaning.specs.declared.Kind.TheVariants.{PointTriangle}
use Rattle.theory.specs.InOrder.{cond_keeps, rising_keeps}
use Rattle.theory.specs.Determinants.{front, behind}
use Rattle.theory.specs.Rearranged.{Rearranged, unmoved, moved, also, rearranged_back, rearranged_before, rearranged_map}
use Rattle.theory.specs.SamePoints.{touch_rearranged}
use Rattle.theory.specs.NoCrack.{Sewn}
use Rattle.pierced_laws.specs.SomeWeights.{SomeTouches}
use Rattle.clean_laws.specs.SixCells.{edge_of, triangle_of, Untouched}
use Rattle.clean_laws.specs.Clean.{stays_clean}
use Rattle.clean_demands.specs.Sides.{SidesOf, ClearOf, EachSide}
use Rattle.clean_demands.proofs.Sides.{clear_of_sides}
use Rattle.clean_demands.specs.OnePair.{NothingTouches}

ends_in_order : (s : Scene) (a b : ℕ) → Rearranged ((rising s a b).low ∷ (rising s a b).high ∷ []) (a ∷ b ∷ [])
ends_in_order s a b =
    cond_keeps (λ (e : Ends). Rearranged (e.low ∷ e.high ∷ []) (a ∷ b ∷ [])) (before s b a) _ _ (moved front unmoved) unmoved

corners_in_order : (s : Scene) (e : Ends) (c : ℕ)
    → Rearranged ((among s e c).low ∷ (among s e c).middle ∷ (among s e c).high ∷ []) (e.low ∷ e.high ∷ c ∷ [])
corners_in_order s e c =
    let Q : Corners → Type 0 = λ (k : Corners). Rearranged (k.low ∷ k.middle ∷ k.high ∷ []) (e.low ∷ e.high ∷ c ∷ []) in
    cond_keeps Q (before s c e.low) _ _ (moved front (moved (behind front) unmoved))
    (cond_keeps Q (before s c e.high) _ _ (moved (behind front) unmoved) unmoved)

module _ (s : Scene) (f : Frame) (i j : ℕ) where
  abbrev at : ℕ → Event
  at = stands_at f s.positions

  -- pierced, as if ends and corners were written in rising order
  abbrev InOrder : Type 0
  InOrder =
      Touch (at (ends_of s i).low ∷ at (ends_of s i).high ∷ [])
      (at (corners_of s j).low ∷ at (corners_of s j).middle ∷ at (corners_of s j).high ∷ [])

  pierced_in_order : Pierced s f i j ↔ InOrder
  pierced_in_order =
      let e = rearranged_map at (ends_in_order s (edge_end s i 0) (edge_end s i 1)) in
      let c = rearranged_map at (also (corners_in_order s (rising s (corner s j 0) (corner s j 1)) (corner s j 2)) (rearranged_before (corner s j 2 ∷ []) (ends_in_order s (corner s j 0) (corner s j 1)))) in
      (λ t. touch_rearranged (rearranged_back e) (rearranged_back c) t, λ t. touch_rearranged e c t)

module _ (s : Scene) (i j : ℕ) where
  abbrev Still : Type 0
  Still = Untouched
      (start_of s (ends_of s i).low) (end_of s (ends_of s i).low) (start_of s (ends_of s i).high) (end_of s (ends_of s i).high)
      (start_of s (corners_of s j).low) (end_of s (corners_of s j).low) (start_of s (corners_of s j).middle) (end_of s (corners_of s j).middle)
      (start_of s (corners_of s j).high) (end_of s (corners_of s j).high)

  no_piece : (v : ℕ) → ¬ SomeTouches s PointTriangle v j → (k : ℕ) → ¬ Touch (moving_point s.positions v) (moving_triangle s.positions (corners_of s j) k)
  unfolding piece_of piece_count moving_triangle
  no_piece v h zero t = h (record { which = 0; there = omega arith; has = t })
  no_piece v h (suc zero) t = h (record { which = 1; there = omega arith; has = t })
  no_piece v h (suc (suc k)) t = h (record { which = 2; there = omega arith; has = t })

  as_places : (c : Corners) (k : ℕ) → moving_triangle s.positions c k
      ≡ triangle_of (start_of s c.low) (end_of s c.low) (start_of s c.middle) (end_of s c.middle) (start_of s c.high) (end_of s c.high) k
  unfolding moving_triangle triangle_of
  as_places c zero = refl
  as_places c (suc zero) = refl
  as_places c (suc (suc k)) = refl

  edge_as_places : (e : Ends) (k : ℕ) → moving_edge s.positions e k ≡ edge_of (start_of s e.low) (end_of s e.low) (start_of s e.high) (end_of s e.high) k
  unfolding moving_edge edge_of
  edge_as_places e zero = refl
  edge_as_places e (suc k) = refl

  untouched : ¬ SomeTouches s PointTriangle (edge_end s i 0) j → ¬ SomeTouches s PointTriangle (edge_end s i 1) j → EachSide (ClearOf s i) (corners_of s j) → Still
  untouched first second sides =
      let (low, high) = rising_keeps s (λ v. ¬ SomeTouches s PointTriangle v j) (edge_end s i 0) (edge_end s i 1) first second in
      record {
        first_end = λ k. rw (as_places (corners_of s j) k) at (no_piece (ends_of s i).low low k);
        second_end = λ k. rw (as_places (corners_of s j) k) at (no_piece (ends_of s i).high high k);
        low_middle = λ m n. rw (edge_as_places (ends_of s i) m, edge_as_places (record { low = (corners_of s j).low; high = (corners_of s j).middle }) n) at (sides.low_middle.none m n);
        low_high = λ m n. rw (edge_as_places (ends_of s i) m, edge_as_places (record { low = (corners_of s j).low; high = (corners_of s j).high }) n) at (sides.low_high.none m n);
        middle_high = λ m n. rw (edge_as_places (ends_of s i) m, edge_as_places (record { low = (corners_of s j).middle; high = (corners_of s j).high }) n) at (sides.middle_high.none m n);
      }

-- Where vertices that stand for one are in one place, and the edges x, y and z are the sides of triangle j: if edge i touches neither the triangle
-- with an end nor a side, it pierces the triangle at the start exactly when it does at the end.
pub stays_pierced : {s : Scene} → Sewn s → (i j x y z : ℕ) → SidesOf s j x y z → NothingTouches s i j x y z → Pierced s Start i j ↔ Pierced s End i j
unfolding stands_at
stays_pierced {s} sewn i j x y z sides none =
    let start = pierced_in_order s Start i j in
    let end = pierced_in_order s End i j in
    let clean = stays_clean (untouched s i j none.first_end none.second_end (clear_of_sides sewn i j x y z sides none.first_side none.second_side none.third_side)) in
    (λ p. end.1 (clean.0 (start.0 p)), λ p. start.1 (clean.1 (end.0 p)))
