-- A side goes point by point, and the two sides of a piece are the weighted sums of its simplices.
use Prim.Native.Nat.{ℕ, zero, suc, ◌+◌, ◌-◌, ◌≤◌, ◌<◌}
use Rattle.std.proofs.Common.{add-zero, zero-add, sym, ◌∙◌, length-take, take-suc, take_all, get_or-drop}
use Rattle.std.proofs.Math.Nat.{min-eq_left}
use native.Mathlib.Omega.{arith}
use mathlib.Core.List.{List, [], ◌∷◌}
use Rattle.std.specs.Prelude.{◌≡◌, ℤ, ◌+ℤ◌, ◌*ℤ◌, take}
use Rattle.std.proofs.Math.Path.{refl, ap}
use Rattle.std.proofs.Math.IntN.{pos, +ℤ_idr}
use Rattle.std.proofs.Math.ListN.{length, drop, length-drop}
use Rattle.meaning.specs.Pieces.{Event}
use Rattle.meaning.specs.Equations.{total}
use Rattle.meaning.specs.Claims.{weight_at, of_first_simplex, of_second_simplex}
use Rattle.theory.specs.Totals.{total_append}
use Rattle.corner_leaf.specs.declared.SixPoints.{SixPoints}
use Rattle.corner_laws.specs.Slots.{event_in}
use Rattle.corner_leaf.specs.Points.{event_at, six_events, piece_at, first_long}
use Rattle.claim_sums.specs.Sums.{reading, side}

-- one point more
total_next : (f : Event → ℤ) (w : ℕ → ℤ) (l : List Event) (n : ℕ) → n < length l
    → total f w (take (suc n) l) ≡ total f w (take n l) +ℤ w n *ℤ f (event_in l n)
unfolding total
total_next f w l n h =
    let long : length (take n l) ≡ n = length-take n l ∙ min-eq_left (omega arith) in
    ap (total f w) (take-suc l n _ h) ∙ total_append f w (take n l) (event_in l n ∷ [])
    ∙ simp (long, add-zero, +ℤ_idr)

module _ (ps : List ℤ) (six : SixPoints) (ws : List ℕ) where
  six_event : (i : ℕ) → i < 6 → event_in (six_events ps six) i ≡ event_at ps six i
  six_event zero h = refl
  six_event (suc zero) h = refl
  six_event (suc (suc zero)) h = refl
  six_event (suc (suc (suc zero))) h = refl
  six_event (suc (suc (suc (suc zero)))) h = refl
  six_event (suc (suc (suc (suc (suc zero))))) h = refl
  six_event (suc (suc (suc (suc (suc (suc i)))))) h = absurd (omega arith)

  pub side_none : (i row : ℕ) → side ps six ws i i row ≡ pos 0
  unfolding side total
  side_none i row =
      let none : i - i ≡ 0 = omega arith in
      rw none refl

  pub side_next : (i j row : ℕ) → i ≤ j → j < 6
      → side ps six ws i (j + 1) row ≡ side ps six ws i j row +ℤ pos (weight_at ws j) *ℤ reading row (event_at ps six j)
  unfolding side
  side_next i j row h k =
      let more : j + 1 - i ≡ suc (j - i) = omega arith in
      let here : i + (j - i) ≡ j = omega arith in
      let inside : j - i < length (drop i (six_events ps six)) = omega (arith, length-drop i (six_events ps six)) in
      ap (λ n. total (reading row) (λ m. pos (weight_at ws (i + m))) (take n (drop i (six_events ps six)))) more
      ∙ total_next (reading row) (λ m. pos (weight_at ws (i + m))) (drop i (six_events ps six)) (j - i) inside
      ∙ simp (get_or-drop, here, six_event j k)

  pub side_first : (row : ℕ) → side ps six ws 0 six.first row ≡ total (reading row) (of_first_simplex ws) (piece_at ps six).first
  unfolding side
  side_first row =
      let whole : six.first - 0 ≡ six.first = omega arith in
      simp (zero-add, whole)

  pub side_second : six.first ≤ 6 → (row : ℕ)
      → side ps six ws six.first 6 row ≡ total (reading row) (of_second_simplex (piece_at ps six) ws) (piece_at ps six).second
  unfolding side
  side_second h row =
      let rest : List Event = drop six.first (six_events ps six) in
      ap (total (reading row) (λ m. pos (weight_at ws (six.first + m))))
      (take_all (6 - six.first) rest (omega (arith, length-drop six.first (six_events ps six))))
      ∙ ap (λ n. total (reading row) (λ m. pos (weight_at ws (n + m))) rest) (sym (first_long ps six h))
