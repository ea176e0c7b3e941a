-- The five points of an edge and a triangle at one time as the six of a piece: the last corner stands there twice, the second time at the end. Its
-- weight there is 0, since the weighted times agree; so the piece has weights exactly when the edge and the triangle have a place in common.
use Rattle.std.specs.Prelude.{ℕ, zero, suc, ◌+◌, ◌≤◌, ◌<◌, ◌≡◌, Bool, List, [], ◌∷◌, ℤ, ◌+ℤ◌, ◌*ℤ◌, length, get_or}
use native.Mathlib.Omega.{arith}
use Rattle.std.proofs.Math.Path.{refl, sym, ap}
use Rattle.std.proofs.Common.{◌∙◌}
use Rattle.std.proofs.Math.Bool.{true, false}
use Rattle.std.proofs.Math.IntN.{pos, nat_abs}
use Rattle.whole.specs.Vector.{Vector}
use Rattle.whole.specs.Quote.{quotes, ring}
use Rattle.meaning.specs.Limits.{coordinate_limit}
use Rattle.meaning.specs.Scene.{vector_at}
use Rattle.meaning.specs.Pieces.{Event}
use Rattle.meaning.specs.Equations.{total, Touches}
use Rattle.meaning.specs.Motion.{Together}
use Rattle.exact.specs.Places.{Bounded}
use Rattle.corner_leaf.specs.declared.SixPoints.{SixPoints}
use Rattle.corner_leaf.specs.Points.{offset, piece_at, SixIn}
use Rattle.corner_search.specs.Says.{Tells}
use Rattle.corner_search.specs.Settles.{every_left, every_left_is}

-- each of the five has its three coordinates in the positions
pub record FiveIn (ps : List ℤ) (a b c d e : ℕ) : Type 0 where
  pub bounded : Bounded coordinate_limit ps
  pub one_end : a + 3 ≤ length ps
  pub other_end : b + 3 ≤ length ps
  pub one_corner : c + 3 ≤ length ps
  pub next_corner : d + 3 ≤ length ps
  pub last_corner : e + 3 ≤ length ps

-- the edge a b and the triangle c d e have a place in common, or not
abbrev pub InCommon : List ℤ → ℕ → ℕ → ℕ → ℕ → ℕ → Type 0
InCommon ps a b c d e = Together (vector_at ps a ∷ vector_at ps b ∷ []) (vector_at ps c ∷ vector_at ps d ∷ vector_at ps e ∷ [])

unfoldable pub PlacesTell : List ℤ → ℕ → ℕ → ℕ → ℕ → ℕ → Bool → Type 0
PlacesTell ps a b c d e true = InCommon ps a b c d e
PlacesTell ps a b c d e false = ¬ InCommon ps a b c d e

abbrev pub six_from : ℕ → ℕ → ℕ → ℕ → ℕ → SixPoints
six_from a b c d e = record {
  at = a ∷ b ∷ c ∷ d ∷ e ∷ e ∷ [];
  ends = false ∷ false ∷ false ∷ false ∷ false ∷ true ∷ [];
  first = 2;
}

module _ {ps : List ℤ} {a b c d e : ℕ} where
  pub six_in : FiveIn ps a b c d e → SixIn ps (six_from a b c d e)
  six_in h = record { bounded = h.bounded; room = room; timed = record { starts = refl; ends = refl; split = omega arith } }
    where
      room : (i : ℕ) → i < 6 → offset (six_from a b c d e) i + 3 ≤ length ps
      room zero l = h.one_end
      room (suc zero) l = h.other_end
      room (suc (suc zero)) l = h.one_corner
      room (suc (suc (suc zero))) l = h.next_corner
      room (suc (suc (suc (suc zero)))) l = h.last_corner
      room (suc (suc (suc (suc (suc zero))))) l = h.last_corner
      room (suc (suc (suc (suc (suc (suc i)))))) l = absurd (omega arith)

-- a fourth weight that is 0 adds nothing
last_none : (u v w x y z n : ℤ) → u *ℤ x +ℤ (v *ℤ y +ℤ (w *ℤ z +ℤ (pos 0 *ℤ n +ℤ pos 0))) ≡ u *ℤ x +ℤ (v *ℤ y +ℤ (w *ℤ z +ℤ pos 0))
last_none u v w x y z n = ring (u ∷ v ∷ w ∷ x ∷ y ∷ z ∷ n ∷ []) (search quotes depth 40 fits 9000) refl

module _ (ps : List ℤ) (a b c d e : ℕ) where
  abbrev piece : Type 0
  piece = Touches (piece_at ps (six_from a b c d e))

  abbrev corners : List Vector
  corners = vector_at ps c ∷ vector_at ps d ∷ vector_at ps e ∷ []

  abbrev three_of : (ℕ → ℕ) → ℕ → ℕ
  three_of v i = get_or (v 0 ∷ v 1 ∷ v 2 ∷ 0 ∷ []) i 0

  -- what the piece sums up over its four corners, where the last has no weight
  four_sums : (v : ℕ → ℕ) → v 3 ≡ 0 → (f : Vector → ℤ)
      → total (λ (n : Event). f n.place) (λ i. pos (v i)) (piece_at ps (six_from a b c d e)).second ≡ total f (λ i. pos (v i)) corners
  unfolding total
  four_sums v none f =
      rw none
      (last_none (pos (v 0)) (pos (v 1)) (pos (v 2)) (f (vector_at ps c)) (f (vector_at ps d)) (f (vector_at ps e)) (f (vector_at ps e)))

  no_end_weight : (t : piece) → t.v 3 ≡ 0
  unfolding total
  no_end_weight t = let h = ap nat_abs t.balanced.times in omega arith

  down : piece → InCommon ps a b c d e
  unfolding total
  down t = record {
    u = t.u;
    v = t.v;
    some = t.some;
    sums = t.balanced.sums ∙ four_sums t.v (no_end_weight t) (λ p. pos 1);
    xs = t.balanced.xs ∙ four_sums t.v (no_end_weight t) (λ p. p.x);
    ys = t.balanced.ys ∙ four_sums t.v (no_end_weight t) (λ p. p.y);
    zs = t.balanced.zs ∙ four_sums t.v (no_end_weight t) (λ p. p.z);
  }

  up : InCommon ps a b c d e → piece
  unfolding total
  up t = record {
    u = t.u;
    v = three_of t.v;
    balanced = record {
      sums = t.sums ∙ sym (four_sums (three_of t.v) refl (λ p. pos 1));
      xs = t.xs ∙ sym (four_sums (three_of t.v) refl (λ p. p.x));
      ys = t.ys ∙ sym (four_sums (three_of t.v) refl (λ p. p.y));
      zs = t.zs ∙ sym (four_sums (three_of t.v) refl (λ p. p.z));
      times = ap pos (omega arith);
    };
    some = t.some;
  }

  -- what the search says of the piece
  pub tells : (r : Bool) → Tells ps (six_from a b c d e) every_left r → PlacesTell ps a b c d e r
  unfolding Tells PlacesTell
  tells true t = down ((every_left_is ps (six_from a b c d e)).0 t)
  tells false n = λ t. n ((every_left_is ps (six_from a b c d e)).1 (up t))
