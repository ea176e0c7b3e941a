-- Each of the seven pieces, sent through a linear map with a shift at the start and another at the end, is singular exactly where it was: its four
-- volumes grow by the map's determinant, and the shifts go out in the differences. So the piece sent is alike to the piece.
use Rattle.std.specs.Prelude.{◌≡◌, refl, ◌≢◌, ◌↔◌, ℤ, pos, neg_ℤ, ◌+ℤ◌, ◌-ℤ◌, ◌*ℤ◌}
use Rattle.std.proofs.Common.{sym, ◌∙◌, ap}
use mathlib.Core.Logic.Iff
use mathlib.Core.List.{[], ◌∷◌, map}
use Prim.Native.Nat.{ℕ, zero, suc, ◌/◌, ◌%◌, min, max}
use Rattle.std.proofs.Math.IntN.{*ℤ-zero}
use Rattle.whole.specs.Laws.{cancel_factor, *ℤ_negℤ}
use Rattle.whole.specs.Vector.{Vector, plus, minus, volume}
use Rattle.whole.specs.VectorLaws.{vector_eq, Matrix, apply, det, dot, grows, coordinates}
use Rattle.whole.specs.Quote.{quotes, ring}
use Rattle.whole.specs.Cramer.{Four, each, volumes, all}
use Rattle.meaning.specs.Scene.{Scene, ends_of, corners_of}
use Rattle.meaning.specs.Pieces.{Event, Piece, moving_point, moving_edge, moving_triangle, piece_of}
use Rattle.meaning.specs.Equations.{determinant_of}
use Rattle.meaning.specs.declared.Kind.{Kind}
use Rattle.meaning.specs.declared.Kind.TheVariants.{PointTriangle, EdgeEdge}
use Rattle.meaning.specs.declared.Ends.{Ends}
use Rattle.meaning.specs.declared.Corners.{Corners}
use Rattle.theory.specs.Differences.{base_at, difference, differences, at_start, at_end, Form, alone, around, formed}
use Rattle.theory.specs.Spread.{factor}
use Rattle.theory.specs.Bridge.{singular_is}
use Rattle.theory.specs.Alike.{Alike}
use Rattle.theory.specs.MovingParts.{mapped}
use Rattle.theory.specs.Sent.{sent, touch_there, touch_back}

-- ---- the differences and the volumes

along : (r p q o : Vector) (t h k : ℤ) → dot r o +ℤ ((pos 1 -ℤ t) *ℤ h +ℤ t *ℤ k) -ℤ ((pos 1 -ℤ t) *ℤ (dot r p +ℤ h) +ℤ t *ℤ (dot r q +ℤ k)) ≡ dot r (minus o (base_at p q t))
along r p q o t h k = ring (t ∷ h ∷ k ∷ coordinates (r ∷ p ∷ q ∷ o ∷ [])) (search quotes depth 40 fits 9000) refl

-- where the base's start and its end are sent
abbrev pub moved_place : Matrix → Vector → Vector → Vector
moved_place m a p = plus (apply m p) a

pub difference_sent : (m : Matrix) (a b p q : Vector) (e : Event) → difference (moved_place m a p) (moved_place m b q) (sent m a b e) ≡ apply m (difference p q e)
difference_sent m a b p q e =
    vector_eq (along m.a p q e.place e.time a.x b.x) (along m.b p q e.place e.time a.y b.y)
    (along m.c p q e.place e.time a.z b.z)

pub volumes_grow : (m : Matrix) (d : Four Vector) → volumes (each (apply m) d) ≡ each (λ n. det m *ℤ n) (volumes d)
volumes_grow m d = λ i. record {
  v0 = grows m d.v1 d.v2 d.v3 i;
  v1 = negated d.v0 d.v2 d.v3 i;
  v2 = grows m d.v0 d.v1 d.v3 i;
  v3 = negated d.v0 d.v1 d.v2 i;
}
  where
    negated : (u v w : Vector) → neg_ℤ (volume (apply m u) (apply m v) (apply m w)) ≡ det m *ℤ neg_ℤ (volume u v w)
    negated u v w = ap neg_ℤ (grows m u v w) ∙ sym (*ℤ_negℤ (det m) (volume u v w))

pub factor_grows : (form : Form) (k : ℤ) (n : Four ℤ) → factor form (each (λ v. k *ℤ v) n) ≡ k *ℤ factor form n
unfolding factor
factor_grows alone k n = ring (k ∷ all n) (search quotes depth 40 fits 9000) refl
factor_grows around k n = ring (k ∷ all n) (search quotes depth 40 fits 9000) refl

pub product_zero : (k n : ℤ) → k ≢ pos 0 → (k *ℤ n ≡ pos 0) ↔ (n ≡ pos 0)
product_zero k n h = (λ e. cancel_factor k n (pos 0) h (e ∙ sym (*ℤ-zero k)), λ e. ap (λ x. k *ℤ x) e ∙ *ℤ-zero k)

-- ---- the pieces

abbrev pub sent_piece : Matrix → Vector → Vector → Piece → Piece
sent_piece m a b p = mapped (sent m a b) p

base_start : (a b : ℤ) → (pos 1 -ℤ pos 0) *ℤ a +ℤ pos 0 *ℤ b ≡ a
base_start a b = ring (a ∷ b ∷ []) (search quotes depth 40 fits 9000) refl

base_end : (a b : ℤ) → (pos 1 -ℤ pos 1) *ℤ a +ℤ pos 1 *ℤ b ≡ b
base_end a b = ring (a ∷ b ∷ []) (search quotes depth 40 fits 9000) refl

module _ (m : Matrix) (a b : Vector) where
  pub start_sent : (p : Vector) → sent m a b (at_start p) ≡ at_start (moved_place m a p)
  start_sent p =
      let e : base_at a b (pos 0) ≡ a = vector_eq (base_start a.x b.x) (base_start a.y b.y) (base_start a.z b.z) in
      ap (λ (c : Vector). at_start (plus (apply m p) c)) e

  pub end_sent : (q : Vector) → sent m a b (at_end q) ≡ at_end (moved_place m b q)
  end_sent q =
      let e : base_at a b (pos 1) ≡ b = vector_eq (base_end a.x b.x) (base_end a.y b.y) (base_end a.z b.z) in
      ap (λ (c : Vector). at_end (plus (apply m q) c)) e

  pub formed_sent : (form : Form) (p q : Vector) (o : Four Event) → sent_piece m a b (formed form p q o) ≡ formed form (moved_place m a p) (moved_place m b q) (each (sent m a b) o)
  unfolding formed
  formed_sent alone p q o = λ i. record { first = start_sent p i ∷ end_sent q i ∷ []; second = map (sent m a b) (all o) }
  formed_sent around p q o = λ i. record { first = start_sent p i ∷ sent m a b o.v0 ∷ end_sent q i ∷ []; second = map (sent m a b) (o.v1 ∷ o.v2 ∷ o.v3 ∷ []) }

  pub factor_sent : (form : Form) (p q : Vector) (o : Four Event) → factor form (volumes (differences (moved_place m a p) (moved_place m b q) (each (sent m a b) o))) ≡ det m *ℤ factor form (volumes (differences p q o))
  factor_sent form p q o =
      ap (λ (d : Four Vector). factor form (volumes d)) four ∙ ap (factor form) (volumes_grow m (differences p q o))
      ∙ factor_grows form (det m) (volumes (differences p q o))
    where
      four : differences (moved_place m a p) (moved_place m b q) (each (sent m a b) o) ≡ each (apply m) (differences p q o)
      four = λ i. record {
        v0 = difference_sent m a b p q o.v0 i;
        v1 = difference_sent m a b p q o.v1 i;
        v2 = difference_sent m a b p q o.v2 i;
        v3 = difference_sent m a b p q o.v3 i;
      }

  module _ (nonzero : det m ≢ pos 0) where
    pub singular_sent : (form : Form) (p q : Vector) (o : Four Event) → (determinant_of (formed form p q o) ≡ pos 0) ↔ (determinant_of (sent_piece m a b (formed form p q o)) ≡ pos 0)
    singular_sent form p q o =
        Iff.trans (singular_is form p q o)
        (Iff.trans (Iff.symm (product_zero (det m) _ nonzero))
        (rw (formed_sent form p q o, ← factor_sent form p q o) (Iff.symm (singular_is form (moved_place m a p) (moved_place m b q) (each (sent m a b) o)))))

    pub formed_alike : (form : Form) (p q : Vector) (o : Four Event) → Alike (formed form p q o) (sent_piece m a b (formed form p q o))
    formed_alike form p q o = record {
      vanishes = singular_sent form p q o;
      touches = (touch_there m a b _ _, touch_back m a b _ _ nonzero);
    }

    abbrev pub AlikeWhenSent : Piece → Type 0
    AlikeWhenSent p = Alike p (sent_piece m a b p)

    pub point_alike : (s : Scene) (p : ℕ) (c : Corners) (k : ℕ) → AlikeWhenSent (record { first = moving_point s.positions p; second = moving_triangle s.positions c k })
    unfolding moving_triangle formed
    point_alike s p c zero = formed_alike alone _ _ _
    point_alike s p c (suc zero) = formed_alike alone _ _ _
    point_alike s p c (suc (suc k)) = formed_alike alone _ _ _

    pub edge_alike : (s : Scene) (e : Ends) (i : ℕ) (f : Ends) (j : ℕ) → AlikeWhenSent (record { first = moving_edge s.positions e i; second = moving_edge s.positions f j })
    unfolding moving_edge formed
    edge_alike s e zero f zero = formed_alike around _ _ _
    edge_alike s e zero f (suc j) = formed_alike around _ _ _
    edge_alike s e (suc i) f zero = formed_alike around _ _ _
    edge_alike s e (suc i) f (suc j) = formed_alike around _ _ _

    pub piece_alike : (s : Scene) (kind : Kind) (i j k : ℕ) → AlikeWhenSent (piece_of s kind i j k)
    unfolding piece_of
    piece_alike s PointTriangle i j k = point_alike s i (corners_of s j) k
    piece_alike s EdgeEdge i j k = edge_alike s (ends_of s (min i j)) (k / 2) (ends_of s (max i j)) (k % 2)
