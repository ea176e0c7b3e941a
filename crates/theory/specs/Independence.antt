-- Three vectors whose volume is 0 depend on one another: not every relation between them is the trivial one.
use Rattle.std.specs.Prelude.{◌≡◌, refl, ◌≢◌, [], ◌∷◌, ◌++◌, ℕ, ℤ, pos, neg_ℤ, nat_abs, ◌+ℤ◌, ◌*ℤ◌}
use Rattle.std.proofs.Common.{sym, ◌∙◌, ap, arith}
use Rattle.std.proofs.Math.IntN.{neg_ℤ-neg_ℤ}
use Rattle.whole.specs.Vector.{Vector, origin, plus, scale, volume}
use Rattle.whole.specs.VectorLaws.{vector_eq}
use Rattle.whole.specs.Quote.{quotes, combine, times}
use Rattle.whole.specs.Cramer.{Four, each, all, weigh, dot4, volumes, balance}

pub record Relation (l m n : ℤ) (a b c : Vector) : Type 0 where
  pub sums : plus (plus (scale l a) (scale m b)) (scale n c) ≡ origin

-- only the trivial relation
pub record Independent (a b c : Vector) : Type 0 where
  pub first : {l m n : ℤ} → Relation l m n a b c → l ≡ pos 0
  pub second : {l m n : ℤ} → Relation l m n a b c → m ≡ pos 0
  pub third : {l m n : ℤ} → Relation l m n a b c → n ≡ pos 0

-- a relation between four vectors whose last numbers are 0 is one between the others, whatever stands in the places of the last
module _ (n x : Four ℤ) (h : dot4 n x ≡ pos 0) (f : n.v3 ≡ pos 0) where
  three_numbers : n.v0 *ℤ x.v0 +ℤ n.v1 *ℤ x.v1 +ℤ n.v2 *ℤ x.v2 ≡ pos 0
  three_numbers = combine (all n ++ all x) (times (pos 1) h ∷ times (neg_ℤ x.v3) f ∷ []) (search quotes depth 40 fits 9000) refl

  two_numbers : n.v2 ≡ pos 0 → (c : ℤ) → n.v0 *ℤ x.v0 +ℤ n.v1 *ℤ x.v1 +ℤ pos 0 *ℤ c ≡ pos 0
  two_numbers g c =
      combine (c ∷ all n ++ all x) (times (pos 1) h ∷ times (neg_ℤ x.v3) f ∷ times (neg_ℤ x.v2) g ∷ []) (search quotes depth 40 fits 9000) refl

  one_number : n.v2 ≡ pos 0 → n.v1 ≡ pos 0 → (b c : ℤ) → n.v0 *ℤ x.v0 +ℤ pos 0 *ℤ b +ℤ pos 0 *ℤ c ≡ pos 0
  one_number g k b c =
      combine (b ∷ c ∷ all n ++ all x) (times (pos 1) h ∷ times (neg_ℤ x.v3) f ∷ times (neg_ℤ x.v2) g ∷ times (neg_ℤ x.v1) k ∷ [])
      (search quotes depth 40 fits 9000) refl

module _ (n : Four ℤ) (v : Four Vector) (h : weigh n v ≡ origin) (f : n.v3 ≡ pos 0) where
  hx : dot4 n (each (λ (u : Vector). u.x) v) ≡ pos 0
  hx = ap (λ (u : Vector). u.x) h

  hy : dot4 n (each (λ (u : Vector). u.y) v) ≡ pos 0
  hy = ap (λ (u : Vector). u.y) h

  hz : dot4 n (each (λ (u : Vector). u.z) v) ≡ pos 0
  hz = ap (λ (u : Vector). u.z) h

  three_vectors : Relation n.v0 n.v1 n.v2 v.v0 v.v1 v.v2
  three_vectors = record { sums = vector_eq (three_numbers n _ hx f) (three_numbers n _ hy f) (three_numbers n _ hz f) }

  two_vectors : n.v2 ≡ pos 0 → (c : Vector) → Relation n.v0 n.v1 (pos 0) v.v0 v.v1 c
  two_vectors g c = record { sums = vector_eq (two_numbers n _ hx f g c.x) (two_numbers n _ hy f g c.y) (two_numbers n _ hz f g c.z) }

  one_vector : n.v2 ≡ pos 0 → n.v1 ≡ pos 0 → (b c : Vector) → Relation n.v0 (pos 0) (pos 0) v.v0 b c
  one_vector g k b c =
      record { sums = vector_eq (one_number n _ hx f g k b.x c.x) (one_number n _ hy f g k b.y c.y) (one_number n _ hz f g k b.z c.z) }

abbrev four : Vector → Vector → Vector → Vector → Four Vector
four p q r s = record { v0 = p; v1 = q; v2 = r; v3 = s }

pub unminus : {z : ℤ} → neg_ℤ z ≡ pos 0 → z ≡ pos 0
unminus {z} h = sym (neg_ℤ-neg_ℤ z) ∙ ap neg_ℤ h

-- so with independent vectors of volume 0 every volume would be 0, also that of the three axes
module _ (a b c : Vector) (h : Independent a b c) (e : volume a b c ≡ pos 0) where
  with_two : (w : Vector) → volume a b w ≡ pos 0
  with_two w = h.third (three_vectors (volumes (four a b c w)) (four a b c w) (balance (four a b c w)) (ap neg_ℤ e))

  with_one : (v w : Vector) → volume a v w ≡ pos 0
  with_one v w = unminus (h.second
      (two_vectors (volumes (four a b v w)) (four a b v w) (balance (four a b v w)) (ap neg_ℤ (with_two v)) (with_two w) c))

  with_none : (u v w : Vector) → volume u v w ≡ pos 0
  with_none u v w = h.first
      (one_vector (volumes (four a u v w)) (four a u v w) (balance (four a u v w)) (ap neg_ℤ (with_one u v)) (with_one u w) (ap neg_ℤ (with_one v w)) b c)

pub independent_volume : (a b c : Vector) → Independent a b c → volume a b c ≢ pos 0
unfolding volume
independent_volume a b c h e = let z : ◌≡◌ {A = ℕ} 1 0 = ap nat_abs (with_none a b c h e (axis 1 0 0) (axis 0 1 0) (axis 0 0 1)) in omega arith
  where
    axis : ℕ → ℕ → ℕ → Vector
    axis x y z = record { x = pos x; y = pos y; z = pos z }
