-- Of `VectorLaws`: what rests on its definitions.
use Rattle.std.specs.Prelude.{◌≡◌, [], ◌∷◌, ◌≢◌, ℤ, pos, neg_ℤ, ◌+ℤ◌, ◌*ℤ◌}
use Rattle.std.proofs.Math.Path.{refl}
use Rattle.std.proofs.Common.{sym, ◌∙◌, ap}
use Rattle.std.proofs.Math.IntN.{*ℤ-zero}
use Rattle.whole.specs.Laws.{cancel_factor}
use Rattle.whole.specs.Quote.{ring, quotes}
use Rattle.whole.specs.Vector.{Vector, origin, plus, scale, volume}
use Rattle.whole.specs.VectorLaws.{vector_eq, coordinates, additive, homogeneous, Matrix, apply, det, undo}

-- turned; with two in each other's place; linear in the first place
module _ (a b c : Vector) where
  pub cycle : volume a b c ≡ volume b c a
  unfolding volume
  cycle = ring (coordinates (a ∷ b ∷ c ∷ [])) (search quotes depth 40 fits 9000) refl

  pub swap : volume a b c ≡ neg_ℤ (volume b a c)
  unfolding volume
  swap = ring (coordinates (a ∷ b ∷ c ∷ [])) (search quotes depth 40 fits 9000) refl

pub twice : (a b : Vector) → volume a a b ≡ pos 0
unfolding volume
twice a b = ring (coordinates (a ∷ b ∷ [])) (search quotes depth 40 fits 9000) refl

-- linear in the other two places, and 0 with the same vector in them, by turning
pub additive_second : (a b c d : Vector) → volume d (plus a b) c ≡ volume d a c +ℤ volume d b c
additive_second a b c d =
    cycle d (plus a b) c ∙ additive a b c d ∙ ap (λ n. n +ℤ volume b c d) (sym (cycle d a c)) ∙ ap (λ n. volume d a c +ℤ n) (sym (cycle d b c))

pub additive_third : (a b c d : Vector) → volume c d (plus a b) ≡ volume c d a +ℤ volume c d b
additive_third a b c d =
    cycle c d (plus a b) ∙ additive_second a b c d ∙ ap (λ n. n +ℤ volume d b c) (sym (cycle c d a)) ∙ ap (λ n. volume c d a +ℤ n) (sym (cycle c d b))

pub homogeneous_second : (a b c : Vector) (k : ℤ) → volume c (scale k a) b ≡ k *ℤ volume c a b
homogeneous_second a b c k = cycle c (scale k a) b ∙ homogeneous a b c k ∙ ap (λ n. k *ℤ n) (sym (cycle c a b))

pub homogeneous_third : (a b c : Vector) (k : ℤ) → volume b c (scale k a) ≡ k *ℤ volume b c a
homogeneous_third a b c k = cycle b c (scale k a) ∙ homogeneous_second a b c k ∙ ap (λ n. k *ℤ n) (sym (cycle b c a))

pub twice_last : (a b : Vector) → volume b a a ≡ pos 0
twice_last a b = cycle b a a ∙ twice a b

pub twice_ends : (a b : Vector) → volume a b a ≡ pos 0
twice_ends a b = cycle a b a ∙ twice_last a b

pub swap_last : (a b c : Vector) → volume a b c ≡ neg_ℤ (volume a c b)
swap_last a b c = cycle a b c ∙ swap b c a ∙ ap neg_ℤ (cycle c b a ∙ cycle b a c)

pub undoes : (m : Matrix) (v : Vector) → undo m (apply m v) ≡ scale (det m) v
unfolding volume
undoes m v = vector_eq
    (ring (coordinates (m.a ∷ m.b ∷ m.c ∷ v ∷ [])) (search quotes depth 40 fits 9000) refl)
    (ring (coordinates (m.a ∷ m.b ∷ m.c ∷ v ∷ [])) (search quotes depth 40 fits 9000) refl)
    (ring (coordinates (m.a ∷ m.b ∷ m.c ∷ v ∷ [])) (search quotes depth 40 fits 9000) refl)

pub one_to_one : (m : Matrix) (u v : Vector) → det m ≢ pos 0 → apply m u ≡ apply m v → u ≡ v
one_to_one m u v h k =
    vector_eq (same u.x v.x (ap (λ (w : Vector). w.x) scaled)) (same u.y v.y (ap (λ (w : Vector). w.y) scaled))
    (same u.z v.z (ap (λ (w : Vector). w.z) scaled))
  where
    scaled : scale (det m) u ≡ scale (det m) v
    scaled = sym (undoes m u) ∙ ap (undo m) k ∙ undoes m v

    same : (a b : ℤ) → det m *ℤ a ≡ det m *ℤ b → a ≡ b
    same a b = cancel_factor (det m) a b h

pub only_origin : (m : Matrix) (v : Vector) → det m ≢ pos 0 → apply m v ≡ origin → v ≡ origin
only_origin m v h k = one_to_one m v origin h (k ∙ sym (vector_eq (simp *ℤ-zero) (simp *ℤ-zero) (simp *ℤ-zero)))
