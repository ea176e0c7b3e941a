-- The volume of three vectors is linear in each, turns with the order of the three, and grows under a linear map by the map's determinant.
use Rattle.std.specs.Prelude.{◌≡◌, List, [], ◌∷◌, ℕ, ℤ, ◌+ℤ◌, ◌-ℤ◌, ◌*ℤ◌}
use Rattle.std.proofs.Math.Path.{refl}
use Rattle.whole.specs.Quote.{ring, quotes}
use Rattle.whole.specs.Operations.{entry, determinant, determinant_in, expand_in}
use Rattle.whole.specs.Vector.{Vector, plus, scale, volume}

pub vector_eq : {a b : Vector} → a.x ≡ b.x → a.y ≡ b.y → a.z ≡ b.z → a ≡ b
vector_eq p q r = λ i. record { x = p i; y = q i; z = r i }

-- the variables of an identity of vectors, for `ring`
abbrev pub coordinates : List Vector → List ℤ
coordinates [] = []
coordinates (v ∷ vs) = v.x ∷ v.y ∷ v.z ∷ coordinates vs

-- turned; with two in each other's place; linear in the first place
module _ (a b c : Vector) where
  pub additive : (d : Vector) → volume (plus a b) c d ≡ volume a c d +ℤ volume b c d
  unfolding volume
  additive d = ring (coordinates (a ∷ b ∷ c ∷ d ∷ [])) (search quotes depth 40 fits 9000) refl

  pub homogeneous : (k : ℤ) → volume (scale k a) b c ≡ k *ℤ volume a b c
  unfolding volume
  homogeneous k = ring (k ∷ coordinates (a ∷ b ∷ c ∷ [])) (search quotes depth 40 fits 9000) refl

-- the volume is the determinant of the three as rows
abbrev pub row : Vector → ℕ → ℤ
row v = entry (v.x ∷ v.y ∷ v.z ∷ [])

pub volume_is : (a b c : Vector) → volume a b c ≡ determinant (row a ∷ row b ∷ row c ∷ []) (0 ∷ 1 ∷ 2 ∷ [])
unfolding volume determinant_in expand_in
volume_is a b c = ring (coordinates (a ∷ b ∷ c ∷ [])) (search quotes depth 40 fits 9000) refl

-- ---- a linear map

abbrev pub dot : Vector → Vector → ℤ
dot a b = a.x *ℤ b.x +ℤ a.y *ℤ b.y +ℤ a.z *ℤ b.z

abbrev pub cross : Vector → Vector → Vector
cross a b = record {
  x = a.y *ℤ b.z -ℤ a.z *ℤ b.y;
  y = a.z *ℤ b.x -ℤ a.x *ℤ b.z;
  z = a.x *ℤ b.y -ℤ a.y *ℤ b.x;
}

-- by its rows
pub record Matrix : Type 0 where
  pub a : Vector
  pub b : Vector
  pub c : Vector

abbrev pub apply : Matrix → Vector → Vector
apply m v = record { x = dot m.a v; y = dot m.b v; z = dot m.c v }

abbrev pub det : Matrix → ℤ
det m = volume m.a m.b m.c

pub grows : (m : Matrix) (u v w : Vector) → volume (apply m u) (apply m v) (apply m w) ≡ det m *ℤ volume u v w
unfolding volume
grows m u v w = ring (coordinates (m.a ∷ m.b ∷ m.c ∷ u ∷ v ∷ w ∷ [])) (search quotes depth 40 fits 90000) refl

-- what the map does is undone up to its determinant, so that a map whose determinant is not 0 is one to one
abbrev pub undo : Matrix → Vector → Vector
undo m v = plus (plus (scale v.x (cross m.b m.c)) (scale v.y (cross m.c m.a))) (scale v.z (cross m.a m.b))
