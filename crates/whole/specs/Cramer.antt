-- Cramer's rule for four vectors of ℤ³: the four signed volumes, each of the other three vectors, combine the four to the origin,
-- and whatever else combines them to the origin is proportional to these.
use Rattle.std.specs.Prelude.{◌≡◌, refl, List, [], ◌∷◌, ℤ, pos, neg_ℤ}
use Rattle.whole.specs.Quote.{ring, quotes}
use Rattle.whole.specs.Operations.{Ops, wholes}
use Rattle.whole.specs.Vector.{Vector, origin, plus, scale, volume}
use Rattle.whole.specs.VectorLaws.{vector_eq, coordinates}

pub record Four (A : Type 0) : Type 0 where
  pub v0 : A
  pub v1 : A
  pub v2 : A
  pub v3 : A

abbrev pub each : {A B : Type 0} → (A → B) → Four A → Four B
each f v = record { v0 = f v.v0; v1 = f v.v1; v2 = f v.v2; v3 = f v.v3 }

abbrev pub weigh : Four ℤ → Four Vector → Vector
weigh n v = plus (plus (plus (scale n.v0 v.v0) (scale n.v1 v.v1)) (scale n.v2 v.v2)) (scale n.v3 v.v3)

-- the volumes of the other three, the signs in turn
abbrev pub volumes : Four Vector → Four ℤ
volumes v =
    record {
      v0 = volume v.v1 v.v2 v.v3;
      v1 = neg_ℤ (volume v.v0 v.v2 v.v3);
      v2 = volume v.v0 v.v1 v.v3;
      v3 = neg_ℤ (volume v.v0 v.v1 v.v2);
    }

abbrev pub all : {A : Type 0} → Four A → List A
all v = v.v0 ∷ v.v1 ∷ v.v2 ∷ v.v3 ∷ []

pub balance : (v : Four Vector) → weigh (volumes v) v ≡ origin
unfolding volume
balance v = vector_eq
    (ring (coordinates (all v)) (search quotes depth 40 fits 90000) refl)
    (ring (coordinates (all v)) (search quotes depth 40 fits 90000) refl)
    (ring (coordinates (all v)) (search quotes depth 40 fits 90000) refl)

-- ---- proportional

-- over any operations, the four vectors given by their four x, their four y and their four z
module _ (o : Ops) where
  abbrev dot_in : Four o.R → Four o.R → o.R
  dot_in n w =
      o.plus (o.plus (o.plus (o.times n.v0 w.v0) (o.times n.v1 w.v1)) (o.times n.v2 w.v2)) (o.times n.v3 w.v3)

  abbrev volumes_in : Four o.R → Four o.R → Four o.R → Four o.R
  volumes_in x y z =
      record {
        v0 = of (λ f. f.v1) (λ f. f.v2) (λ f. f.v3);
        v1 = o.negate (of (λ f. f.v0) (λ f. f.v2) (λ f. f.v3));
        v2 = of (λ f. f.v0) (λ f. f.v1) (λ f. f.v3);
        v3 = o.negate (of (λ f. f.v0) (λ f. f.v1) (λ f. f.v2));
      }
    where
      of : (p q r : Four o.R → o.R) → o.R
      of p q r =
          o.plus (o.minus (o.times (p x) (o.minus (o.times (q y) (r z)) (o.times (q z) (r y))))
          (o.times (p y) (o.minus (o.times (q x) (r z)) (o.times (q z) (r x)))))
          (o.times (p z) (o.minus (o.times (q x) (r y)) (o.times (q y) (r x))))

  -- the 4 by 4 determinant with the rows w, x, y, z
  abbrev pub mix_in : Four o.R → Four o.R → Four o.R → Four o.R → o.R
  mix_in w x y z = dot_in (volumes_in x y z) w

  abbrev pub one_side : (n w k x y z : Four o.R) → o.R
  one_side n w k x y z = o.times (dot_in n w) (mix_in k x y z)

  -- five rows of four numbers depend on one another
  abbrev pub other_side : (n w k x y z : Four o.R) → o.R
  other_side n w k x y z =
      o.plus (one_side n k w x y z)
      (o.minus (o.minus (o.times (dot_in n y) (mix_in w k x z)) (o.times (dot_in n x) (mix_in w k y z))) (o.times (dot_in n z) (mix_in w k x y)))

abbrev pub dot4 : Four ℤ → Four ℤ → ℤ
dot4 = dot_in wholes

-- ---- one of the four against another

pub data Place : Type 0 where
  p0 p1 p2 p3 : Place

abbrev pub pick : {A : Type 0} → Place → Four A → A
pick p0 v = v.v0
pick p1 v = v.v1
pick p2 v = v.v2
pick p3 v = v.v3

-- the functional that reads the number at a place
abbrev pub at_place : Place → Four ℤ
at_place p0 = record { v0 = pos 1; v1 = pos 0; v2 = pos 0; v3 = pos 0 }
at_place p1 = record { v0 = pos 0; v1 = pos 1; v2 = pos 0; v3 = pos 0 }
at_place p2 = record { v0 = pos 0; v1 = pos 0; v2 = pos 1; v3 = pos 0 }
at_place p3 = record { v0 = pos 0; v1 = pos 0; v2 = pos 0; v3 = pos 1 }

pub reads : (i : Place) (n : Four ℤ) → dot4 n (at_place i) ≡ pick i n
reads p0 n = ring (all n) (search quotes depth 40 fits 9000) refl
reads p1 n = ring (all n) (search quotes depth 40 fits 9000) refl
reads p2 n = ring (all n) (search quotes depth 40 fits 9000) refl
reads p3 n = ring (all n) (search quotes depth 40 fits 9000) refl
