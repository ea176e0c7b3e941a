-- The six equations and the volumes with expressions of the normaliser for numbers, so that an identity between them is settled
-- by computing. Each definition here is worth, at an environment, the one of the same name over the whole numbers.
use Rattle.std.specs.Prelude.{◌≡◌, refl, List, [], ◌∷◌, ◌++◌, map, ℤ, pos, neg_ℤ}
use Rattle.std.proofs.Common.{sym, ◌∙◌, ap}
use Rattle.whole.specs.Vector.{Vector, volume}
use Rattle.whole.specs.Ring.{Expr, con, add, mul, neg, eval}
use Rattle.whole.specs.Operations.{wholes, exprs, expand_in, determinant_in, Alike, none, more, det_hom}
use Rattle.whole.specs.Cramer.{Four, each, volumes}
use Rattle.meaning.specs.Pieces.{Event}
use Rattle.theory.specs.Differences.{differences}
use Rattle.meaning.specs.Equations as Meaning
use Rattle.meaning.specs.Equations.{x_of, y_of, z_of, time_of, Unknown, of_first, of_second, in_first, in_second, agrees, equations}

pub record Vectorˣ : Type 0 where
  pub x : Expr
  pub y : Expr
  pub z : Expr

pub record Eventˣ : Type 0 where
  pub place : Vectorˣ
  pub time : Expr

pub data Unknownˣ : Type 0 where
  of_firstˣ : Eventˣ → Unknownˣ
  of_secondˣ : Eventˣ → Unknownˣ

-- what they are worth
abbrev pub vector_at : List ℤ → Vectorˣ → Vector
vector_at e v = record { x = eval e v.x; y = eval e v.y; z = eval e v.z }

abbrev pub event_at : List ℤ → Eventˣ → Event
event_at e o = record { place = vector_at e o.place; time = eval e o.time }

abbrev pub unknown_at : List ℤ → Unknownˣ → Unknown
unknown_at e (of_firstˣ o) = of_first (event_at e o)
unknown_at e (of_secondˣ o) = of_second (event_at e o)

-- the six rows
abbrev in_firstˣ : Unknownˣ → Expr
in_firstˣ (of_firstˣ o) = con (pos 1)
in_firstˣ (of_secondˣ o) = con (pos 0)

abbrev in_secondˣ : Unknownˣ → Expr
in_secondˣ (of_firstˣ o) = con (pos 0)
in_secondˣ (of_secondˣ o) = con (pos 1)

abbrev agreesˣ : (Eventˣ → Expr) → Unknownˣ → Expr
agreesˣ f (of_firstˣ o) = f o
agreesˣ f (of_secondˣ o) = neg (f o)

abbrev pub equationsˣ : List (Unknownˣ → Expr)
equationsˣ =
    in_firstˣ ∷ in_secondˣ ∷ agreesˣ (λ o. o.place.x) ∷ agreesˣ (λ o. o.place.y) ∷ agreesˣ (λ o. o.place.z)
    ∷ agreesˣ (λ o. o.time)
    ∷ []

agrees_worth : (e : List ℤ) (f : Event → ℤ) (g : Eventˣ → Expr) → ((o : Eventˣ) → eval e (g o) ≡ f (event_at e o)) → (c : Unknownˣ) → eval e (agreesˣ g c) ≡ agrees f (unknown_at e c)
unfolding agrees
agrees_worth e f g h (of_firstˣ o) = h o
agrees_worth e f g h (of_secondˣ o) = ap neg_ℤ (h o)

equations_worth : (e : List ℤ) → Alike e (unknown_at e) equationsˣ equations
unfolding in_first in_second
equations_worth e =
    more first (more second (more (agrees_worth e x_of (λ o. o.place.x) (λ o. refl))
    (more (agrees_worth e y_of (λ o. o.place.y) (λ o. refl))
    (more (agrees_worth e z_of (λ o. o.place.z) (λ o. refl)) (more (agrees_worth e time_of (λ o. o.time) (λ o. refl)) none)))))
  where
    first : (c : Unknownˣ) → eval e (in_firstˣ c) ≡ in_first (unknown_at e c)
    first (of_firstˣ o) = refl
    first (of_secondˣ o) = refl

    second : (c : Unknownˣ) → eval e (in_secondˣ c) ≡ in_second (unknown_at e c)
    second (of_firstˣ o) = refl
    second (of_secondˣ o) = refl

-- the determinant of the meaning is the one that is written over any operations
expand_same : {A : Type 0} (row : A → ℤ) (m m' : List A → ℤ) → ((l : List A) → m l ≡ m' l) → (passed l : List A) → Meaning.expand row m passed l ≡ expand_in wholes row m' passed l
unfolding Meaning.expand expand_in
expand_same row m m' h passed [] = refl
expand_same row m m' h passed (c ∷ cs) = simp (h, expand_same row m m' h (passed ++ (c ∷ [])) cs)

pub determinant_same : {A : Type 0} (rows : List (A → ℤ)) (columns : List A) → Meaning.determinant rows columns ≡ determinant_in wholes rows columns
unfolding Meaning.determinant determinant_in
determinant_same [] columns = refl
determinant_same (row ∷ rows) columns =
    expand_same row (Meaning.determinant rows) (determinant_in wholes rows) (determinant_same rows) [] columns

abbrev pub determinantˣ : List Unknownˣ → Expr
determinantˣ columns = determinant_in exprs equationsˣ columns

pub determinant_worth : (e : List ℤ) (columns : List Unknownˣ) → eval e (determinantˣ columns) ≡ Meaning.determinant equations (map (unknown_at e) columns)
determinant_worth e columns =
    det_hom e (unknown_at e) equationsˣ equations (equations_worth e) columns ∙ sym (determinant_same equations (map (unknown_at e) columns))

-- ---- differences, and their volumes

abbrev subˣ : Expr → Expr → Expr
subˣ a b = add a (neg b)

abbrev differenceˣ : Vectorˣ → Vectorˣ → Eventˣ → Vectorˣ
differenceˣ p q o =
    record {
      x = of o.place.x p.x q.x;
      y = of o.place.y p.y q.y;
      z = of o.place.z p.z q.z;
    }
  where
    of : Expr → Expr → Expr → Expr
    of a p q = subˣ a (add (mul (subˣ (con (pos 1)) o.time) p) (mul o.time q))

abbrev volumeˣ : Vectorˣ → Vectorˣ → Vectorˣ → Expr
volumeˣ a b c =
    add (subˣ (mul a.x (subˣ (mul b.y c.z) (mul b.z c.y)))
    (mul a.y (subˣ (mul b.x c.z) (mul b.z c.x))))
    (mul a.z (subˣ (mul b.x c.y) (mul b.y c.x)))

abbrev volumesˣ : Four Vectorˣ → Four Expr
volumesˣ v =
    record {
      v0 = volumeˣ v.v1 v.v2 v.v3;
      v1 = neg (volumeˣ v.v0 v.v2 v.v3);
      v2 = volumeˣ v.v0 v.v1 v.v3;
      v3 = neg (volumeˣ v.v0 v.v1 v.v2);
    }

-- the volumes of four events' differences
abbrev pub spannedˣ : Vectorˣ → Vectorˣ → Four Eventˣ → Four Expr
spannedˣ p q o = volumesˣ (each (differenceˣ p q) o)

pub spanned_worth : (e : List ℤ) (p q : Vectorˣ) (o : Four Eventˣ) → each (eval e) (spannedˣ p q o) ≡ volumes (differences (vector_at e p) (vector_at e q) (each (event_at e) o))
unfolding volume
spanned_worth e p q o = refl
