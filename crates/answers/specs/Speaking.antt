-- An answer is determined by what it says: a refusal by its number, so that one right answer is one result.
use Rattle.std.specs.Prelude.{ℕ, pred, ◌≤◌, ◌<◌, [], ◌∷◌, ◌≡◌, refl, get_or, Err, Ok, Result}
use Rattle.std.proofs.Common.{sym, ◌∙◌, ap, arith}
use Rattle.meaning.specs.Scene.{Scene}
use Rattle.meaning.specs.Refusals.{number_of, scene_checks, SceneChecked, outcome_alone, outcome_of}
use Rattle.meaning.specs.declared.Refusal.{Refusal}
use Rattle.meaning.specs.declared.Refused.{Refused}
use Rattle.meaning.specs.declared.Refusal.TheVariants.{Shape, Coordinate, UnknownVertex, RepeatedVertex, NotThere, SharedVertex, NoRoom, LongText, BadLine, LateRecord, TooMany, ShortBuffer, BlockLength, FilesDiffer, BrokenSeam, BeyondOldRange, StaleBox, WrongOrder}
use Rattle.answers.specs.Answering.{one_answer}

-- the refusal with the number n, of those that there are
abbrev numbered : ℕ → Refusal
numbered n =
    get_or
    (Shape ∷ Coordinate ∷ UnknownVertex ∷ RepeatedVertex ∷ NotThere ∷ SharedVertex ∷ NoRoom ∷ LongText ∷ BadLine ∷ LateRecord ∷ TooMany ∷ ShortBuffer ∷ BlockLength ∷ FilesDiffer ∷ BrokenSeam ∷ BeyondOldRange ∷ StaleBox ∷ WrongOrder ∷ [])
    (pred n)
    Shape

own_number : (x : Refusal) → numbered (number_of x) ≡ x
unfolding number_of
own_number Shape = refl
own_number Coordinate = refl
own_number UnknownVertex = refl
own_number RepeatedVertex = refl
own_number NotThere = refl
own_number SharedVertex = refl
own_number NoRoom = refl
own_number LongText = refl
own_number BadLine = refl
own_number LateRecord = refl
own_number TooMany = refl
own_number ShortBuffer = refl
own_number BlockLength = refl
own_number FilesDiffer = refl
own_number BrokenSeam = refl
own_number BeyondOldRange = refl
own_number StaleBox = refl
own_number WrongOrder = refl

pub one_number : (x y : Refusal) → number_of x ≡ number_of y → x ≡ y
one_number x y e = sym (own_number x) ∙ ap numbered e ∙ own_number y

pub one_alone : {A : Type 0} (r r' : Result A Refusal) → outcome_alone r ≡ outcome_alone r' → r ≡ r'
unfolding outcome_alone
one_alone (Ok v) (Ok w) e = ap Ok (cc)
one_alone (Ok v) (Err y) e = cc
one_alone (Err x) (Ok w) e = cc
one_alone (Err x) (Err y) e = ap Err (one_number x y (cc))

pub one_carrying : {A : Type 0} (r r' : Result A Refused) → outcome_of r ≡ outcome_of r' → r ≡ r'
unfolding outcome_of
one_carrying (Ok v) (Ok w) e = ap Ok (cc)
one_carrying (Ok v) (Err y) e = cc
one_carrying (Err x) (Ok w) e = cc
one_carrying (Err x) (Err y) e =
    let same : x.why ≡ y.why = one_number x.why y.why (cc) in
    let carried : x.carries ≡ y.carries = cc in
    λ t. Err (record { why = same t; carries = carried t })

-- a number of the table, of which the largest stands here
pub record InTable (n : ℕ) : Type 0 where
  pub some : 0 < n
  pub few : n ≤ 18

pub number_in_table : (x : Refusal) → InTable (number_of x)
unfolding number_of
number_in_table Shape = record { some = omega arith; few = omega arith }
number_in_table Coordinate = record { some = omega arith; few = omega arith }
number_in_table UnknownVertex = record { some = omega arith; few = omega arith }
number_in_table RepeatedVertex = record { some = omega arith; few = omega arith }
number_in_table NotThere = record { some = omega arith; few = omega arith }
number_in_table SharedVertex = record { some = omega arith; few = omega arith }
number_in_table NoRoom = record { some = omega arith; few = omega arith }
number_in_table LongText = record { some = omega arith; few = omega arith }
number_in_table BadLine = record { some = omega arith; few = omega arith }
number_in_table LateRecord = record { some = omega arith; few = omega arith }
number_in_table TooMany = record { some = omega arith; few = omega arith }
number_in_table ShortBuffer = record { some = omega arith; few = omega arith }
number_in_table BlockLength = record { some = omega arith; few = omega arith }
number_in_table FilesDiffer = record { some = omega arith; few = omega arith }
number_in_table BrokenSeam = record { some = omega arith; few = omega arith }
number_in_table BeyondOldRange = record { some = omega arith; few = omega arith }
number_in_table StaleBox = record { some = omega arith; few = omega arith }
number_in_table WrongOrder = record { some = omega arith; few = omega arith }

-- the check of a scene has one right answer
pub one_scene_answer : (s : Scene) (r r' : Result (Unit {0}) Refusal) → SceneChecked s r → SceneChecked s r' → r ≡ r'
one_scene_answer s r r' p q =
    one_alone r r' (one_answer (λ t. Unit {0}) (λ a b h k. refl) (scene_checks s) (outcome_alone r) (outcome_alone r') p q)
