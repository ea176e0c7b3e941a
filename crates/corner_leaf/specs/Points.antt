-- The six points of a piece as code has them: offsets into the positions, which are at the end, and how many are the first simplex's.
use Rattle.std.specs.Prelude.{ℕ, zero, suc, ◌+◌, ◌≤◌, ◌<◌, ◌≡◌, refl, Bool, true, false, List, [], ◌∷◌, ◌++◌, ℤ, length, get_or, take, drop}
use Rattle.std.proofs.Math.Nat.{min-eq_left}
use Rattle.std.proofs.Common.{arith, ◌∙◌, ap, take-append-drop, length-take}
use Rattle.meaning.specs.Limits.{coordinate_limit}
use Rattle.meaning.specs.Pieces.{Event, Piece}
use Rattle.exact.specs.Places.{Bounded, place_at}
use Rattle.exact_signs.specs.BySignsLaws.{clock}
use Rattle.corner_leaf.specs.declared.SixPoints.{SixPoints}
use Rattle.corner_laws.specs.Left.{TouchIn}
use Rattle.corner_laws.specs.Slots.{event_in}

-- six points from what code hands on one by one
abbrev pub points_of : List ℕ → List Bool → ℕ → SixPoints
points_of at ends first = record { at = at; ends = ends; first = first }

-- point i: its offset, whether it is at the end, whether it is left
abbrev pub offset : SixPoints → ℕ → ℕ
offset six i = get_or six.at i 0

abbrev pub at_end : SixPoints → ℕ → Bool
at_end six i = get_or six.ends i false

abbrev pub is_left : List Bool → ℕ → Bool
is_left left i = get_or left i false

abbrev pub event_at : List ℤ → SixPoints → ℕ → Event
event_at ps six i = record { place = place_at ps (offset six i); time = clock (at_end six i) }

abbrev pub six_events : List ℤ → SixPoints → List Event
six_events ps six = at 0 ∷ at 1 ∷ at 2 ∷ at 3 ∷ at 4 ∷ at 5 ∷ []
  where
    at : ℕ → Event
    at = event_at ps six

abbrev pub piece_at : List ℤ → SixPoints → Piece
piece_at ps six = record { first = take six.first (six_events ps six); second = drop six.first (six_events ps six) }

-- weights with 0 for every point that is not left
pub record TouchLeft (ps : List ℤ) (six : SixPoints) (left : List Bool) : Type 0 where
  pub weights : TouchIn (piece_at ps six).first (piece_at ps six).second (is_left left)

-- as in every piece, the first point is at the start and the last at the end
pub record Timed (six : SixPoints) : Type 0 where
  pub starts : at_end six 0 ≡ false
  pub ends : at_end six 5 ≡ true
  pub split : six.first ≤ 6

-- six offsets of places in the positions
pub record Placed (ps : List ℤ) (at : List ℕ) : Type 0 where
  pub bounded : Bounded coordinate_limit ps
  pub room : (i : ℕ) → i < 6 → get_or at i 0 + 3 ≤ length ps

-- what code asks of six points: each stands in the positions
pub record SixIn (ps : List ℤ) (six : SixPoints) : Type 0 where
  pub bounded : Bounded coordinate_limit ps
  pub room : (i : ℕ) → i < 6 → offset six i + 3 ≤ length ps
  pub timed : Timed six

pub placed : {ps : List ℤ} {six : SixPoints} → SixIn ps six → Placed ps six.at
placed h = record { bounded = h.bounded; room = h.room }

-- ---- the events of the piece are the six

module _ (ps : List ℤ) (six : SixPoints) where
  pub six_long : length ((piece_at ps six).first ++ (piece_at ps six).second) ≡ 6
  six_long = ap length (take-append-drop six.first (six_events ps six))

  pub six_at : (i : ℕ) → i < 6 → event_in ((piece_at ps six).first ++ (piece_at ps six).second) i ≡ event_at ps six i
  six_at i h = ap (λ (l : List Event). event_in l i) (take-append-drop six.first (six_events ps six)) ∙ at i h
    where
      at : (i : ℕ) → i < 6 → event_in (six_events ps six) i ≡ event_at ps six i
      at zero h = refl
      at (suc zero) h = refl
      at (suc (suc zero)) h = refl
      at (suc (suc (suc zero))) h = refl
      at (suc (suc (suc (suc zero)))) h = refl
      at (suc (suc (suc (suc (suc zero))))) h = refl
      at (suc (suc (suc (suc (suc (suc i)))))) h = absurd (omega arith)

  pub first_long : six.first ≤ 6 → length (piece_at ps six).first ≡ six.first
  first_long h = length-take six.first (six_events ps six) ∙ min-eq_left h
