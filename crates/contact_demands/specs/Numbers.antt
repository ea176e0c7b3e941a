-- 'Each number over 2^20 is at most the exact value and short of it by less than 1 in 2^20, said of k, the shares and the whole weights by
-- multiplying out', and the time handed out 'loses nothing'. Every hit pair has a contact, and none but a hit pair.
use Rattle.std.specs.Prelude.{ℕ, ◌↔◌, ◌≡◌, false}
use Rattle.cutting.specs.Cut.{unit}
use Rattle.cutting.specs.Floats.{handed_out, handed_out_exact, handed_out_one}
use Rattle.std.specs.Float.Ieee.Exact.{HasValue}
use Rattle.meaning.specs.Scene.{Scene}
use Rattle.meaning.specs.Pieces.{piece_of}
use Rattle.meaning.specs.Equations.{one, time_of, total, Touches}
use Rattle.meaning.specs.Verdicts.{PairIs}
use Rattle.meaning.specs.Resting.{PairSettled}
use Rattle.meaning.specs.Contacts.{Cut, weights}
use Rattle.meaning.specs.WholeContacts.{ContactNumbersAre}
use Rattle.meaning.specs.declared.Kind.{Kind}
use Rattle.meaning.specs.declared.Verdict as Verdicts
use Rattle.meaning.specs.declared.ContactNumbers.{ContactNumbers}
use Rattle.corner_search.specs.Decided.{some_hit}
use Rattle.contact_entries.specs.Computed.{SmallNumbers, HasContact, hit_has_contact, contact_small}

module _ (s : Scene) (kind : Kind) (i j : ℕ) where
  -- k over 2^20 against the time of any weights that solve the piece
  pub k_is_cut : (m : ContactNumbers) → ContactNumbersAre s kind i j m → (t : Touches (piece_of s kind i j m.piece))
      → Cut (total time_of (weights t.u) (piece_of s kind i j m.piece).first) (total one (weights t.u) (piece_of s kind i j m.piece).first) m.k
  k_is_cut m h t = h.time t

  -- a pair has a contact exactly when its verdict is hit: so k and the shares are numbers of every hit pair
  pub contact_exactly_when_hit : HasContact s kind i j ↔ PairIs s kind i j Verdicts.TheVariants.Hit
  unfolding PairIs PairSettled
  contact_exactly_when_hit = (
    λ h. record { which = h.numbers.piece; there = h.is.there; has = h.is.hit },
    λ h. hit_has_contact s kind i j ((some_hit s kind i j).0 h),
  )

  -- each f64 that is handed out is worth its number over 2^20
  module _ (m : ContactNumbers) (h : ContactNumbersAre s kind i j m) where
    pub time_loses_nothing : HasValue (handed_out m.k) false m.k unit
    time_loses_nothing = handed_out_exact m.k (contact_small s kind i j m h).k_small

    pub first_loses_nothing : HasValue (handed_out m.first) false m.first unit
    first_loses_nothing = handed_out_exact m.first (contact_small s kind i j m h).first_small

    pub second_loses_nothing : HasValue (handed_out m.second) false m.second unit
    second_loses_nothing = handed_out_exact m.second (contact_small s kind i j m h).second_small

    pub third_loses_nothing : HasValue (handed_out m.third) false m.third unit
    third_loses_nothing = handed_out_exact m.third (contact_small s kind i j m h).third_small

-- and equal ones, of any two contacts, are of equal numbers
pub equal_times : (s t : Scene) (kind other : Kind) (i j x y : ℕ) (m n : ContactNumbers) → ContactNumbersAre s kind i j m → ContactNumbersAre t other x y n → handed_out m.k ≡ handed_out n.k → m.k ≡ n.k
equal_times s t kind other i j x y m n p q e =
    handed_out_one m.k n.k (contact_small s kind i j m p).k_small (contact_small t other x y n q).k_small e
