-- What the functions on four volumes promise: each number of a contact is cut from sums of some of the four.
use Rattle.std.specs.Prelude.{ℕ, ◌≡◌, Bool, true, false, not, ℤ, nat_abs}
use Rattle.whole.specs.Cramer.{Four}
use Rattle.cutting.specs.Cut.{CutTo}
use Rattle.meaning.specs.declared.Verdict.{Verdict}
use Rattle.meaning.specs.declared.Verdict.TheVariants.{Hit}
use Rattle.meaning.specs.declared.ContactNumbers.{ContactNumbers}
use Rattle.exact.specs.Volumes.{four}
use Rattle.exact_signs.specs.BySigns.{sum, kept}
use Rattle.exact_shares.specs.InRange.{Part}
use Rattle.contact_laws.specs.Numbers.{all_four, last_three}

-- the number that the part is cut to
abbrev pub CutIn : Four Bool → Four Bool → Four ℤ → ℕ → Type 0
CutIn part whole e n = CutTo (nat_abs (sum (kept part e))) (nat_abs (sum (kept whole e))) n

abbrev pub no_time : ℕ
no_time = 1_048_577

abbrev pub PartIfHit : Verdict → Four Bool → Four Bool → Four ℤ → Type 0
PartIfHit w part whole e = w ≡ Hit → Part part whole e

-- the time if it is hit, else no time
pub record TimeOr (w : Verdict) (part whole : Four Bool) (e : Four ℤ) (n : ℕ) : Type 0 where
  pub hit : w ≡ Hit → CutIn part whole e n
  pub none : ¬ (w ≡ Hit) → n ≡ no_time

-- which volumes count, by whether the piece is the first or the last of the three
abbrev pub point_time : Bool → Bool → Four Bool
point_time early late = four false late (not early) true

abbrev pub low_share : Bool → Bool → Four Bool
low_share early late = four true late false false

abbrev pub middle_share : Bool → Bool → Four Bool
middle_share early late = four false (not late) (not early) false

abbrev pub high_share : Bool → Bool → Four Bool
high_share early late = four false false early true

pub record PointParts (early late : Bool) (e : Four ℤ) : Type 0 where
  pub low : Part (low_share early late) all_four e
  pub middle : Part (middle_share early late) all_four e
  pub high : Part (high_share early late) all_four e

pub record PointNumbers (early late : Bool) (e : Four ℤ) (piece k : ℕ) (m : ContactNumbers) : Type 0 where
  pub same_piece : m.piece ≡ piece
  pub same_k : m.k ≡ k
  pub low : CutIn (low_share early late) all_four e m.first
  pub middle : CutIn (middle_share early late) all_four e m.second
  pub high : CutIn (high_share early late) all_four e m.third

-- and of two edges, by whether the second's piece is B
abbrev pub edge_time : Bool → Four Bool
edge_time later = four false false later true

abbrev pub first_share : Bool → Four Bool
first_share later = four true false later true

abbrev pub second_share : Bool → Four Bool
second_share later = four false false (not later) true

pub record EdgeParts (later : Bool) (e : Four ℤ) : Type 0 where
  pub one : Part (first_share later) last_three e
  pub other : Part (second_share later) last_three e

pub record EdgeNumbers (later : Bool) (e : Four ℤ) (piece k : ℕ) (m : ContactNumbers) : Type 0 where
  pub same_piece : m.piece ≡ piece
  pub same_k : m.k ≡ k
  pub one : CutIn (first_share later) last_three e m.first
  pub other : CutIn (second_share later) last_three e m.second
  pub nothing : m.third ≡ 0
