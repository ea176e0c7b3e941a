-- What keeps the hit, the time and the shares of each piece keeps the contact of the pair.
use Rattle.std.specs.Prelude.{ℕ, ◌/◌, ◌%◌, ◌<◌, Bool, ◌↔◌, ◌≡◌}
use mathlib.Core.Logic.Iff
use Rattle.std.proofs.Common.{sym, subst}
use Rattle.meaning.specs.Scene.{Scene}
use Rattle.meaning.specs.Pieces.{Piece, piece_of, piece_count}
use Rattle.meaning.specs.Verdicts.{PieceIs}
use Rattle.meaning.specs.Resting.{PairSettled}
use Rattle.meaning.specs.Contacts.{TimeIs, FirstShareIs, SecondShareIs, at_corner, at_higher_end}
use Rattle.meaning.specs.WholeContacts.{NotBefore, SharesAre, ContactNumbersAre, WholeContactIs}
use Rattle.meaning.specs.declared.Kind.{Kind}
use Rattle.meaning.specs.declared.Kind.TheVariants.{PointTriangle, EdgeEdge}
use Rattle.meaning.specs.declared.Verdict.TheVariants.{Hit}
use Rattle.meaning.specs.declared.Settled.{Settled}
use Rattle.meaning.specs.declared.ContactNumbers.{ContactNumbers}
use Rattle.meaning.specs.declared.WholeContact as WholeContacts
use Rattle.meaning.specs.declared.WholeContact.{WholeContact}

pub record Carries (p q : Piece) : Type 0 where
  pub hit : PieceIs p Hit ↔ PieceIs q Hit
  pub time : (n : ℕ) → TimeIs p n → TimeIs q n
  pub first : (counts : ℕ → Bool) (n : ℕ) → FirstShareIs p counts n → FirstShareIs q counts n
  pub second : (counts : ℕ → Bool) (n : ℕ) → SecondShareIs p counts n → SecondShareIs q counts n

pub carries_same : {p q : Piece} → p ≡ q → Carries p q
carries_same {p} e = subst (λ (q : Piece). Carries p q) e (record { hit = Iff.rfl; time = λ n h. h; first = λ c n h. h; second = λ c n h. h })

shares_carried : (s t : Scene) (kind : Kind) (i j x y : ℕ) (m : ContactNumbers) → Carries (piece_of s kind i j m.piece) (piece_of t kind x y m.piece) → SharesAre s kind i j m → SharesAre t kind x y m
unfolding SharesAre
shares_carried s t PointTriangle i j x y m c h =
    (c.second (at_corner m.piece 0) m.first h.0, c.second (at_corner m.piece 1) m.second h.1, c.second (at_corner m.piece 2) m.third h.2)
shares_carried s t EdgeEdge i j x y m c h =
    (c.first (at_higher_end (m.piece / 2)) m.first h.0, c.second (at_higher_end (m.piece % 2)) m.second h.1, h.2)

module _ (s t : Scene) (kind : Kind) (i j x y : ℕ) (c : (k : ℕ) → k < piece_count kind → Carries (piece_of s kind i j k) (piece_of t kind x y k)) where
  pub contact_numbers_carried : (m : ContactNumbers) → ContactNumbersAre s kind i j m → ContactNumbersAre t kind x y m
  contact_numbers_carried m h =
      let d = c m.piece h.there in
      record {
        there = h.there;
        hit = d.hit.0 h.hit;
        time = d.time m.k h.time;
        shares = shares_carried s t kind i j x y m d h.shares;
        smallest = λ q there is.
            let b = h.smallest q there ((c q there).hit.1 is) in
            record { number = b.number; time = (c q there).time b.number b.time; not_smaller = b.not_smaller; lowest = b.lowest };
      }

  pub whole_contact_carried : ((w : Settled) → PairSettled s kind i j w → PairSettled t kind x y w) → (m : WholeContact) → WholeContactIs s kind i j m → WholeContactIs t kind x y m
  unfolding WholeContactIs
  whole_contact_carried w (WholeContacts.TheVariants.Hit m) h = contact_numbers_carried m h
  whole_contact_carried w WholeContacts.TheVariants.Miss h = w Settled.Miss h
  whole_contact_carried w WholeContacts.TheVariants.Touch h = w Settled.Touch h
  whole_contact_carried w WholeContacts.TheVariants.Apart h = w Settled.Apart h
