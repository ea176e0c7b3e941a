-- A pair has one contact: two that are right are equal. Its word is the pair's.
use Rattle.std.specs.Prelude.{ℕ, ◌/◌, ◌%◌, ◌≤◌, ◌<◌, ◌≡◌}
use Rattle.std.proofs.Math.Decide.{dec_lt}
use Rattle.std.proofs.Common.{arith, sym, ◌∙◌}
use Rattle.std.proofs.Math.Path.{refl, ap}
use Rattle.meaning.specs.Scene.{Scene}
use Rattle.meaning.specs.Pieces.{piece_of}
use Rattle.meaning.specs.Equations.{Touches}
use Rattle.meaning.specs.Verdicts.{PieceIs}
use Rattle.meaning.specs.Resting.{PieceSettled, PairSettled}
use Rattle.meaning.specs.Contacts.{at_corner, at_higher_end}
use Rattle.meaning.specs.WholeContacts.{SharesAre, ContactNumbersAre, WholeContactIs, ContactIs, contact_of, word_of}
use Rattle.meaning.specs.declared.Kind.{Kind}
use Rattle.meaning.specs.declared.Kind.TheVariants.{PointTriangle, EdgeEdge}
use Rattle.meaning.specs.declared.Verdict.{Verdict}
use Rattle.meaning.specs.declared.ContactNumbers.{ContactNumbers}
use Rattle.meaning.specs.declared.WholeContact.{WholeContact}
use Rattle.meaning.specs.declared.WholeContact.TheVariants.{Hit, Miss, Touch, Apart}
use Rattle.meaning.specs.declared.Contact.{Contact}
use Rattle.contact_laws.specs.OneNumber.{one_time, one_first_share, one_second_share}
use Rattle.corner_search.specs.Decided.{one_pair_word}

module _ (s : Scene) (kind : Kind) (i j : ℕ) where
  touches : (q : ℕ) → PieceIs (piece_of s kind i j q) Verdict.Hit → Touches (piece_of s kind i j q)
  unfolding PieceIs
  touches q h = h.1

  -- the k of one is not above that of another
  not_above_lem : (m n : ContactNumbers) → ContactNumbersAre s kind i j m → ContactNumbersAre s kind i j n → m.k ≤ n.k
  not_above_lem m n p q =
      let b = p.smallest n.piece q.there q.hit in
      let e : b.number ≡ n.k = one_time (piece_of s kind i j n.piece) (touches n.piece q.hit) b.number n.k b.time q.time in
      omega (arith, b.not_smaller)

  one_k : (m n : ContactNumbers) → ContactNumbersAre s kind i j m → ContactNumbersAre s kind i j n → m.k ≡ n.k
  one_k m n p q = omega (arith, not_above_lem m n p q, not_above_lem n m q p)

  -- nor has it a lower piece
  not_lower : (m n : ContactNumbers) → ContactNumbersAre s kind i j m → ContactNumbersAre s kind i j n → m.piece ≤ n.piece
  not_lower m n p q = either (dec_lt n.piece m.piece)
    where
      never : n.piece < m.piece → ⊥
      never h =
          let b = p.smallest n.piece q.there q.hit in
          let e : b.number ≡ n.k = one_time (piece_of s kind i j n.piece) (touches n.piece q.hit) b.number n.k b.time q.time in
          omega (arith, b.lowest h, one_k m n p q)

      either : Dec (n.piece < m.piece) → m.piece ≤ n.piece
      either (yes h) = absurd (never h)
      either (no h) = omega arith

  one_piece : (m n : ContactNumbers) → ContactNumbersAre s kind i j m → ContactNumbersAre s kind i j n → m.piece ≡ n.piece
  one_piece m n p q = omega (arith, not_lower m n p q, not_lower n m q p)

record SameShares (m n : ContactNumbers) : Type 0 where
  first : m.first ≡ n.first
  second : m.second ≡ n.second
  third : m.third ≡ n.third

same_shares : (s : Scene) (kind : Kind) (i j : ℕ) (m n : ContactNumbers) → m.piece ≡ n.piece → Touches (piece_of s kind i j m.piece) → SharesAre s kind i j m → SharesAre s kind i j n → SameShares m n
unfolding SharesAre
same_shares s PointTriangle i j m n e t p q = record {
  first = one_second_share (piece_of s PointTriangle i j m.piece) t m.first n.first (at_corner m.piece 0) p.0 (rw e q.0);
  second = one_second_share (piece_of s PointTriangle i j m.piece) t m.second n.second (at_corner m.piece 1) p.1 (rw e q.1);
  third = one_second_share (piece_of s PointTriangle i j m.piece) t m.third n.third (at_corner m.piece 2) p.2 (rw e q.2);
}
same_shares s EdgeEdge i j m n e t p q = record {
  first = one_first_share (piece_of s EdgeEdge i j m.piece) t m.first n.first (at_higher_end (m.piece / 2)) p.0 (rw e q.0);
  second = one_second_share (piece_of s EdgeEdge i j m.piece) t m.second n.second (at_higher_end (m.piece % 2)) p.1 (rw e q.1);
  third = p.2 ∙ sym q.2;
}

pub one_contact_numbers : (s : Scene) (kind : Kind) (i j : ℕ) (m n : ContactNumbers) → ContactNumbersAre s kind i j m → ContactNumbersAre s kind i j n → m ≡ n
one_contact_numbers s kind i j m n p q =
    let e = one_piece s kind i j m n p q in
    let k = one_k s kind i j m n p q in
    let h = same_shares s kind i j m n e (touches s kind i j m.piece p.hit) p.shares q.shares in
    λ t. record { piece = e t; k = k t; first = h.first t; second = h.second t; third = h.third t }

-- ---- with its word

module _ (s : Scene) (kind : Kind) (i j : ℕ) where
  pub whole_contact_word : (m : WholeContact) → WholeContactIs s kind i j m → PairSettled s kind i j (word_of m)
  unfolding WholeContactIs word_of PairSettled PieceSettled
  whole_contact_word (Hit m) h = record { which = m.piece; there = h.there; has = h.hit }
  whole_contact_word Miss h = h
  whole_contact_word Touch h = h
  whole_contact_word Apart h = h

  same_word : (m n : WholeContact) → WholeContactIs s kind i j m → WholeContactIs s kind i j n → word_of m ≡ word_of n
  same_word m n p q = one_pair_word s kind i j (word_of m) (word_of n) (whole_contact_word m p) (whole_contact_word n q)

  pub one_whole_contact : (m n : WholeContact) → WholeContactIs s kind i j m → WholeContactIs s kind i j n → m ≡ n
  unfolding WholeContactIs word_of
  one_whole_contact (Hit m) (Hit n) p q = ap Hit (one_contact_numbers s kind i j m n p q)
  one_whole_contact (Hit m) Miss p q = let e = same_word (Hit m) Miss p q in cc
  one_whole_contact (Hit m) Touch p q = let e = same_word (Hit m) Touch p q in cc
  one_whole_contact (Hit m) Apart p q = let e = same_word (Hit m) Apart p q in cc
  one_whole_contact Miss (Hit n) p q = let e = same_word Miss (Hit n) p q in cc
  one_whole_contact Miss Miss p q = refl
  one_whole_contact Miss Touch p q = let e = same_word Miss Touch p q in cc
  one_whole_contact Miss Apart p q = let e = same_word Miss Apart p q in cc
  one_whole_contact Touch (Hit n) p q = let e = same_word Touch (Hit n) p q in cc
  one_whole_contact Touch Miss p q = let e = same_word Touch Miss p q in cc
  one_whole_contact Touch Touch p q = refl
  one_whole_contact Touch Apart p q = let e = same_word Touch Apart p q in cc
  one_whole_contact Apart (Hit n) p q = let e = same_word Apart (Hit n) p q in cc
  one_whole_contact Apart Miss p q = let e = same_word Apart Miss p q in cc
  one_whole_contact Apart Touch p q = let e = same_word Apart Touch p q in cc
  one_whole_contact Apart Apart p q = refl

  pub one_contact : (c d : Contact) → ContactIs s kind i j c → ContactIs s kind i j d → c ≡ d
  one_contact c d p q =
      p.is ∙ ap (contact_of kind) (one_whole_contact p.contact q.contact p.right q.right) ∙ sym q.is
