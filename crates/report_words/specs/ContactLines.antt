-- A contact's line is its parts, one behind the other.
use Rattle.std.specs.Prelude.{ℕ, ◌+◌, ◌≤◌, ◌<◌, ◌^◌, List, [], ◌∷◌, ◌++◌, ◌≡◌, length}
use Rattle.std.proofs.Common.{append_assoc, append-nil, arith, length-append}
use Rattle.decimals.specs.Digits.{digits}
use Rattle.decimals.specs.Value.{digits_length_u64}
use Rattle.meaning.specs.Text.{tab, line_feed, further}
use Rattle.meaning.specs.List.{Pair}
use Rattle.meaning.specs.Report.{kind_word}
use Rattle.meaning.specs.ContactLines.{share_fields, contact_line}
use Rattle.meaning.specs.declared.Kind.{Kind}
use Rattle.meaning.specs.declared.Kind.TheVariants.{PointTriangle, EdgeEdge}
use Rattle.meaning.specs.declared.ContactNumbers.{ContactNumbers}
use Rattle.meaning.specs.declared.WholeContact.TheVariants.{Hit}

pub digits_length_u32 : (n : ℕ) → n < 2 ^ 32 → length (digits n) ≤ 20
digits_length_u32 n h = digits_length_u64 n (omega arith)

module _ {kind : Kind} (m : ContactNumbers) where
  pub three_shares : kind ≡ PointTriangle
      → ((tab ∷ digits m.first) ++ (tab ∷ digits m.second)) ++ (tab ∷ digits m.third) ≡ further tab (share_fields kind m)
  unfolding further share_fields
  three_shares e = rw e (simp (append_assoc, append-nil))

  pub two_shares : kind ≡ EdgeEdge → (tab ∷ digits m.first) ++ (tab ∷ digits m.second) ≡ further tab (share_fields kind m)
  unfolding further share_fields
  two_shares e = rw e (simp append-nil)

regrouped : (w a b c d r z : List ℕ) → (((((w ++ a) ++ b) ++ c) ++ d) ++ r) ++ z ≡ (w ++ (a ++ (b ++ (c ++ (d ++ r))))) ++ z
regrouped w a b c d r z = simp append_assoc

-- the parts of a line as they are written
pub contact_parts : (p : Pair) (m : ContactNumbers)
    → (((((kind_word p.kind ++ (tab ∷ digits p.first)) ++ (tab ∷ digits p.second)) ++ (tab ∷ digits m.piece)) ++ (tab ∷ digits m.k)) ++ further tab (share_fields p.kind m)) ++ (line_feed ∷ [])
    ≡ contact_line p (Hit m)
unfolding further contact_line
contact_parts p m =
    regrouped (kind_word p.kind) (tab ∷ digits p.first) (tab ∷ digits p.second) (tab ∷ digits m.piece) (tab ∷ digits m.k) (further tab (share_fields p.kind m)) (line_feed ∷ [])

-- and however large the shares are, they have room in 63 bytes
pub shares_fit : (kind : Kind) (m : ContactNumbers) → m.first < 2 ^ 32 → m.second < 2 ^ 32 → m.third < 2 ^ 32 → length (further tab (share_fields kind m)) ≤ 63
unfolding further share_fields
shares_fit PointTriangle m f s t =
    simp length-append (omega (arith, digits_length_u64 m.first (omega arith), digits_length_u64 m.second (omega arith), digits_length_u64 m.third (omega arith)))
shares_fit EdgeEdge m f s t =
    simp length-append (omega (arith, digits_length_u64 m.first (omega arith), digits_length_u64 m.second (omega arith)))
