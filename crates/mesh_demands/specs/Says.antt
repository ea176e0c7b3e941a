-- A part of a mesh says the same of its pairs as the mesh: the theorem. No length stands in it, and nothing is asked of the whole but what `PartOf`
-- says of the part's own range: a mesh of a whole garment is refused by its size, and its parts speak for it.
use Rattle.std.specs.Prelude.{ℕ, not, ◌&&◌, ◌↔◌, ◌≡◌}
use Rattle.std.proofs.Common.{sym, ◌∙◌, ap₂}
use Rattle.meaning.specs.Scene.{Scene}
use Rattle.meaning.specs.Pieces.{piece_of}
use Rattle.meaning.specs.Verdicts.{PieceIs, PairIs}
use Rattle.meaning.specs.Resting.{PieceSettled, PairSettled}
use Rattle.meaning.specs.WholeContacts.{WholeContactIs, ContactIs}
use Rattle.meaning.specs.Refusals.{shares}
use Rattle.meaning.specs.Boxes.{boxes_meet, listed, culled}
use Rattle.meaning.specs.declared.Kind.{Kind}
use Rattle.meaning.specs.declared.Verdict.{Verdict}
use Rattle.meaning.specs.declared.Settled.{Settled}
use Rattle.meaning.specs.declared.WholeContact.{WholeContact}
use Rattle.meaning.specs.declared.Contact.{Contact}
use Rattle.theory.specs.Alike.{alike_same, alike_piece, alike_word, piece_for_piece, alike_pair, alike_pair_word}
use Rattle.contact_demands.specs.Carried.{carries_same, whole_contact_carried}

-- the pair i j of p and the pair a b of s say the same: verdicts and words of the pieces and of the pair, the contact in whole numbers and as it is
-- handed out, whether a vertex is shared, whether the pair is listed and whether it is culled
pub record SaysTheSame (p s : Scene) (kind : Kind) (i j a b : ℕ) : Type 0 where
  pub points : (k : ℕ) → piece_of s kind a b k ≡ piece_of p kind i j k
  pub pieces : (k : ℕ) (v : Verdict) → PieceIs (piece_of p kind i j k) v ↔ PieceIs (piece_of s kind a b k) v
  pub piece_words : (k : ℕ) (w : Settled) → PieceSettled (piece_of p kind i j k) w ↔ PieceSettled (piece_of s kind a b k) w
  pub verdict : (v : Verdict) → PairIs p kind i j v ↔ PairIs s kind a b v
  pub word : (w : Settled) → PairSettled p kind i j w ↔ PairSettled s kind a b w
  pub whole_contact : (x : WholeContact) → WholeContactIs p kind i j x ↔ WholeContactIs s kind a b x
  pub contact : (c : Contact) → ContactIs p kind i j c ↔ ContactIs s kind a b c
  pub shared : shares s kind a b ≡ shares p kind i j
  pub meet : boxes_meet s kind a b ≡ boxes_meet p kind i j
  pub in_list : listed s kind a b ≡ listed p kind i j
  pub left_out : culled s kind a b ≡ culled p kind i j

-- ---- the points, the shared vertex and the boxes say all of it

pub says_by : {p s : Scene} {kind : Kind} {i j a b : ℕ} → ((k : ℕ) → piece_of s kind a b k ≡ piece_of p kind i j k)
    → shares s kind a b ≡ shares p kind i j → boxes_meet s kind a b ≡ boxes_meet p kind i j → SaysTheSame p s kind i j a b
says_by {p} {s} {kind} {i} {j} {a} {b} points shared meet =
    record {
      points = points;
      pieces = λ k v. alike_piece (alike_same (sym (points k))) v;
      piece_words = λ k w. alike_word (alike_same (sym (points k))) w;
      verdict = λ v. alike_pair kind p s i j a b (piece_for_piece (λ k below. alike_same (sym (points k)))) v;
      word = word;
      whole_contact = whole_contact;
      contact = λ c. (
        λ h. record { contact = h.contact; right = (whole_contact h.contact).0 h.right; is = h.is },
        λ h. record { contact = h.contact; right = (whole_contact h.contact).1 h.right; is = h.is },
      );
      shared = shared;
      meet = meet;
      in_list = ap₂ (λ x y. not x && y) shared meet;
      left_out = ap₂ (λ x y. not x && not y) shared meet;
    }
  where
    word : (w : Settled) → PairSettled p kind i j w ↔ PairSettled s kind a b w
    word w = alike_pair_word kind p s i j a b (piece_for_piece (λ k below. alike_same (sym (points k)))) w

    whole_contact : (x : WholeContact) → WholeContactIs p kind i j x ↔ WholeContactIs s kind a b x
    whole_contact x = (
      whole_contact_carried p s kind i j a b (λ k below. carries_same (sym (points k))) (λ w. (word w).0) x,
      whole_contact_carried s p kind a b i j (λ k below. carries_same (points k)) (λ w. (word w).1) x,
    )

-- it goes both ways, and on
pub says_back : {p s : Scene} {kind : Kind} {i j a b : ℕ} → SaysTheSame p s kind i j a b → SaysTheSame s p kind a b i j
says_back h = says_by (λ k. sym (h.points k)) (sym h.shared) (sym h.meet)

pub says_on : {p s t : Scene} {kind : Kind} {i j a b c d : ℕ} → SaysTheSame p s kind i j a b → SaysTheSame s t kind a b c d → SaysTheSame p t kind i j c d
says_on h k = says_by (λ n. k.points n ∙ h.points n) (k.shared ∙ h.shared) (k.meet ∙ h.meet)
