-- 'Demand 3 extends to contacts: both scenes give the same k and shares', of scenes within the old range; 'an ee pair may be asked for in either
-- order, with the same answer'; and the order in which a scene writes ends and corners changes nothing.
use Rattle.std.specs.Prelude.{ℕ, ◌<◌, false, ◌↔◌, ◌≡◌, Result}
use Rattle.std.proofs.Common.{sym, subst}
use Rattle.whole.specs.Vector.{Vector}
use Rattle.whole.specs.VectorLaws.{Matrix}
use Rattle.meaning.specs.Limits.{contact_limit}
use Rattle.meaning.specs.Scene.{Scene, Accepted, AcceptedWithin}
use Rattle.meaning.specs.Pieces.{Piece, piece_of, piece_count}
use Rattle.meaning.specs.Refusals.{not_there, shares, outcome_alone}
use Rattle.meaning.specs.WholeContacts.{WholeContactIs, WholeContactFound, contact_checks}
use Rattle.meaning.specs.declared.Kind.{Kind}
use Rattle.meaning.specs.declared.Kind.TheVariants.{EdgeEdge}
use Rattle.meaning.specs.declared.Verdict.TheVariants.{Hit}
use Rattle.meaning.specs.declared.WholeContact.{WholeContact}
use Rattle.theory.specs.SentPieces.{sent_piece}
use Rattle.theory.specs.Moved.{Moves, Known, piece_moves}
use Rattle.theory.proofs.Moved.{moved_keeps_pieces, moved_keeps_pair_words}
use Rattle.theory.specs.EitherOrder.{answers_imp, piece_either_order, word_either_order, not_there_either_order, shares_either_order}
use Rattle.theory.specs.Rewritten.{Rewritten, WellMade}
use Rattle.theory.proofs.Rewritten.{rewritten_piece, rewritten_keeps_pair_words}
use Rattle.contact_laws.specs.Sent.{time_sent, time_back, first_sent, first_back, second_sent, second_back}
use Rattle.demands.specs.Demand3.{vertices_there}
use Rattle.demands.specs.AnyWriting.{well_made}
use Rattle.contact_demands.specs.Carried.{Carries, carries_same, whole_contact_carried}
use Rattle.meaning.specs.declared.Refusal.{Refusal}

-- ---- demand 3

module _ {m : Matrix} {a b : Vector} {s t : Scene} (h : Moves m a b s t) (kind : Kind) (i j : ℕ) (known : Known s kind i j) where
  carries_there : (k : ℕ) → Carries (piece_of s kind i j k) (piece_of t kind i j k)
  carries_there k = record {
    hit = moved_keeps_pieces h kind i j known k Hit;
    time = λ n x. rw (piece_moves h kind i j known k) (time_sent m a b (piece_of s kind i j k) n h.nonzero x);
    first = λ c n x. rw (piece_moves h kind i j known k) (first_sent m a b (piece_of s kind i j k) n c h.nonzero x);
    second = λ c n x. rw (piece_moves h kind i j known k) (second_sent m a b (piece_of s kind i j k) n c h.nonzero x);
  }

  carries_back : (k : ℕ) → Carries (piece_of t kind i j k) (piece_of s kind i j k)
  carries_back k =
      let e = piece_moves h kind i j known k in
      record {
        hit = ((moved_keeps_pieces h kind i j known k Hit).1, (moved_keeps_pieces h kind i j known k Hit).0);
        time = λ n x. time_back m a b (piece_of s kind i j k) n (rw e at x);
        first = λ c n x. first_back m a b (piece_of s kind i j k) n c (rw e at x);
        second = λ c n x. second_back m a b (piece_of s kind i j k) n c (rw e at x);
      }

  -- of whatever size: the same word, and of a hit the same piece, k and shares
  pub contacts_moved : (x : WholeContact) → WholeContactIs s kind i j x ↔ WholeContactIs t kind i j x
  contacts_moved x = (
    whole_contact_carried s t kind i j i j (λ k below. carries_there k) (λ w. (moved_keeps_pair_words h kind i j known w).0) x,
    whole_contact_carried t s kind i j i j (λ k below. carries_back k) (λ w. (moved_keeps_pair_words h kind i j known w).1) x,
  )

-- both scenes accepted within the old range: the same word, and of a hit the same piece, k and shares
pub demand3_contacts : {m : Matrix} {a b : Vector} {s t : Scene} → Moves m a b s t → AcceptedWithin contact_limit s → AcceptedWithin contact_limit t
    → (kind : Kind) (i j : ℕ) → not_there s kind i j ≡ false → shares s kind i j ≡ false → (x : WholeContact) → WholeContactIs s kind i j x ↔ WholeContactIs t kind i j x
demand3_contacts moves accepted also kind i j there apart =
    contacts_moved moves kind i j (vertices_there accepted kind i j there)

-- ---- in either order

module _ (s : Scene) (i j : ℕ) where
  pub contact_either_order : (x : WholeContact) → WholeContactIs s EdgeEdge i j x → WholeContactIs s EdgeEdge j i x
  contact_either_order x h =
      whole_contact_carried s s EdgeEdge i j j i (λ k below. carries_same (piece_either_order s i j k)) (λ w. (word_either_order s i j w).0) x h

  pub contact_answer_either_order : (r : Result WholeContact Refusal) → WholeContactFound s EdgeEdge i j r → WholeContactFound s EdgeEdge j i r
  contact_answer_either_order r h =
      rw (← not_there_either_order s i j, ← shares_either_order s i j)
      (answers_imp (contact_checks s EdgeEdge i j) (WholeContactIs s EdgeEdge i j) (WholeContactIs s EdgeEdge j i) contact_either_order (outcome_alone r) h)

-- ---- any order of writing

pub contact_as_written : {s t : Scene} → Rewritten s t → Accepted s → (kind : Kind) (i j : ℕ) → not_there s kind i j ≡ false → (x : WholeContact) → WholeContactIs s kind i j x ↔ WholeContactIs t kind i j x
contact_as_written {s} {t} h a kind i j there x =
    let w = well_made a kind i j there in (
      whole_contact_carried s t kind i j i j (λ k below. carries_same (sym (rewritten_piece h kind i j w k))) (λ v. (rewritten_keeps_pair_words h kind i j w v).0) x,
      whole_contact_carried t s kind i j i j (λ k below. carries_same (rewritten_piece h kind i j w k)) (λ v. (rewritten_keeps_pair_words h kind i j w v).1) x,
    )
