-- The contacts of the pairs that the first entries of a lent list ask for, one by one.
use Rattle.std.specs.Prelude.{ℕ, ◌+◌, ◌≤◌, ◌<◌, List, [], ◌∷◌, ◌≡◌, refl, length, get_or, take, drop}
use Rattle.std.proofs.Common.{sym, ap, ◌∙◌, arith, get_or-take, take_at}
use Rattle.sequences.specs.Parts.{drop_next}
use Rattle.sequences.specs.Wrote.{written, written_length}
use Rattle.meaning.specs.Scene.{Scene}
use Rattle.meaning.specs.List.{Pair}
use Rattle.meaning.specs.Resting.{PairSettled}
use Rattle.meaning.specs.SceneWords.{byte_of}
use Rattle.meaning.specs.WholeContacts.{WholeContactIs, word_of}
use Rattle.meaning.specs.declared.Settled.{Settled}
use Rattle.meaning.specs.declared.WholeContact.{WholeContact}
use Rattle.meaning.specs.declared.WholeContact.TheVariants.{Miss}
use Rattle.corner_search.specs.Decided.{pair_word_is}
use Rattle.list_words.specs.Listed.{word_of_pair, bytes_of, word_of_byte, byte_back}
use Rattle.contact_entries.specs.Computed.{met_pair, whole_contact_is}
use Rattle.contact_entries.specs.Listed.{whole_contact_of_pair, contacts_of, contact_bytes, contacts_length, contacts_at}
use Rattle.contact_entries.specs.OneContact.{whole_contact_word}
use Rattle.mesh_words.specs.Asked.{mesh_pair_at, mesh_pairs_in, mesh_in_length, mesh_in_at, mesh_bytes_length, mesh_bytes_at}

-- a pair that was read from an entry has the contact of the entry's pair
pub entry_met : (s : Scene) (q p : Pair) → p.kind ≡ q.kind → p.first ≡ q.first → p.second ≡ q.second
    → (m : WholeContact) → WholeContactIs s p.kind p.first p.second m → m ≡ whole_contact_of_pair s q
entry_met s q p kind first second m is =
    (whole_contact_is s p.kind p.first p.second m).0 is
    ∙ (λ t. whole_contact_of_pair s (record { kind = kind t; first = first t; second = second t }))

-- and its word
pub entry_settled : (s : Scene) (q p : Pair) → p.kind ≡ q.kind → p.first ≡ q.first → p.second ≡ q.second
    → (w : Settled) → w ≡ word_of_pair s q → PairSettled s p.kind p.first p.second w
entry_settled s q p kind first second w e =
    (pair_word_is s p.kind p.first p.second w).1
    (e ∙ sym (λ t. word_of_pair s (record { kind = kind t; first = first t; second = second t })))

-- the word of a contact is the pair's, so the words beside contacts are the words of the pairs
contact_word : (s : Scene) (p : Pair) → word_of (whole_contact_of_pair s p) ≡ word_of_pair s p
contact_word s p =
    (pair_word_is s p.kind p.first p.second (word_of (whole_contact_of_pair s p))).0
    (whole_contact_word s p.kind p.first p.second (whole_contact_of_pair s p) (met_pair s p.kind p.first p.second))

pub contact_bytes_lem : (s : Scene) (ps : List Pair) → contact_bytes s ps ≡ bytes_of s ps
contact_bytes_lem s [] = refl
contact_bytes_lem s (p ∷ ps) = λ t. byte_of (contact_word s p t) ∷ contact_bytes_lem s ps t

module _ (n : ℕ) (l : List ℕ) (h : n ≤ length l) (s : Scene) where
  pub contacts_in_length : length (contacts_of s (mesh_pairs_in n l)) ≡ n
  contacts_in_length = contacts_length s (mesh_pairs_in n l) ∙ mesh_in_length n l h

  contacts_in_at : (k : ℕ) → k < n → get_or (contacts_of s (mesh_pairs_in n l)) k Miss ≡ whole_contact_of_pair s (mesh_pair_at l k)
  contacts_in_at k b =
      contacts_at s (mesh_pairs_in n l) k (rw (mesh_in_length n l h) b) ∙ ap (whole_contact_of_pair s) (mesh_in_at n l h k b)

  -- what is left from there on begins with the entry's own
  pub contacts_left : (k : ℕ) → k < n
      → drop k (contacts_of s (mesh_pairs_in n l)) ≡ whole_contact_of_pair s (mesh_pair_at l k) ∷ drop (k + 1) (contacts_of s (mesh_pairs_in n l))
  contacts_left k b = drop_next (contacts_of s (mesh_pairs_in n l)) k Miss (rw contacts_in_length b) ∙ rw (contacts_in_at k b)

  -- bytes that are the words' tell the word of an entry
  pub known_word : (b : List ℕ) → take n b ≡ bytes_of s (mesh_pairs_in n l) → (k : ℕ) → k < n → word_of_byte (get_or b k 0) ≡ word_of_pair s (mesh_pair_at l k)
  known_word b e k below =
      ap word_of_byte (sym (get_or-take n b k 0 below) ∙ ap (λ (c : List ℕ). get_or c k 0) e ∙ mesh_bytes_at n l h s k below)
      ∙ byte_back (word_of_pair s (mesh_pair_at l k))

  -- they stand in front where they were written
  pub written_words : (b b₀ : List ℕ) → b ≡ written (bytes_of s (mesh_pairs_in n l)) b₀ → take n b ≡ bytes_of s (mesh_pairs_in n l)
  written_words b b₀ e =
      ap (take n) e
      ∙ take_at (bytes_of s (mesh_pairs_in n l)) (drop (length (bytes_of s (mesh_pairs_in n l))) b₀) n (mesh_bytes_length n l h s)

  pub written_room : (b b₀ : List ℕ) → b ≡ written (bytes_of s (mesh_pairs_in n l)) b₀ → n ≤ length b₀ → n ≤ length b
  written_room b b₀ e room =
      let long = mesh_bytes_length n l h s in
      omega (arith, ap length e, written_length (bytes_of s (mesh_pairs_in n l)) b₀ (omega (arith, long, room)))
