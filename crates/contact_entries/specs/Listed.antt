-- The contacts of the listed pairs, in the list's order, and their words as bytes.
use Rattle.std.specs.Prelude.{ℕ, zero, suc, ◌+◌, ◌≤◌, ◌<◌, ◌≡◌, refl, List, [], ◌∷◌, map, length, get_or, drop}
use Rattle.std.proofs.Common.{not-suc-le-zero, le_of_suc-le-suc, sym, ap, ◌∙◌}
use Rattle.std.proofs.lemmas.List.{length-map}
use Rattle.meaning.specs.Scene.{Scene}
use Rattle.meaning.specs.List.{Pair, pairs}
use Rattle.meaning.specs.SceneWords.{byte_of}
use Rattle.meaning.specs.WholeContacts.{WholeContactIs, word_of, AllContacts}
use Rattle.meaning.specs.declared.WholeContact.{WholeContact}
use Rattle.meaning.specs.declared.WholeContact.TheVariants.{Miss}
use Rattle.sequences.specs.Parts.{drop_next}
use Rattle.list_entries.specs.Entries.{kind_of, first_of, second_of, pair_of, pair_at}
use Rattle.list_words.specs.Listed.{no_pair, ListStands, pairs_in, pairs_in_length, pairs_in_at}
use Rattle.contact_entries.specs.Computed.{whole_contact_of, met_pair, whole_contact_is}
use Rattle.contact_entries.specs.Rows.{SmallContact, whole_contact_small}

abbrev pub whole_contact_of_pair : Scene → Pair → WholeContact
whole_contact_of_pair s p = whole_contact_of s p.kind p.first p.second

abbrev pub contacts_of : Scene → List Pair → List WholeContact
contacts_of s ps = map (whole_contact_of_pair s) ps

abbrev pub contact_byte : WholeContact → ℕ
contact_byte m = byte_of (word_of m)

abbrev pub contact_bytes : Scene → List Pair → List ℕ
contact_bytes s ps = map contact_byte (contacts_of s ps)

pub all_met : (s : Scene) (ps : List Pair) → AllContacts s ps (contacts_of s ps)
unfolding AllContacts
all_met s [] = tt
all_met s (p ∷ ps) = (met_pair s p.kind p.first p.second, all_met s ps)

-- all contacts of a list are these
pub all_met_one : (s : Scene) (ps : List Pair) (ms : List WholeContact) → AllContacts s ps ms → ms ≡ contacts_of s ps
unfolding AllContacts
all_met_one s [] [] h = refl
all_met_one s [] (m ∷ ms) h = absurd h
all_met_one s (p ∷ ps) [] h = absurd h
all_met_one s (p ∷ ps) (m ∷ ms) h =
    λ t. (whole_contact_is s p.kind p.first p.second m).0 h.0 t ∷ all_met_one s ps ms h.1 t

pub contacts_length : (s : Scene) (ps : List Pair) → length (contacts_of s ps) ≡ length ps
contacts_length s ps = length-map ps (whole_contact_of_pair s)

pub met_bytes_length : (s : Scene) (ps : List Pair) → length (contact_bytes s ps) ≡ length ps
met_bytes_length s ps = length-map (contacts_of s ps) contact_byte ∙ contacts_length s ps

pub contacts_at : (s : Scene) (ps : List Pair) (k : ℕ) → k < length ps → get_or (contacts_of s ps) k Miss ≡ whole_contact_of_pair s (get_or ps k no_pair)
contacts_at s [] k h = absurd (not-suc-le-zero h)
contacts_at s (p ∷ ps) zero h = refl
contacts_at s (p ∷ ps) (suc k) h = contacts_at s ps k (le_of_suc-le-suc h)

pub met_bytes_at : (s : Scene) (ps : List Pair) (k : ℕ) → k < length ps → get_or (contact_bytes s ps) k 0 ≡ contact_byte (get_or (contacts_of s ps) k Miss)
met_bytes_at s [] k h = absurd (not-suc-le-zero h)
met_bytes_at s (p ∷ ps) zero h = refl
met_bytes_at s (p ∷ ps) (suc k) h = met_bytes_at s ps k (le_of_suc-le-suc h)

-- each is of a piece
pub pair_small : (s : Scene) (p : Pair) → SmallContact (whole_contact_of_pair s p)
pair_small s p = whole_contact_small s p.kind p.first p.second (whole_contact_of_pair s p) (met_pair s p.kind p.first p.second)

-- a pair that was read from an entry has the contact of the entry's pair
pub entry_met : (s : Scene) (e : ℕ) (p : Pair) → p.kind ≡ kind_of e → p.first ≡ first_of e → p.second ≡ second_of e
    → (m : WholeContact) → WholeContactIs s p.kind p.first p.second m → m ≡ whole_contact_of_pair s (pair_of e)
entry_met s e p kind first second m is =
    (whole_contact_is s p.kind p.first p.second m).0 is
    ∙ (λ t. whole_contact_of_pair s (record { kind = kind t; first = first t; second = second t }))

-- where the list of the scene stands, an entry has the contact in its place
pub listed_whole_contact : {s : Scene} {l : List ℕ} → ListStands s l → (k : ℕ) → k < length (pairs s) → whole_contact_of_pair s (pair_at l k) ≡ get_or (contacts_of s (pairs s)) k Miss
listed_whole_contact {s} stands k h = ap (whole_contact_of_pair s) (stands.at k h) ∙ sym (contacts_at s (pairs s) k h)

-- of the first n entries of a buffer
module _ (n : ℕ) (l : List ℕ) (h : n ≤ length l) (s : Scene) where
  pub contacts_in_length : length (contacts_of s (pairs_in n l)) ≡ n
  contacts_in_length = contacts_length s (pairs_in n l) ∙ pairs_in_length n l h

  pub met_bytes_in_length : length (contact_bytes s (pairs_in n l)) ≡ n
  met_bytes_in_length = met_bytes_length s (pairs_in n l) ∙ pairs_in_length n l h

  pub contacts_in_at : (k : ℕ) → k < n → get_or (contacts_of s (pairs_in n l)) k Miss ≡ whole_contact_of_pair s (pair_at l k)
  contacts_in_at k b =
      contacts_at s (pairs_in n l) k (rw (pairs_in_length n l h) b) ∙ ap (whole_contact_of_pair s) (pairs_in_at n l h k b)

  -- what is left from there on begins with the entry's own
  pub contacts_left : (k : ℕ) → k < n
      → drop k (contacts_of s (pairs_in n l)) ≡ whole_contact_of_pair s (pair_at l k) ∷ drop (k + 1) (contacts_of s (pairs_in n l))
  contacts_left k b = drop_next (contacts_of s (pairs_in n l)) k Miss (rw contacts_in_length b) ∙ rw (contacts_in_at k b)

  pub met_bytes_left : (k : ℕ) → k < n
      → drop k (contact_bytes s (pairs_in n l)) ≡ contact_byte (whole_contact_of_pair s (pair_at l k)) ∷ drop (k + 1) (contact_bytes s (pairs_in n l))
  met_bytes_left k b =
      drop_next (contact_bytes s (pairs_in n l)) k 0 (rw met_bytes_in_length b)
      ∙ rw (met_bytes_at s (pairs_in n l) k (rw (pairs_in_length n l h) b), contacts_in_at k b)
