-- The pairs that the first entries of a lent list ask for; that they are there; and that entries of listed pairs ask for these pairs.
use Rattle.std.specs.Prelude.{ℕ, ◌+◌, ◌≤◌, ◌<◌, false, ◌≡◌, refl, length, get_or, take, drop}
use mathlib.Core.List.{List, [], ◌∷◌, map, Memᴰ}
use Rattle.std.proofs.Common.{sym, ap, ◌∙◌, subst, arith, length-take-le, get_or-take, ext_get_or}
use Rattle.std.proofs.lemmas.List.{length-map}
use Rattle.sequences.specs.Mapped.{map_at}
use Rattle.sequences.specs.Parts.{drop_next}
use Rattle.sequences.specs.Rising.{at_place}
use Rattle.meaning.specs.Scene.{Scene}
use Rattle.meaning.specs.Refusals.{not_there}
use Rattle.meaning.specs.Resting.{PairSettled}
use Rattle.meaning.specs.List.{Pair}
use Rattle.meaning.specs.SceneWords.{byte_of}
use Rattle.meaning.specs.MeshRows.{mesh_number, mesh_entries}
use Rattle.meaning.specs.declared.Settled.{Settled}
use Rattle.corner_search.specs.Decided.{pair_word_is}
use Rattle.list_words.specs.Listed.{word_of_pair, bytes_of, bytes_length, bytes_at, no_pair}
use Rattle.mesh_laws.specs.Entries.{mesh_pair_of, Within, mesh_number_back}

-- the pair of an entry, and those of the first n entries
abbrev pub mesh_pair_at : List ℕ → ℕ → Pair
mesh_pair_at l k = mesh_pair_of (get_or l k 0)

abbrev pub mesh_pairs_in : ℕ → List ℕ → List Pair
mesh_pairs_in n l = map mesh_pair_of (take n l)

-- each of them is there
abbrev pub PairThere : Scene → Pair → Type 0
PairThere s p = not_there s p.kind p.first p.second ≡ false

abbrev pub MeshThere : Scene → ℕ → List ℕ → Type 0
MeshThere s n l = (k : ℕ) → k < n → PairThere s (mesh_pair_at l k)

module _ (n : ℕ) (l : List ℕ) (h : n ≤ length l) where
  pub mesh_in_length : length (mesh_pairs_in n l) ≡ n
  mesh_in_length = length-map (take n l) mesh_pair_of ∙ length-take-le n l h

  pub mesh_in_at : (k : ℕ) → k < n → get_or (mesh_pairs_in n l) k no_pair ≡ mesh_pair_at l k
  mesh_in_at k b =
      map_at mesh_pair_of (take n l) k 0 no_pair (rw (length-take-le n l h) b) ∙ ap mesh_pair_of (get_or-take n l k 0 b)

  pub mesh_bytes_length : (s : Scene) → length (bytes_of s (mesh_pairs_in n l)) ≡ n
  mesh_bytes_length s = bytes_length s (mesh_pairs_in n l) ∙ mesh_in_length

  -- the byte of an entry is the word's of its pair
  pub mesh_bytes_at : (s : Scene) (k : ℕ) → k < n → get_or (bytes_of s (mesh_pairs_in n l)) k 0 ≡ byte_of (word_of_pair s (mesh_pair_at l k))
  mesh_bytes_at s k b =
      bytes_at s (mesh_pairs_in n l) k (rw mesh_in_length b)
      ∙ ap (λ (p : Pair). byte_of (word_of_pair s p)) (mesh_in_at k b)

  -- what is left from there on begins with it
  pub mesh_left : (s : Scene) (k : ℕ) → k < n
      → drop k (bytes_of s (mesh_pairs_in n l)) ≡ byte_of (word_of_pair s (mesh_pair_at l k)) ∷ drop (k + 1) (bytes_of s (mesh_pairs_in n l))
  mesh_left s k b = drop_next (bytes_of s (mesh_pairs_in n l)) k 0 (rw (mesh_bytes_length s) b) ∙ rw (mesh_bytes_at s k b)

-- a pair that was read from an entry has the byte of the entry's pair, and is there where that is
pub entry_byte : (s : Scene) (q p : Pair) → p.kind ≡ q.kind → p.first ≡ q.first → p.second ≡ q.second
    → (w : Settled) → PairSettled s p.kind p.first p.second w → byte_of w ≡ byte_of (word_of_pair s q)
entry_byte s q p kind first second w is =
    ap byte_of ((pair_word_is s p.kind p.first p.second w).0 is)
    ∙ (λ t. byte_of (word_of_pair s (record { kind = kind t; first = first t; second = second t })))

pub entry_there : (s : Scene) (q p : Pair) → p.kind ≡ q.kind → p.first ≡ q.first → p.second ≡ q.second → PairThere s q → PairThere s p
entry_there s q p kind first second h = (λ t. not_there s (kind t) (first t) (second t)) ∙ h

-- ---- where the entries of given pairs stand in front

pub record Entered (s : Scene) (n : ℕ) (l : List ℕ) (ps : List Pair) : Type 0 where
  pub stand : take n l ≡ mesh_entries ps
  pub room : n ≤ length l
  pub narrow : (p : Pair) → Memᴰ p ps → Within p
  pub there : (p : Pair) → Memᴰ p ps → PairThere s p

module _ {s : Scene} {n : ℕ} {l : List ℕ} {ps : List Pair} (e : Entered s n l ps) where
  pub entered_count : length ps ≡ n
  entered_count = sym (length-map ps mesh_number) ∙ sym (ap length e.stand) ∙ length-take-le n l e.room

  back : (qs : List Pair) → ((p : Pair) → Memᴰ p qs → Within p) → (k : ℕ) → k < length qs
      → get_or (map mesh_pair_of (mesh_entries qs)) k no_pair ≡ get_or qs k no_pair
  back qs narrow k h =
      map_at mesh_pair_of (mesh_entries qs) k 0 no_pair (rw (length-map qs mesh_number) h)
      ∙ ap mesh_pair_of (map_at mesh_number qs k no_pair 0 h)
      ∙ mesh_number_back (get_or qs k no_pair) (narrow (get_or qs k no_pair) (at_place qs k no_pair h))

  -- they ask for these pairs
  pub entered_pairs : mesh_pairs_in n l ≡ ps
  entered_pairs =
      ap (map mesh_pair_of) e.stand
      ∙ ext_get_or no_pair (map mesh_pair_of (mesh_entries ps)) ps (length-map (mesh_entries ps) mesh_pair_of ∙ length-map ps mesh_number)
      (λ k h. back ps e.narrow k (rw (length-map (mesh_entries ps) mesh_pair_of, length-map ps mesh_number) at h))

  -- and these are there
  pub entered_there : MeshThere s n l
  entered_there k h =
      let few : k < length ps = rw entered_count h in
      let same : get_or ps k no_pair ≡ mesh_pair_at l k =
      sym (ap (λ (qs : List Pair). get_or qs k no_pair) entered_pairs) ∙ mesh_in_at n l e.room k h in
      subst (PairThere s) same (e.there (get_or ps k no_pair) (at_place ps k no_pair few))
