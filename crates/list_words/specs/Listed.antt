-- The words of listed pairs, as code finds them one by one.
use Rattle.std.specs.Prelude.{ℕ, zero, suc, ◌+◌, ◌≤◌, ◌<◌, cond, false, List, [], ◌∷◌, map, ◌≡◌, refl, eqb, length, get_or, take, drop, None, Option, Some}
use Rattle.std.proofs.Common.{sym, ap, ◌∙◌, subst, not-suc-le-zero, le_of_suc-le-suc, arith, length-take-le, get_or-take, ext_get_or}
use Rattle.std.proofs.lemmas.List.{length-map}
use Rattle.sequences.specs.Mapped.{map_at}
use Rattle.sequences.specs.Parts.{drop_next}
use Rattle.sequences.specs.Rising.{at_place}
use Rattle.sequences.specs.Wrote.{written, written_in_front}
use Rattle.meaning.specs.Scene.{Scene}
use Rattle.meaning.specs.Refusals.{not_there}
use Rattle.meaning.specs.Resting.{PairSettled}
use Rattle.meaning.specs.List.{Pair, pair, pairs, room_of}
use Rattle.meaning.specs.SceneWords.{byte_of, AllSettled}
use Rattle.meaning.specs.declared.Kind.TheVariants.{PointTriangle}
use Rattle.meaning.specs.declared.Settled.{Settled}
use Rattle.meaning.specs.declared.Settled.TheVariants.{Hit, Miss, Touch, Apart}
use Rattle.corner_search.specs.Decided.{pair_word, pair_word_is, settled_pair}
use Rattle.list_pairs.specs.InOrder.{list_is}
use Rattle.list_entries.specs.Entries.{kind_of, first_of, second_of, pair_of, pair_at}

abbrev pub word_of_pair : Scene → Pair → Settled
word_of_pair s p = pair_word s p.kind p.first p.second

abbrev pub words_of : Scene → List Pair → List Settled
words_of s ps = map (word_of_pair s) ps

abbrev pub bytes_of : Scene → List Pair → List ℕ
bytes_of s ps = map byte_of (words_of s ps)

pub all_judged : (s : Scene) (ps : List Pair) → AllSettled s ps (words_of s ps)
unfolding AllSettled
all_judged s [] = tt
all_judged s (p ∷ ps) = (settled_pair s p.kind p.first p.second, all_judged s ps)

pub bytes_length : (s : Scene) (ps : List Pair) → length (bytes_of s ps) ≡ length ps
bytes_length s ps = length-map (words_of s ps) byte_of ∙ length-map ps (word_of_pair s)

-- the pair that is read where none stands
abbrev pub no_pair : Pair
no_pair = pair PointTriangle 0 0

pub bytes_at : (s : Scene) (ps : List Pair) (k : ℕ) → k < length ps → get_or (bytes_of s ps) k 0 ≡ byte_of (word_of_pair s (get_or ps k no_pair))
bytes_at s [] k h = absurd (not-suc-le-zero h)
bytes_at s (p ∷ ps) zero h = refl
bytes_at s (p ∷ ps) (suc k) h = bytes_at s ps k (le_of_suc-le-suc h)

-- a buffer in whose front the list of a scene stands
pub record ListStands (s : Scene) (l : List ℕ) : Type 0 where
  pub room : length (pairs s) ≤ room_of l
  pub at : (k : ℕ) → k < length (pairs s) → pair_at l k ≡ get_or (pairs s) k no_pair

-- a listed pair is there
pub listed_there : (s : Scene) (k : ℕ) → k < length (pairs s)
    → not_there s (get_or (pairs s) k no_pair).kind (get_or (pairs s) k no_pair).first (get_or (pairs s) k no_pair).second ≡ false
listed_there s k h = (((list_is s).stands (get_or (pairs s) k no_pair)).0 (at_place (pairs s) k no_pair h)).there

-- ---- entries of any list

-- the pairs that the first n entries of a buffer ask for
abbrev pub pairs_in : ℕ → List ℕ → List Pair
pairs_in n l = map pair_of (take n l)

-- each of them is there
abbrev pub AllThere : Scene → ℕ → List ℕ → Type 0
AllThere s n l = (k : ℕ) → k < n → not_there s (pair_at l k).kind (pair_at l k).first (pair_at l k).second ≡ false

module _ (n : ℕ) (l : List ℕ) (h : n ≤ length l) where
  pub pairs_in_length : length (pairs_in n l) ≡ n
  pairs_in_length = length-map (take n l) pair_of ∙ length-take-le n l h

  pub pairs_in_at : (k : ℕ) → k < n → get_or (pairs_in n l) k no_pair ≡ pair_at l k
  pairs_in_at k b =
      map_at pair_of (take n l) k 0 no_pair (rw (length-take-le n l h) b) ∙ ap pair_of (get_or-take n l k 0 b)

  pub bytes_in_length : (s : Scene) → length (bytes_of s (pairs_in n l)) ≡ n
  bytes_in_length s = bytes_length s (pairs_in n l) ∙ pairs_in_length

  -- the byte of an entry is the word's of its pair
  pub bytes_in_at : (s : Scene) (k : ℕ) → k < n → get_or (bytes_of s (pairs_in n l)) k 0 ≡ byte_of (word_of_pair s (pair_at l k))
  bytes_in_at s k b =
      bytes_at s (pairs_in n l) k (rw pairs_in_length b)
      ∙ ap (λ (p : Pair). byte_of (word_of_pair s p)) (pairs_in_at k b)

  -- what is left from there on begins with it
  pub left_in : (s : Scene) (k : ℕ) → k < n
      → drop k (bytes_of s (pairs_in n l)) ≡ byte_of (word_of_pair s (pair_at l k)) ∷ drop (k + 1) (bytes_of s (pairs_in n l))
  left_in s k b = drop_next (bytes_of s (pairs_in n l)) k 0 (rw (bytes_in_length s) b) ∙ rw (bytes_in_at s k b)

-- a pair that was read from an entry has the byte of the entry's pair
pub entry_byte : (s : Scene) (e : ℕ) (p : Pair) → p.kind ≡ kind_of e → p.first ≡ first_of e → p.second ≡ second_of e
    → (w : Settled) → PairSettled s p.kind p.first p.second w → byte_of w ≡ byte_of (word_of_pair s (pair_of e))
entry_byte s e p kind first second w is =
    ap byte_of ((pair_word_is s p.kind p.first p.second w).0 is)
    ∙ (λ t. byte_of (word_of_pair s (record { kind = kind t; first = first t; second = second t })))

pub entry_there : (s : Scene) (e : ℕ) (p : Pair) → p.kind ≡ kind_of e → p.first ≡ first_of e → p.second ≡ second_of e
    → not_there s (kind_of e) (first_of e) (second_of e) ≡ false → not_there s p.kind p.first p.second ≡ false
entry_there s e p kind first second h = (λ t. not_there s (kind t) (first t) (second t)) ∙ h

-- where the list of the scene stands, its pairs are these, and they are there
module _ {s : Scene} {l : List ℕ} (stands : ListStands s l) where
  pub listed_all_there : AllThere s (length (pairs s)) l
  listed_all_there k h =
      subst (λ (q : Pair). not_there s q.kind q.first q.second ≡ false) (sym (stands.at k h)) (listed_there s k h)

  pub listed_pairs_in : pairs_in (length (pairs s)) l ≡ pairs s
  listed_pairs_in =
      ext_get_or no_pair (pairs_in (length (pairs s)) l) (pairs s) (pairs_in_length (length (pairs s)) l stands.room)
      (λ k h. let b = rw (pairs_in_length (length (pairs s)) l stands.room) at h in pairs_in_at (length (pairs s)) l stands.room k b ∙ stands.at k b)

-- ---- bytes and words

-- a byte that stands for a word
pub record WordByte (b : ℕ) : Type 0 where
  pub word : Settled
  pub stands : byte_of word ≡ b

-- what a byte says: its word, or none, where it is no word's
unfoldable pub StandsFor : ℕ → Option Settled → Type 0
StandsFor b (Some w) = byte_of w ≡ b
StandsFor b None = ¬ WordByte b

-- a byte back to its word, for a byte that stands for one
unfoldable pub word_of_byte : ℕ → Settled
word_of_byte b = cond (eqb b 0) Hit (cond (eqb b 1) Miss (cond (eqb b 3) Touch Apart))

pub byte_back : (w : Settled) → word_of_byte (byte_of w) ≡ w
unfolding word_of_byte byte_of
byte_back Hit = refl
byte_back Miss = refl
byte_back Touch = refl
byte_back Apart = refl

-- whose byte it is, that is its word
pub word_of_its_byte : {b : ℕ} (w : Settled) → byte_of w ≡ b → w ≡ word_of_byte b
word_of_its_byte w e = sym (byte_back w) ∙ ap word_of_byte e

-- two words never have one byte
pub byte_one : (v w : Settled) → byte_of v ≡ byte_of w → v ≡ w
byte_one v w e = word_of_its_byte v e ∙ byte_back w

-- so a byte has one answer
pub one_byte_answer : (b : ℕ) (r r' : Option Settled) → StandsFor b r → StandsFor b r' → r ≡ r'
unfolding StandsFor
one_byte_answer b (Some v) (Some w) p q = ap Some (byte_one v w (p ∙ sym q))
one_byte_answer b (Some v) None p q = absurd (q (record { word = v; stands = p }))
one_byte_answer b None (Some w) p q = absurd (p (record { word = w; stands = q }))
one_byte_answer b None None p q = refl

-- a byte that is none of the four stands for no word
pub no_word : {b : ℕ} → ¬ (b ≡ 0) → ¬ (b ≡ 1) → ¬ (b ≡ 3) → ¬ (b ≡ 4) → ¬ WordByte b
unfolding byte_of
no_word {b} hit miss touch apart p = by_word p.word p.stands
  where
    by_word : (w : Settled) → byte_of w ≡ b → ⊥
    by_word Hit e = hit (sym e)
    by_word Miss e = miss (sym e)
    by_word Touch e = touch (sym e)
    by_word Apart e = apart (sym e)

-- the answer to a byte that stands for a word is that word
pub answered_word : (b : ℕ) {r : Option Settled} (w : Settled) → r ≡ Some w → StandsFor b r → w ≡ word_of_byte b
unfolding StandsFor
answered_word b w e h = word_of_its_byte w (subst (StandsFor b) e h)

pub answered_none : {b : ℕ} {r : Option Settled} → WordByte b → r ≡ None → ¬ StandsFor b r
unfolding StandsFor
answered_none {b} p e h = subst (StandsFor b) e h p

pub byte_small : (w : Settled) → byte_of w ≤ 4
unfolding byte_of
byte_small Hit = omega arith
byte_small Miss = omega arith
byte_small Touch = omega arith
byte_small Apart = omega arith

-- where the bytes of the listed pairs stand in front of a buffer, each is its pair's
module _ (s : Scene) {b : List ℕ} (b₀ : List ℕ) (bytes : b ≡ written (bytes_of s (pairs s)) b₀) (k : ℕ) (h : k < length (pairs s)) where
  pub byte_in_front : byte_of (word_of_pair s (get_or (pairs s) k no_pair)) ≡ get_or b k 0
  byte_in_front =
      sym
      (ap (λ (c : List ℕ). get_or c k 0) bytes
      ∙ written_in_front (bytes_of s (pairs s)) b₀ k 0 (rw (bytes_length s (pairs s)) h)
      ∙ bytes_at s (pairs s) k h)

  pub word_in_front : WordByte (get_or b k 0)
  word_in_front = record { word = word_of_pair s (get_or (pairs s) k no_pair); stands = byte_in_front }
