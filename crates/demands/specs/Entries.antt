-- Document 02, §9: 'Show that the new list is the old one entry for entry, and that no two pairs make the same number.' Document 01's entry
-- stands here as a definition, and nowhere else.
use Rattle.std.specs.Prelude.{ℕ, ◌+◌, ◌*◌, ◌^◌, ◌≤◌, ◌<◌, false, ◌≡◌, refl, length, get_or}
use mathlib.Core.List.{List, [], ◌∷◌, flat_map}
use Rattle.std.proofs.Common.{sym, ap, ◌∙◌, arith}
use Rattle.sequences.specs.Flat.{flat_length, flat_at}
use Rattle.sequences.specs.Mapped.{map_at, map_rising}
use Rattle.sequences.specs.Rising.{Rising, at_place, rising_places}
use Rattle.meaning.specs.Scene.{Scene, Accepted}
use Rattle.meaning.specs.Refusals.{not_there}
use Rattle.meaning.specs.List.{Pair, pair, pairs, kind_step, kind_part, number, entries}
use Rattle.meaning.specs.declared.Kind.{Kind}
use Rattle.meaning.specs.declared.Kind.TheVariants.{PointTriangle, EdgeEdge}
use Rattle.list_entries.specs.Entries.{Narrow, pair_of, number_back, number_once, entries_length}
use Rattle.list_pairs.specs.InOrder.{Earlier, list_is}
use Rattle.list_pairs.specs.Sizes.{there_narrow, pairs_narrow}

-- ---- document 01's entry

-- 'three u16 numbers: 0 for pt or 1 for ee, then the two places'
unfoldable pub old_kind : Kind → ℕ
old_kind PointTriangle = 0
old_kind EdgeEdge = 1

unfoldable pub old_entry : Pair → List ℕ
old_entry p = old_kind p.kind ∷ p.first ∷ p.second ∷ []

abbrev pub old_entries : List Pair → List ℕ
old_entries ps = flat_map old_entry ps

-- the number j of the k-th old entry
abbrev pub old_at : List Pair → ℕ → ℕ → ℕ
old_at ps k j = get_or (old_entries ps) (k * 3 + j) 0

-- ---- the new list is the old one entry for entry

old_width : (p : Pair) → length (old_entry p) ≡ 3
unfolding old_entry
old_width p = refl

-- as many entries, one number for three
pub as_many : (ps : List Pair) → length (old_entries ps) ≡ length (entries ps) * 3
as_many ps = rw (entries_length ps) (flat_length old_entry 3 old_width ps)

kind_made_of : (kind : Kind) → kind_part kind ≡ kind_step * old_kind kind
unfolding kind_part old_kind
kind_made_of PointTriangle = refl
kind_made_of EdgeEdge = refl

-- the pair of the k-th entry
abbrev pub listed_at : List Pair → ℕ → Pair
listed_at ps k = get_or ps k (pair PointTriangle 0 0)

module _ (ps : List Pair) (k : ℕ) (h : k < length ps) where
  old_kind_lem : old_at ps k 0 ≡ old_kind (listed_at ps k).kind
  unfolding old_entry
  old_kind_lem = flat_at old_entry 3 old_width ps k 0 (pair PointTriangle 0 0) 0 h (omega arith)

  old_first : old_at ps k 1 ≡ (listed_at ps k).first
  unfolding old_entry
  old_first = flat_at old_entry 3 old_width ps k 1 (pair PointTriangle 0 0) 0 h (omega arith)

  old_second : old_at ps k 2 ≡ (listed_at ps k).second
  unfolding old_entry
  old_second = flat_at old_entry 3 old_width ps k 2 (pair PointTriangle 0 0) 0 h (omega arith)

  new_number : get_or (entries ps) k 0 ≡ number (listed_at ps k)
  new_number = map_at number ps k (pair PointTriangle 0 0) 0 h

  -- the k-th number is made of the three numbers of the k-th old entry
  pub entry_for_entry : get_or (entries ps) k 0 ≡ 2 ^ 20 * old_at ps k 0 + 2 ^ 10 * old_at ps k 1 + old_at ps k 2
  unfolding number
  entry_for_entry = rw (old_kind_lem, old_first, old_second, ← kind_made_of (listed_at ps k).kind) new_number

  -- and gives them back, where the places are below 1,024
  pub entry_given_back : Narrow (listed_at ps k) → (old_at ps k 0 ≡ old_kind (pair_of (get_or (entries ps) k 0)).kind)
      × (old_at ps k 1 ≡ (pair_of (get_or (entries ps) k 0)).first)
      × (old_at ps k 2 ≡ (pair_of (get_or (entries ps) k 0)).second)
  entry_given_back narrow =
      let same : pair_of (get_or (entries ps) k 0) ≡ listed_at ps k = ap pair_of new_number ∙ number_back (listed_at ps k) narrow in (
        old_kind_lem ∙ ap (λ (q : Pair). old_kind q.kind) (sym same),
        old_first ∙ ap (λ (q : Pair). q.first) (sym same),
        old_second ∙ ap (λ (q : Pair). q.second) (sym same),
      )

-- so it is of an accepted scene
pub list_given_back : (s : Scene) → Accepted s → (k : ℕ) → k < length (pairs s)
    → (old_at (pairs s) k 0 ≡ old_kind (pair_of (get_or (entries (pairs s)) k 0)).kind)
    × (old_at (pairs s) k 1 ≡ (pair_of (get_or (entries (pairs s)) k 0)).first)
    × (old_at (pairs s) k 2 ≡ (pair_of (get_or (entries (pairs s)) k 0)).second)
list_given_back s a k h =
    entry_given_back (pairs s) k h
    (pairs_narrow s a (listed_at (pairs s) k) (at_place (pairs s) k (pair PointTriangle 0 0) h))

-- ---- no two pairs make the same number

-- of the pairs of an accepted scene, listed or not
pub no_two_pairs : (s : Scene) → Accepted s → (p q : Pair) → not_there s p.kind p.first p.second ≡ false
    → not_there s q.kind q.first q.second ≡ false → number p ≡ number q → p ≡ q
no_two_pairs s a p q h k = number_once p q (there_narrow s a p h) (there_narrow s a q k)

-- ---- the numbers of a list rise

kinds_apart : (k l : Kind) → kind_part k < kind_part l → kind_part k + kind_step ≤ kind_part l
unfolding kind_part
kinds_apart PointTriangle PointTriangle h = omega arith
kinds_apart PointTriangle EdgeEdge h = omega arith
kinds_apart EdgeEdge PointTriangle h = omega arith
kinds_apart EdgeEdge EdgeEdge h = omega arith

-- an earlier pair has a smaller number
pub earlier_smaller : (p q : Pair) → Narrow p → Narrow q → Earlier p q → number p < number q
unfolding number
earlier_smaller p q n m (Earlier.by_kind h) =
    omega (arith, kinds_apart p.kind q.kind h, n.first_narrow, n.second_narrow)
earlier_smaller p q n m (Earlier.by_first e h) = omega (arith, n.second_narrow)
earlier_smaller p q n m (Earlier.by_second e f h) = omega arith

pub numbers_rise : (s : Scene) → Accepted s → Rising (λ m n. m < n) (entries (pairs s))
numbers_rise s a =
    map_rising number Earlier (λ m n. m < n) (pairs s)
    (λ p q m n. earlier_smaller p q (pairs_narrow s a p m) (pairs_narrow s a q n))
    (list_is s).rising

-- the same, by places
pub numbers_rise_at : (s : Scene) → Accepted s → (i j : ℕ) → i < j → j < length (pairs s)
    → get_or (entries (pairs s)) i 0 < get_or (entries (pairs s)) j 0
numbers_rise_at s a i j h k =
    rising_places (λ m n. m < n) (entries (pairs s)) (numbers_rise s a) i j 0 h (rw (entries_length (pairs s)) k)
