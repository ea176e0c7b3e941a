-- An entry of the list is taken apart here and nowhere else: the pair of a number, and that it is the pair that was written.
use Rattle.std.specs.Prelude.{ℕ, ◌+◌, ◌*◌, ◌/◌, ◌%◌, ◌≤◌, ◌<◌, true, false, ◌≡◌, ltb, length, get_or}
use mathlib.Core.List.{List, Memᴰ}
use Rattle.std.proofs.Common.{sym, ap, ◌∙◌, arith, lt-ltb, le-ltb}
use Rattle.std.proofs.lemmas.List.{length-map}
use Rattle.sequences.specs.Mapped.{map_at}
use Rattle.sequences.specs.Pick.{pick}
use Rattle.sequences.specs.Rising.{at_place}
use Rattle.sequences.specs.Wrote.{written, written_length, written_in_front}
use Rattle.meaning.specs.List.{Pair, pair, place_step, kind_step, no_number, kind_part, number, entries, room_of}
use Rattle.meaning.specs.declared.Kind.{Kind}
use Rattle.meaning.specs.declared.Kind.TheVariants.{PointTriangle, EdgeEdge}

-- the pair of a number: its kind and its two places
abbrev pub kind_of : ℕ → Kind
kind_of n = pick (ltb n kind_step) PointTriangle EdgeEdge

abbrev pub first_of : ℕ → ℕ
first_of n = n / place_step % place_step

abbrev pub second_of : ℕ → ℕ
second_of n = n % place_step

abbrev pub pair_of : ℕ → Pair
pair_of n = pair (kind_of n) (first_of n) (second_of n)

-- the pair in a place of a buffer
abbrev pub pair_at : List ℕ → ℕ → Pair
pair_at l k = pair_of (get_or l k 0)

pub places_small : (n : ℕ) → (first_of n < place_step) × (second_of n < place_step)
places_small n = (omega arith, omega arith)

-- a pair whose places leave each other room: both are below the step of a place
pub record Narrow (p : Pair) : Type 0 where
  pub first_narrow : p.first < place_step
  pub second_narrow : p.second < place_step

abbrev pub AllNarrow : List Pair → Type 0
AllNarrow ps = (p : Pair) → Memᴰ p ps → Narrow p

-- ---- a number and its pair

pub kind_small : (kind : Kind) → kind_part kind ≤ kind_step
unfolding kind_part
kind_small PointTriangle = omega arith
kind_small EdgeEdge = omega arith

pub number_small : (p : Pair) → Narrow p → number p < no_number
unfolding number
number_small p h = omega (arith, kind_small p.kind, h.first_narrow, h.second_narrow)

own_pair : (kind : Kind) (i j : ℕ) → i < place_step → j < place_step → pair_of (number (pair kind i j)) ≡ pair kind i j
unfolding number kind_part
own_pair PointTriangle i j h k =
    let n : ℕ = 0 + place_step * i + j in
    let first : first_of n ≡ i = omega arith in
    let second : second_of n ≡ j = omega arith in
    let below : ltb n kind_step ≡ true = lt-ltb n kind_step (omega arith) in
    λ t. pair (pick (below t) PointTriangle EdgeEdge) (first t) (second t)
own_pair EdgeEdge i j h k =
    let n : ℕ = kind_step + place_step * i + j in
    let first : first_of n ≡ i = omega arith in
    let second : second_of n ≡ j = omega arith in
    let above : ltb n kind_step ≡ false = le-ltb n kind_step (omega arith) in
    λ t. pair (pick (above t) PointTriangle EdgeEdge) (first t) (second t)

-- the pair of a pair's number is that pair
pub number_back : (p : Pair) → Narrow p → pair_of (number p) ≡ p
number_back p h = own_pair p.kind p.first p.second h.first_narrow h.second_narrow

-- so no two pairs have one number
pub number_once : (p q : Pair) → Narrow p → Narrow q → number p ≡ number q → p ≡ q
number_once p q h k e = sym (number_back p h) ∙ ap pair_of e ∙ number_back q k

-- ---- a list of entries

pub entries_length : (ps : List Pair) → length (entries ps) ≡ length ps
entries_length ps = length-map ps number

-- the pair at a number of the entries is the one that was entered there
pub entries_at : (ps : List Pair) → AllNarrow ps → (k : ℕ) (d : Pair) → k < length ps → pair_at (entries ps) k ≡ get_or ps k d
entries_at ps all k d h = ap pair_of (map_at number ps k d 0 h) ∙ number_back (get_or ps k d) (all (get_or ps k d) (at_place ps k d h))

-- and so it is in a buffer that has the list in front
module _ (ps : List Pair) (o : List ℕ) where
  pub written_at : AllNarrow ps → (k : ℕ) (d : Pair) → k < length ps → pair_at (written (entries ps) o) k ≡ get_or ps k d
  written_at all k d h =
      ap pair_of (written_in_front (entries ps) o k 0 (omega (arith, entries_length ps))) ∙ entries_at ps all k d h

  -- the buffer has that entry
  pub written_room : length ps ≤ room_of o → length ps ≤ room_of (written (entries ps) o)
  written_room h =
      let long = entries_length ps in
      omega (arith, written_length (entries ps) o (omega arith))
