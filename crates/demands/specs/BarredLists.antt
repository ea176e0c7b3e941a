-- 'Try these against it', of lists: a call that writes nothing, one that fills the list up to its room and refuses after, and one that judges
-- the first pair and copies its verdict.
use Rattle.std.specs.Prelude.{ℕ, List, [], ◌∷◌, ◌++◌, ◌≡◌, refl, pos, length, Err, Ok, Result}
use Rattle.std.proofs.Common.{◌∙◌, arith}
use Rattle.sequences.specs.Range.{times, over}
use Rattle.sequences.specs.Gather.{gather}
use Rattle.whole.specs.Vector.{volume}
use Rattle.meaning.specs.Scene.{Scene, scene_of, Accepted, some_below, stood_for}
use Rattle.meaning.specs.Pieces.{piece_count}
use Rattle.meaning.specs.Refusals.{given, number_of, shares, carrying, outcome_of}
use Rattle.meaning.specs.Boxes.{meet_on}
use Rattle.meaning.specs.List.{pair, pairs, kind_part, number, entries, leaves, Listing}
use Rattle.meaning.specs.SceneWords.{byte_of, AllSettled, SettledScene}
use Rattle.meaning.specs.Text.{coordinates}
use Rattle.meaning.specs.declared.Kind.TheVariants.{PointTriangle}
use Rattle.meaning.specs.declared.Settled.TheVariants.{Hit, Miss}
use Rattle.meaning.specs.declared.Refusal.TheVariants.{NoRoom}
use Rattle.theory.specs.Reading.{verdict_of, agreeing}
use Rattle.theory.specs.Computed.{piece_verdict, point_differences, joined, joined_below}
use Rattle.corner_search.specs.Decided.{settled_by, pair_word, pair_word_is}
use Rattle.demands.specs.Demand1.{demand1_listing, demand1_judging}
use Rattle.demands.specs.Unchanged.{listing_unchanged}
use Rattle.list_words.specs.OneResult.{all_judged_one}
use Rattle.demands.specs.Table.{at, neg}
use Rattle.demands.specs.Printed.{printed_scene, printed_accepted, printed_pairs}
use Rattle.demands.specs.Barred.{lists}
use Rattle.meaning.specs.declared.Refused.{Refused}
use Rattle.answers.specs.Speaking.{one_carrying}

-- ---- a list call that writes nothing

-- the printed scene's list, in a buffer of two nines: pt 3 0 and ee 0 1
pub list_written : (o' : List ℕ) (r : Result ℕ Refused) → Listing printed_scene (9 ∷ 9 ∷ []) o' r
    → (r ≡ Ok 2) × (o' ≡ 3_072 ∷ 1_048_577 ∷ [])
unfolding number kind_part leaves outcome_of
list_written o' r p =
    let made : r ≡ Ok 2 =
    rw printed_pairs at (lists printed_scene _ o' r printed_accepted (rw printed_pairs (omega arith)) p) in
    let buffer : o' ≡ leaves (outcome_of r) (entries (pairs printed_scene)) (9 ∷ 9 ∷ []) = p.buffer in
    (made, rw (made, printed_pairs) at buffer)

-- ---- a list filled up to its room

-- room for one pair: refused with the count needed, and the buffer is as it was
pub list_refused : (o' : List ℕ) (r : Result ℕ Refused) → Listing printed_scene (9 ∷ []) o' r → (r ≡ Err (carrying NoRoom 2)) × (o' ≡ 9 ∷ [])
unfolding outcome_of number_of
list_refused o' r p =
    let table = demand1_listing printed_scene (9 ∷ []) o' r p in
    let says = table.no7.1 (printed_accepted, rw printed_pairs (omega arith)) in
    (one_carrying r (Err (carrying NoRoom 2)) (rw printed_pairs at says), listing_unchanged printed_scene (9 ∷ []) o' r p 7 _ says)

-- ---- the first pair's verdict copied

-- the triangle T and two points: that of case 1, and that of case 2
abbrev two_points : Scene
two_points =
    scene_of
    (coordinates (at (pos 0) (pos 0) (pos 0)) (at (pos 0) (pos 0) (pos 0)) ++ coordinates (at (pos 4) (pos 0) (pos 0)) (at (pos 4) (pos 0) (pos 0))
    ++ coordinates (at (pos 0) (pos 4) (pos 0)) (at (pos 0) (pos 4) (pos 0)) ++ coordinates (at (pos 1) (pos 1) (pos 1)) (at (pos 1) (pos 1) (neg 1))
    ++ coordinates (at (pos 3) (pos 3) (pos 1)) (at (pos 3) (pos 3) (neg 1)))
    [] (0 ∷ 1 ∷ 2 ∷ []) []

two_accepted : Accepted two_points
unfolding some_below stood_for
two_accepted = record { shapely = refl; in_range = refl; known = refl; sewn_well = refl; distinct = refl }

two_pairs : pairs two_points ≡ pair PointTriangle 3 0 ∷ pair PointTriangle 4 0 ∷ []
unfolding pairs gather over times shares meet_on stood_for
two_pairs = refl

hit_then_miss : AllSettled two_points (pairs two_points) (Hit ∷ Miss ∷ [])
unfolding AllSettled stood_for piece_count piece_verdict joined_below joined point_differences volume verdict_of agreeing pair_word settled_by
hit_then_miss = rw two_pairs ((pair_word_is two_points PointTriangle 3 0 Hit).1 refl, ((pair_word_is two_points PointTriangle 4 0 Miss).1 refl, tt))

-- the bytes of a hit and of a miss
pub verdicts_written : (o o' b' : List ℕ) (r : Result ℕ Refused) → length o ≡ 2 → SettledScene two_points o o' (9 ∷ 9 ∷ []) b' r → b' ≡ 0 ∷ 1 ∷ []
unfolding leaves byte_of
verdicts_written o o' b' r long p =
    let says : outcome_of r ≡ given 2 =
    ((demand1_judging two_points o o' (9 ∷ 9 ∷ []) b' r p).listed 2).1 (two_accepted, rw two_pairs (omega arith, refl)) in
    let same : p.words ≡ Hit ∷ Miss ∷ [] = all_judged_one two_points (pairs two_points) p.words (Hit ∷ Miss ∷ []) p.right hit_then_miss in
    p.bytes ∙ rw (says, same)
