-- Small series, shown: the steps, the log, and each way in which a block can be wrong. Nothing here is to be believed; it holds the definitions to
-- what they are for.
use Rattle.std.specs.Prelude.{ℕ, List, [], ◌∷◌, ◌++◌, map, ◌≡◌, refl, ℤ, pos, replicate}
use Rattle.std.proofs.Common.{arith, true≢false, sym}
use Rattle.whole.specs.Vector.{Vector}
use Rattle.decimals.specs.Digits.{digits, digits_within}
use Rattle.sequences.specs.Gather.{gather}
use Rattle.sequences.specs.Range.{over, times}
use Rattle.meaning.specs.Scene.{scene_of, stood_for, some_below}
use Rattle.meaning.specs.Boxes.{meet_on}
use Rattle.meaning.specs.Refusals.{Outcome, given, refused, shares}
use Rattle.meaning.specs.List.{pair, pairs, kind_part, number}
use Rattle.meaning.specs.SceneWords.{byte_of}
use Rattle.meaning.specs.Report.{is_one, how_many}
use Rattle.meaning.specs.Text.{vertex, edge, triangle, seam, coordinates, numbers_of, Short, coordinates_in, ends_in, corners_in, seam_in, late}
use Rattle.meaning.specs.declared.Kind.TheVariants.{PointTriangle}
use Rattle.meaning.specs.declared.Settled.{Settled}
use Rattle.meaning.specs.declared.Settled.TheVariants.{Hit, Touch}
use Rattle.meaning.specs.Series.{Series, step_after, steps_from, last_from, steps_of, HitAt, hit_at, hits_here, hits_in, hits_from, log_of, later_of, first_step, listed_in, total_of, told_of}
use Rattle.meaning.specs.SeriesText.{Item, of, ends, next, nothing_yet, with_item, six_numbers, ItemFormed, wrong_length, item_checks, series_lines, SeriesFaultyAt, Ended, SeriesIs, faulty, list_left}
use Rattle.meaning.specs.shown.FirstFault.{first_held, none_of, or_else, first_fault}

abbrev pub height : ℕ → Vector
height h = record { x = pos 0; y = pos 0; z = pos h }

-- a vertex that goes from one height to another, and one that goes on to a height
abbrev pub v : ℤ → ℤ → Item
v a b = of (vertex (record { x = pos 0; y = pos 0; z = a }) (record { x = pos 0; y = pos 0; z = b }))

abbrev pub on : ℤ → Item
on h = ends (record { x = pos 0; y = pos 0; z = h })

abbrev pub o : ℤ
o = pos 0

-- past the range of a coordinate
abbrev pub too_far : ℤ
too_far = pos 524_288

-- a line of each kind has its form: a vertex of six numbers, the `n` below it, and a vertex of three numbers below that
pub items_formed : ItemFormed nothing_yet (v o o) × ItemFormed nothing_yet next × ItemFormed (with_item nothing_yet next) (on o)
unfolding ItemFormed six_numbers with_item Short numbers_of digits digits_within
items_formed = (
  (refl, (omega arith, (omega arith, (omega arith, (omega arith, (omega arith, (omega arith, tt))))))),
  tt,
  (refl, (omega arith, (omega arith, (omega arith, tt)))),
)

abbrev pub fault_of : List Item → Outcome (Unit {0})
fault_of is = first_fault series_lines nothing_yet 1 is

-- ---- texts, and the first fault of each with its line

pub record Row : Type 0 where
  pub items : List Item
  pub says : Outcome (Unit {0})

abbrev pub row : List Item → Outcome (Unit {0}) → Row
row is o = record { items = is; says = o }

abbrev pub table : List Row
table =
    -- no line, and one step
    row ([]) (given tt)
    ∷ row (v o o ∷ []) (given tt)
    -- a block of as many lines as vertices; and one more
    ∷ row (v o o ∷ v o o ∷ next ∷ on o ∷ on o ∷ []) (given tt)
    ∷ row (v o o ∷ next ∷ on o ∷ next ∷ on o ∷ []) (given tt)
    -- with no vertices each `n` is a step; a `v` line is one too many there
    ∷ row (next ∷ next ∷ []) (given tt)
    ∷ row (next ∷ on o ∷ []) (refused 13 2)
    -- 13 at the first line too many, its own 2 after it
    ∷ row (v o o ∷ next ∷ on o ∷ on o ∷ on o ∷ []) (refused 13 4)
    ∷ row (v o o ∷ next ∷ on o ∷ on too_far ∷ []) (refused 13 4)
    -- 13 at the `n` that comes too soon
    ∷ row (v o o ∷ v o o ∷ next ∷ on o ∷ next ∷ on o ∷ on o ∷ []) (refused 13 5)
    ∷ row (v o o ∷ next ∷ next ∷ on o ∷ []) (refused 13 3)
    -- 13 at the last line where the text ends too soon, before that line's 2, also where it is the `n`
    ∷ row (v o o ∷ v o o ∷ next ∷ on o ∷ []) (refused 13 4)
    ∷ row (v o o ∷ v o o ∷ next ∷ on too_far ∷ []) (refused 13 4)
    ∷ row (v o o ∷ next ∷ []) (refused 13 2)
    ∷ row (v o o ∷ next ∷ on o ∷ next ∷ []) (refused 13 4)
    -- 2 in a line above comes first
    ∷ row (v o o ∷ v o o ∷ v o o ∷ next ∷ on too_far ∷ on o ∷ []) (refused 2 5)
    ∷ row (v o o ∷ next ∷ on too_far ∷ []) (refused 2 3)
    ∷ row (v o too_far ∷ next ∷ []) (refused 2 1)
    -- 10 for any other record after an `n`, in an unfinished block and as the last line too
    ∷ row (v o o ∷ v o o ∷ next ∷ of (edge 0 1) ∷ on o ∷ on o ∷ []) (refused 10 4)
    ∷ row (v o o ∷ v o o ∷ next ∷ on o ∷ of (edge 0 0) ∷ []) (refused 10 5)
    ∷ row (v o o ∷ next ∷ on o ∷ of (triangle 0 1 2) ∷ []) (refused 10 4)
    ∷ row (v o o ∷ next ∷ of (seam 0 0) ∷ []) (refused 10 3)
    -- 15 at the last `v` line of the block, after its own 2; two that stay together are no fault
    ∷ row (v o o ∷ v o o ∷ of (seam 1 0) ∷ next ∷ on (pos 1) ∷ on (pos 1) ∷ []) (given tt)
    ∷ row (v o o ∷ v o o ∷ of (seam 1 0) ∷ next ∷ on o ∷ on (pos 1) ∷ []) (refused 15 6)
    ∷ row (v o o ∷ v o o ∷ v o o ∷ of (seam 1 0) ∷ next ∷ on o ∷ on (pos 1) ∷ on o ∷ []) (refused 15 8)
    ∷ row (v o o ∷ v o o ∷ of (seam 1 0) ∷ next ∷ on o ∷ on too_far ∷ []) (refused 2 6)
    -- what comes together again is together: the starts of a step are the last ends
    ∷ row (v o o ∷ v o o ∷ of (seam 1 0) ∷ next ∷ on (pos 1) ∷ on (pos 1) ∷ next ∷ on o ∷ on (pos 2) ∷ []) (refused 15 9)
    ∷ []

unfoldable pub AsTold : List Row → Type 0
AsTold [] = Unit {0}
AsTold (r ∷ rs) = (fault_of r.items ≡ r.says) × AsTold rs

pub as_told : AsTold table
unfolding AsTold first_fault or_else first_held none_of item_checks wrong_length with_item late some_below coordinates_in ends_in corners_in seam_in step_after last_from gather over
as_told = (refl, (refl, (refl, (refl, (refl, (refl, (refl, (refl, (refl, (refl, (refl, (refl, (refl, (refl, (refl, (refl, (refl, (refl, (refl, (refl, (refl, (refl, (refl, (refl, (refl, (refl, tt))))))))))))))))))))))))))

-- ---- the form goes by place: 9 for six numbers in a block, and for three before the first `n`

pub six_in_a_block : (p q : Vector) → ItemFormed (with_item nothing_yet next) (of (vertex p q)) → ⊥
unfolding ItemFormed with_item six_numbers
six_in_a_block p q f = true≢false f.0

pub three_before : (p : Vector) → ItemFormed nothing_yet (ends p) → ⊥
unfolding ItemFormed
three_before p f = true≢false (sym f.0)

-- ---- each step starts where the last ended

abbrev pub two_blocks : Series
two_blocks = record {
  scene = scene_of (coordinates (height 0) (height 1) ++ coordinates (height 5) (height 6)) [] [] [];
  blocks = (pos 0 ∷ pos 0 ∷ pos 2 ∷ pos 0 ∷ pos 0 ∷ pos 7 ∷ []) ∷ (pos 0 ∷ pos 0 ∷ pos 3 ∷ pos 0 ∷ pos 0 ∷ pos 8 ∷ []) ∷ [];
}

pub steps_shown : steps_of two_blocks ≡
    scene_of (coordinates (height 0) (height 1) ++ coordinates (height 5) (height 6)) [] [] []
    ∷ scene_of (coordinates (height 1) (height 2) ++ coordinates (height 6) (height 7)) [] [] []
    ∷ scene_of (coordinates (height 2) (height 3) ++ coordinates (height 7) (height 8)) [] [] []
    ∷ []
unfolding steps_from step_after gather over
steps_shown = refl

-- ---- the log of 66 hits holds the first 64 and counts two; the first cause stays

abbrev pub hit : ℕ → HitAt
hit n = hit_at n (pair PointTriangle 0 0)

abbrev pub many : List HitAt
many = hit 3 ∷ replicate 63 (hit 4) ++ (hit 5 ∷ hit 6 ∷ [])

pub log_shown : log_of many ≡ hit 3 ∷ replicate 63 (hit 4)
log_shown = refl

pub later_shown : later_of many ≡ 2
later_shown = refl

pub first_shown : (first_step many ≡ 3) × (first_step [] ≡ 0)
unfolding first_step
first_shown = (refl, refl)

-- ---- a point that falls on a triangle, rests there, and comes back: the hits of the steps, and what is told of them

abbrev pub place : ℤ → ℤ → ℤ → Vector
place a b c = record { x = a; y = b; z = c }

abbrev pub corners : List ℤ
corners =
    coordinates (place (pos 0) (pos 0) (pos 0)) (place (pos 0) (pos 0) (pos 0))
    ++ coordinates (place (pos 4) (pos 0) (pos 0)) (place (pos 4) (pos 0) (pos 0))
    ++ coordinates (place (pos 0) (pos 4) (pos 0)) (place (pos 0) (pos 4) (pos 0))

-- the next ends of the three corners, which stay, and of the point
abbrev pub then_at : ℤ → List ℤ
then_at h = pos 0 ∷ pos 0 ∷ pos 0 ∷ pos 4 ∷ pos 0 ∷ pos 0 ∷ pos 0 ∷ pos 4 ∷ pos 0 ∷ pos 1 ∷ pos 1 ∷ h ∷ []

abbrev pub falling : Series
falling = record {
  scene = scene_of (corners ++ coordinates (place (pos 1) (pos 1) (pos 2)) (place (pos 1) (pos 1) (pos 1))) [] (0 ∷ 1 ∷ 2 ∷ []) [];
  blocks = then_at (pos 0) ∷ then_at (pos 0) ∷ then_at (pos 1) ∷ then_at (pos 2) ∷ [];
}

-- it is listed in steps 2, 3 and 4; hit, touch and hit are the words there
abbrev pub words : List (List Settled)
words = [] ∷ (Hit ∷ []) ∷ (Touch ∷ []) ∷ (Hit ∷ []) ∷ [] ∷ []

pub listed_shown : map pairs (steps_of falling) ≡ [] ∷ (pair PointTriangle 3 0 ∷ []) ∷ (pair PointTriangle 3 0 ∷ []) ∷ (pair PointTriangle 3 0 ∷ []) ∷ [] ∷ []
unfolding steps_from step_after pairs gather over times shares meet_on stood_for
listed_shown = refl

pub told_shown : told_of falling words ≡ record {
  log = hit_at 2 (pair PointTriangle 3 0) ∷ hit_at 4 (pair PointTriangle 3 0) ∷ [];
  later = 0;
  listed = 3;
  hits = 2;
  misses = 0;
  touches = 1;
  aparts = 0;
  first = 2;
}
unfolding steps_from step_after pairs gather over times shares meet_on stood_for hits_from hits_in hits_here first_step listed_in total_of how_many is_one byte_of
told_shown = refl

-- ---- the list buffer: the list of the last step in front, and behind it what stood there, nothing of an earlier step

-- the point leaves the triangle: it is listed in steps 1 and 2, and no more in step 3
abbrev pub leaving : List (List ℤ) → Ended
leaving blocks =
    let x : Series = record {
      scene = scene_of (corners ++ coordinates (place (pos 1) (pos 1) (pos 1)) (place (pos 1) (pos 1) (pos 0))) [] (0 ∷ 1 ∷ 2 ∷ []) [];
      blocks = blocks;
    } in
    record { series = x; told = told_of x [] }

pub list_shown : (list_left (given (leaving (then_at (pos 1) ∷ []))) (5 ∷ 6 ∷ []) ≡ 3_072 ∷ 6 ∷ [])
    × (list_left (given (leaving (then_at (pos 1) ∷ then_at (pos 2) ∷ []))) (5 ∷ 6 ∷ []) ≡ 5 ∷ 6 ∷ [])
unfolding list_left number kind_part last_from step_after pairs gather over times shares meet_on stood_for
list_shown = (refl, refl)

-- ---- a fault of a line is answered whatever the room, so also where no step has any

pub fault_before_room : (text : List ℕ) (room n line : ℕ) → SeriesFaultyAt text n line → SeriesIs text room (refused n line)
fault_before_room text room n line f = faulty n line refl f
