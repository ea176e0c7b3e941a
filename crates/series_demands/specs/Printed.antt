-- A point that falls on a triangle, rests there and comes back, over five steps: the text of that series, and what is printed for it, byte by byte. No
-- other output for this text meets the promise.
use Rattle.std.specs.Prelude.{ℕ, ◌≤◌, ◌≡◌, refl, ℤ, pos}
use mathlib.Core.List.{List, [], ◌∷◌, ◌++◌, flat_map}
use Rattle.std.proofs.Common.{arith}
use Rattle.whole.specs.Vector.{volume, axis}
use Rattle.sequences.specs.Range.{times, over}
use Rattle.sequences.specs.Gather.{gather}
use Rattle.decimals.specs.Digits.{digits, digits_within}
use Rattle.meaning.specs.Limits.{digit_limit, report_room}
use Rattle.meaning.specs.Scene.{Scene, stood_for, some_below}
use Rattle.meaning.specs.Pieces.{piece_count}
use Rattle.meaning.specs.Refusals.{Answers, given, shares}
use Rattle.meaning.specs.Boxes.{meet_on}
use Rattle.meaning.specs.Lines.{after_all, lines_of, Sound}
use Rattle.meaning.specs.List.{pair, pairs}
use Rattle.meaning.specs.Text.{vertex, triangle, letter_of, numbers_of, numeral, further, line_of, Short, late, coordinates_in, ends_in, corners_in, seam_in}
use Rattle.meaning.specs.SceneWords.{byte_of, AllSettled}
use Rattle.meaning.specs.Report.{kind_word, verdict_word, is_one, how_many}
use Rattle.meaning.specs.shown.FirstFault.{first_held, none_of, or_else, first_fault}
use Rattle.meaning.specs.Series.{step_after, steps_from, steps_of, last_from, hits_here, hits_in, hits_from, StepsSettled, first_step, listed_in, total_of, told_of, ToldRight}
use Rattle.meaning.specs.SeriesText.{Item, of, ends, next, item_line, nothing_yet, with_item, six_numbers, ItemFormed, wrong_length, item_checks, series_lines, HoldsSeries, step_room, SeriesIs, read}
use Rattle.meaning.specs.shown.SeriesShown.{place, then_at, falling, words}
use Rattle.meaning.specs.declared.Kind.TheVariants.{PointTriangle}
use Rattle.meaning.specs.declared.Settled.TheVariants.{Hit, Touch}
use Rattle.theory.specs.Reading.{verdict_of, agreeing}
use Rattle.theory.specs.Computed.{piece_verdict, joined, joined_below, point_differences}
use Rattle.exact_signs.specs.BySigns.{keep}
use Rattle.exact_signs.specs.OneWay.{one_way}
use Rattle.corner_laws.specs.Others.{skip}
use Rattle.corner_laws.specs.Filled as Filled
use Rattle.corner_laws.specs.Filled.{slot}
use Rattle.corner_leaf.specs.First.{first_of}
use Rattle.corner_leaf.specs.Answer.{base_in, judged_in, turn_of, otherwise, leaf_of}
use Rattle.corner_search.specs.Sixes.{point_six, six_of}
use Rattle.corner_search.specs.Decided.{by_leaf, touching, settled_by, piece_word, is_touch, pair_word, pair_word_is}
use Rattle.demands.specs.Printed.{bytes_of}
use Rattle.series_laws.specs.Faultless.{EachFormed, no_fault}
use Rattle.series_line.specs.Rendered.{series_readable}
use Rattle.meaning.specs.SeriesLines.{hit_lines, outcome_lines, SeriesPrinted}
use Rattle.series_demands.specs.OnePrinted.{one_printed}

-- the corners stay
abbrev pub resting_lines : List ℕ
resting_lines = bytes_of "v\t0\t0\t0\n" ++ bytes_of "v\t4\t0\t0\n" ++ bytes_of "v\t0\t4\t0\n"

abbrev pub falling_text : List ℕ
falling_text =
    bytes_of "v\t0\t0\t0\t0\t0\t0\n" ++ bytes_of "v\t4\t0\t0\t4\t0\t0\n" ++ bytes_of "v\t0\t4\t0\t0\t4\t0\n" ++ bytes_of "v\t1\t1\t2\t1\t1\t1\n" ++ bytes_of "t\t0\t1\t2\n"
    ++ bytes_of "n\n" ++ resting_lines ++ bytes_of "v\t1\t1\t0\n"
    ++ bytes_of "n\n" ++ resting_lines ++ bytes_of "v\t1\t1\t0\n"
    ++ bytes_of "n\n" ++ resting_lines ++ bytes_of "v\t1\t1\t1\n"
    ++ bytes_of "n\n" ++ resting_lines ++ bytes_of "v\t1\t1\t2\n"

abbrev pub falling_log : List ℕ
falling_log =
    bytes_of "hit\t2\tpt\t3\t0\n" ++ bytes_of "hit\t4\tpt\t3\t0\n" ++ bytes_of "later\t0\n" ++ bytes_of "total\t3\t2\t0\t1\t0\n" ++ bytes_of "first\t2\n"

-- ---- the series

stays : ℤ → ℤ → Item
stays a b = of (vertex (place a b (pos 0)) (place a b (pos 0)))

abbrev block : ℤ → List Item
block h = next ∷ ends (place (pos 0) (pos 0) (pos 0)) ∷ ends (place (pos 4) (pos 0) (pos 0)) ∷ ends (place (pos 0) (pos 4) (pos 0)) ∷ ends (place (pos 1) (pos 1) h) ∷ []

unfoldable pub items : List Item
unfolding stays
items =
    stays (pos 0) (pos 0) ∷ stays (pos 4) (pos 0) ∷ stays (pos 0) (pos 4) ∷ of (vertex (place (pos 1) (pos 1) (pos 2)) (place (pos 1) (pos 1) (pos 1)))
    ∷ of (triangle 0 1 2)
    ∷ block (pos 0) ++ block (pos 0) ++ block (pos 1) ++ block (pos 2)

falling_lines : falling_text ≡ lines_of series_lines items
unfolding bytes_of items numbers_of flat_map item_line line_of letter_of further numeral digits digits_within
falling_lines = refl

-- every number has one digit
six : (1 ≤ digit_limit) × ((1 ≤ digit_limit) × ((1 ≤ digit_limit) × ((1 ≤ digit_limit) × ((1 ≤ digit_limit) × ((1 ≤ digit_limit) × Unit {0})))))
six = (omega arith, (omega arith, (omega arith, (omega arith, (omega arith, (omega arith, tt))))))

three : (1 ≤ digit_limit) × ((1 ≤ digit_limit) × ((1 ≤ digit_limit) × Unit {0}))
three = (omega arith, (omega arith, (omega arith, tt)))

falling_formed : EachFormed series_readable nothing_yet items
unfolding EachFormed items ItemFormed six_numbers with_item Short numbers_of digits digits_within
falling_formed =
    ((refl, six), ((refl, six), ((refl, six), ((refl, six), ((refl, three), (tt, ((refl, three), ((refl, three), ((refl, three), ((refl, three), (tt, ((refl, three), ((refl, three), ((refl, three), ((refl, three), (tt, ((refl, three), ((refl, three), ((refl, three), ((refl, three), (tt, ((refl, three), ((refl, three), ((refl, three), ((refl, three), tt)))))))))))))))))))))))))

falling_sound : Sound series_lines nothing_yet items []
unfolding items first_fault or_else first_held none_of item_checks wrong_length with_item late some_below coordinates_in ends_in corners_in seam_in step_after last_from gather over stood_for
falling_sound = no_fault series_readable nothing_yet 1 items falling_formed refl

falling_holds : HoldsSeries falling_text falling
unfolding items after_all with_item coordinates_in ends_in corners_in seam_in
falling_holds = record { items = items; records = record { sound = falling_sound; lines = falling_lines }; series = refl }

-- ---- its steps and their words

abbrev second : Scene
second = step_after falling.scene (then_at (pos 0))

abbrev third : Scene
third = step_after second (then_at (pos 0))

abbrev fourth : Scene
fourth = step_after third (then_at (pos 1))

listed : (pairs falling.scene ≡ []) × (pairs second ≡ pair PointTriangle 3 0 ∷ []) × (pairs third ≡ pair PointTriangle 3 0 ∷ [])
    × (pairs fourth ≡ pair PointTriangle 3 0 ∷ [])
    × (pairs (step_after fourth (then_at (pos 2))) ≡ [])
unfolding step_after pairs gather over times shares meet_on stood_for
listed = (refl, refl, refl, refl, refl)

falls : AllSettled second (pair PointTriangle 3 0 ∷ []) (Hit ∷ [])
unfolding AllSettled step_after gather over some_below stood_for piece_count piece_verdict joined_below joined point_differences volume verdict_of agreeing pair_word settled_by
falls = ((pair_word_is second PointTriangle 3 0 Hit).1 refl, tt)

comes_back : AllSettled fourth (pair PointTriangle 3 0 ∷ []) (Hit ∷ [])
unfolding AllSettled step_after gather over some_below stood_for piece_count piece_verdict joined_below joined point_differences volume verdict_of agreeing pair_word settled_by
comes_back = ((pair_word_is fourth PointTriangle 3 0 Hit).1 refl, tt)

rests : AllSettled third (pair PointTriangle 3 0 ∷ []) (Touch ∷ [])
unfolding AllSettled step_after gather over some_below stood_for piece_count piece_verdict joined_below joined point_differences volume verdict_of agreeing pair_word is_touch piece_word settled_by touching by_leaf leaf_of otherwise turn_of judged_in base_in first_of skip slot Filled.next axis one_way keep six_of point_six
rests = ((pair_word_is third PointTriangle 3 0 Touch).1 refl, tt)

falling_settled : StepsSettled (steps_of falling) words
unfolding StepsSettled AllSettled steps_from
falling_settled = (
  rw listed.0 tt,
  (rw listed.1 falls, (rw listed.2 rests, (rw listed.3 comes_back, (rw listed.4 tt, tt)))),
)

falling_told : ToldRight falling (told_of falling words)
falling_told = record { words = words; settled = falling_settled; told = refl }

falling_is : SeriesIs falling_text report_room (given (record { series = falling; told = told_of falling words }))
unfolding Answers step_room steps_from
falling_is = read falling falling_holds (rw (listed.0, listed.1, listed.2, listed.3, listed.4) (refl, falling_told))

-- ---- and what is printed

pub falling_printed : SeriesPrinted falling_text falling_log
unfolding outcome_lines bytes_of hit_lines kind_word verdict_word further digits digits_within steps_from step_after pairs gather over times shares meet_on stood_for hits_from hits_in hits_here first_step listed_in total_of how_many is_one byte_of
falling_printed = record { outcome = given (record { series = falling; told = told_of falling words }); right = falling_is; lines = refl }

pub prints_exactly : {printed : List ℕ} → SeriesPrinted falling_text printed → printed ≡ falling_log
prints_exactly p = one_printed p falling_printed
