-- 'Given this on standard input, the report program prints exactly': the scene and the report that document 01 shows, byte by byte, its
-- totals now five. No other report of this text meets the promise.
use Rattle.std.specs.Prelude.{ℕ, ◌≡◌, refl, pos, length, take, drop}
use Prim.Native.Char.{code}
use Prim.Native.String as Strings
use Prim.Native.String.{String}
use mathlib.Core.List.{List, [], ◌∷◌, ◌++◌, flat_map, append-nil}
use Rattle.std.proofs.Common.{sym, ◌∙◌, ap, subst, arith}
use Rattle.std.proofs.Math.Seq.{take-append_seam}
use Rattle.sequences.specs.Range.{times, over}
use Rattle.sequences.specs.Gather.{gather}
use Rattle.sequences.specs.Wrote.{written}
use Rattle.decimals.specs.Digits.{digits, digits_within}
use Rattle.whole.specs.Vector.{volume}
use Rattle.meaning.specs.Scene.{Scene, Accepted, stood_for, some_below}
use Rattle.meaning.specs.Pieces.{piece_count}
use Rattle.meaning.specs.Refusals.{Answers, shares}
use Rattle.meaning.specs.Boxes.{meet_on}
use Rattle.meaning.specs.List.{pair, pairs}
use Rattle.meaning.specs.Lines as Lines
use Rattle.meaning.specs.Lines.{after_all}
use Rattle.meaning.specs.Text.{Entry, vertex, edge, triangle, letter_of, numbers_of, numeral, further, line_of, Short, late, text_of, coordinates_in, ends_in, corners_in, seam_in, scene_from, Holds}
use Rattle.meaning.specs.SceneWords.{byte_of, AllSettled}
use Rattle.meaning.specs.Report.{kind_word, verdict_word, pair_lines, is_one, how_many, total_line, ReportOf, judged, Reported, ReportedRead}
use Rattle.meaning.specs.declared.Kind.TheVariants.{PointTriangle, EdgeEdge}
use Rattle.meaning.specs.declared.Settled.TheVariants.{Hit}
use Rattle.theory.specs.Reading.{verdict_of, agreeing}
use Rattle.theory.specs.Computed.{piece_verdict, point_differences, edge_differences, start_sum, end_sum, joined, joined_below}
use Rattle.corner_search.specs.Decided.{settled_by, pair_word, pair_word_is}
use Rattle.text_scene.specs.Accepted.{text_accepted}
use Rattle.scene_report.specs.OneReport.{one_report}
use Rattle.demands.specs.Table.{at, neg}

unfoldable pub bytes_of : String → List ℕ
bytes_of Strings.[] = []
bytes_of (Strings.◌∷◌ c s) = code c ∷ bytes_of s

abbrev pub printed_text : List ℕ
printed_text =
    bytes_of "v\t0\t0\t0\t0\t0\t0\n" ++ bytes_of "v\t4\t0\t0\t4\t0\t0\n" ++ bytes_of "v\t0\t4\t0\t0\t4\t0\n" ++ bytes_of "v\t1\t1\t1\t1\t1\t-1\n"
    ++ bytes_of "v\t1\t-1\t1\t1\t-1\t-1\n" ++ bytes_of "e\t0\t1\n" ++ bytes_of "e\t3\t4\n" ++ bytes_of "t\t0\t1\t2\n"

abbrev pub printed_report : List ℕ
printed_report = bytes_of "pt\t3\t0\thit\n" ++ bytes_of "ee\t0\t1\thit\n" ++ bytes_of "total\t2\t2\t0\t0\t0\n"

-- ---- the scene

unfoldable pub records : List Entry
records =
    vertex (at (pos 0) (pos 0) (pos 0)) (at (pos 0) (pos 0) (pos 0)) ∷ vertex (at (pos 4) (pos 0) (pos 0)) (at (pos 4) (pos 0) (pos 0))
    ∷ vertex (at (pos 0) (pos 4) (pos 0)) (at (pos 0) (pos 4) (pos 0)) ∷ vertex (at (pos 1) (pos 1) (pos 1)) (at (pos 1) (pos 1) (neg 1))
    ∷ vertex (at (pos 1) (neg 1) (pos 1)) (at (pos 1) (neg 1) (neg 1)) ∷ edge 0 1 ∷ edge 3 4 ∷ triangle 0 1 2 ∷ []

unfoldable pub printed_scene : Scene
unfolding records
printed_scene = scene_from records

pub printed_lines : printed_text ≡ text_of records
unfolding bytes_of records numbers_of flat_map line_of letter_of further numeral digits digits_within
printed_lines = refl

pub printed_holds : Holds printed_text printed_scene
unfolding records printed_scene Lines.Sound Short numbers_of Answers late some_below coordinates_in ends_in corners_in seam_in stood_for digits digits_within
printed_holds = record { entries = records; records = record { sound = (omega arith, tt, (omega arith, tt, (omega arith, tt, (omega arith, tt, (omega arith, tt, (omega arith, tt, (omega arith, tt, (omega arith, tt, tt)))))))); lines = printed_lines }; scene = refl }

pub printed_accepted : Accepted printed_scene
printed_accepted = text_accepted printed_holds

pub printed_pairs : pairs printed_scene ≡ pair PointTriangle 3 0 ∷ pair EdgeEdge 0 1 ∷ []
unfolding records printed_scene after_all coordinates_in ends_in corners_in seam_in stood_for pairs gather over times shares meet_on
printed_pairs = refl

-- ---- the report

both_hit : AllSettled printed_scene (pairs printed_scene) (Hit ∷ Hit ∷ [])
unfolding AllSettled records printed_scene after_all coordinates_in ends_in corners_in seam_in stood_for piece_count piece_verdict joined_below joined point_differences edge_differences start_sum end_sum volume verdict_of agreeing pair_word settled_by
both_hit =
    rw printed_pairs ((pair_word_is printed_scene PointTriangle 3 0 Hit).1 refl, ((pair_word_is printed_scene EdgeEdge 0 1 Hit).1 refl, tt))

pub printed_report_lem : ReportOf printed_text printed_report
unfolding bytes_of pair_lines kind_word verdict_word further digits digits_within how_many is_one byte_of
printed_report_lem =
    let lines : pair_lines (pairs printed_scene) (Hit ∷ Hit ∷ []) ++ total_line (Hit ∷ Hit ∷ []) ≡ printed_report = rw printed_pairs in
    subst (ReportOf printed_text) lines (judged printed_scene (Hit ∷ Hit ∷ []) (omega arith) printed_holds (rw printed_pairs (omega arith)) both_hit)

pub prints_exactly : {report : List ℕ} → ReportOf printed_text report → report ≡ printed_report
prints_exactly r = one_report r printed_report_lem

-- the same in the buffer that is filled: the report stands in front, its length is returned, and the rest is unchanged
pub prints_into : (o o' : List ℕ) (n : ℕ) → Reported printed_text o o' n → (n ≡ length printed_report) × (o' ≡ written printed_report o)
prints_into o o' n p =
    let e : p.report ≡ printed_report = prints_exactly p.right in
    (p.length_is ∙ ap (length {A = ℕ}) e, p.buffer ∙ ap (λ (r : List ℕ). written r o) e)

pub prints_in_front : (o o' : List ℕ) (n : ℕ) → Reported printed_text o o' n → take n o' ≡ printed_report
prints_in_front o o' n p =
    let (long, is) = prints_into o o' n p in
    rw (long, is) (take-append_seam printed_report (drop (length printed_report) o))

-- and from the buffer that the text was read into, with room behind it
pub prints_what_was_read : (buffer o o' : List ℕ) (n : ℕ) → take (length printed_text) buffer ≡ printed_text → ReportedRead buffer (length printed_text) o o' n
    → (n ≡ length printed_report) × (o' ≡ written printed_report o)
prints_what_was_read buffer o o' n front p =
    prints_into o o' n (p printed_text (record { rest = []; front = sym (append-nil (take (length printed_text) buffer) ∙ front); ended = λ below. refl }))
