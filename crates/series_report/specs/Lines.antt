-- A line is its parts, one behind the other, and no line is long; the lines of a log are those of its entries, one by one.
use Rattle.std.specs.Prelude.{ℕ, ◌+◌, ◌≤◌, ◌<◌, ◌^◌, min, List, [], ◌∷◌, ◌++◌, map, ◌≡◌, refl, length, take, get_or}
use Rattle.std.proofs.Common.{append_assoc, append-nil, sym, ap, ◌∙◌, ⊎_elim, arith, length-append, take_all}
use Rattle.decimals.specs.Digits.{digits}
use Rattle.decimals.specs.Value.{digits_length_u64}
use Rattle.sequences.specs.Parts.{take_next}
use Rattle.sequences.specs.Range.{le_or_lt}
use Rattle.meaning.specs.Text.{tab, line_feed, further}
use Rattle.meaning.specs.List.{Pair}
use Rattle.meaning.specs.Report.{kind_word, verdict_word, report_line}
use Rattle.meaning.specs.Series.{HitAt, log_limit, Told}
use Rattle.report_words.specs.Lines.{kind_short}
use Rattle.meaning.specs.SeriesAnswers.{hit_of}
use Rattle.meaning.specs.declared.StepHit.{StepHit}
use Rattle.meaning.specs.declared.Log.{Log}
use Rattle.meaning.specs.SeriesLines.{later_word, first_word, pair_fields, hit_line, hit_lines, number_line, series_total, told_lines}

abbrev pub hit_word : List ℕ
hit_word = 104 ∷ 105 ∷ 116 ∷ []

-- the parts as they are written
pub pair_parts : (p : Pair)
    → (((tab ∷ []) ++ kind_word p.kind) ++ (tab ∷ digits p.first)) ++ (tab ∷ digits p.second) ≡ further tab (pair_fields p)
unfolding further
pair_parts p = simp (append_assoc, append-nil)

pub hit_parts : (h : HitAt) → ((hit_word ++ (tab ∷ digits h.step)) ++ further tab (pair_fields h.pair)) ++ (line_feed ∷ []) ≡ hit_line h
unfolding further verdict_word
hit_parts h = simp append-nil

pub number_parts : (w : List ℕ) (n : ℕ) → (w ++ (tab ∷ digits n)) ++ (line_feed ∷ []) ≡ number_line w n
unfolding further
number_parts w n = simp (append_assoc, append-nil)

pub told_parts : (t : Told) → ((hit_lines t.log ++ number_line later_word t.later) ++ series_total t) ++ number_line first_word t.first ≡ told_lines t
told_parts t = grouped (hit_lines t.log) (number_line later_word t.later) (series_total t) (number_line first_word t.first)
  where
    grouped : (a b c d : List ℕ) → ((a ++ b) ++ c) ++ d ≡ a ++ (b ++ (c ++ d))
    grouped a b c d = simp append_assoc

-- ---- no line is long

pub pair_short : (p : Pair) → p.first < 2 ^ 64 → p.second < 2 ^ 64 → length (further tab (pair_fields p)) ≤ 45
unfolding further
pair_short p f s =
    simp length-append
    (omega (arith, kind_short p.kind, digits_length_u64 p.first f, digits_length_u64 p.second s))

pub hit_short : (h : HitAt) → h.step < 2 ^ 64 → h.pair.first < 2 ^ 64 → h.pair.second < 2 ^ 64 → length (hit_line h) ≤ 70
unfolding further verdict_word
hit_short h n f s =
    simp length-append
    (omega (
      arith,
      kind_short h.pair.kind,
      digits_length_u64 h.step n,
      digits_length_u64 h.pair.first f,
      digits_length_u64 h.pair.second s,
    ))

pub number_short : (w : List ℕ) (n : ℕ) → n < 2 ^ 64 → length (number_line w n) ≤ length w + 22
unfolding further
number_short w n h = simp length-append (omega (arith, digits_length_u64 n h))

pub total_short : (w : List ℕ) (a b c d e : ℕ) → a < 2 ^ 64 → b < 2 ^ 64 → c < 2 ^ 64 → d < 2 ^ 64 → e < 2 ^ 64
    → length (report_line w (digits a ∷ digits b ∷ digits c ∷ digits d ∷ digits e ∷ [])) ≤ length w + 106
unfolding further
total_short w a b c d e ha hb hc hd he =
    simp length-append
    (omega (
      arith,
      digits_length_u64 a ha,
      digits_length_u64 b hb,
      digits_length_u64 c hc,
      digits_length_u64 d hd,
      digits_length_u64 e he,
    ))

-- ---- the lines of a log, entry by entry

abbrev pub lines_of : List StepHit → List ℕ
lines_of hs = hit_lines (map hit_of hs)

one_more : (hs : List StepHit) (h : StepHit) → lines_of (hs ++ (h ∷ [])) ≡ lines_of hs ++ hit_line (hit_of h)
unfolding hit_lines
one_more [] h = append-nil (hit_line (hit_of h))
one_more (g ∷ hs) h =
    ap (λ (l : List ℕ). hit_line (hit_of g) ++ l) (one_more hs h)
    ∙ sym (append_assoc (hit_line (hit_of g)) (lines_of hs) (hit_line (hit_of h)))

pub lines_none : (hs : List StepHit) → lines_of (take 0 hs) ≡ []
unfolding hit_lines
lines_none hs = refl

pub lines_next : (hs : List StepHit) (k : ℕ) (d : StepHit) → k < length hs
    → lines_of (take k hs) ++ hit_line (hit_of (get_or hs k d)) ≡ lines_of (take (k + 1) hs)
lines_next hs k d below =
    sym (one_more (take k hs) (get_or hs k d)) ∙ ap lines_of (sym (take_next hs k d below))

-- a log has no more entries than it has room
pub held_all : (l : Log) → length l.hits ≡ log_limit → lines_of (take (min l.held log_limit) l.hits) ≡ lines_of (take l.held l.hits)
held_all l long =
    ⊎_elim
    (λ few. let e : min l.held log_limit ≡ l.held = omega arith in ap (λ (n : ℕ). lines_of (take n l.hits)) e)
    (λ many.
    ap lines_of (take_all (min l.held log_limit) l.hits (omega (arith, long)) ∙ sym (take_all l.held l.hits (omega (arith, long)))))
    (le_or_lt l.held log_limit)
