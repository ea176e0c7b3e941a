-- What the program of a series prints for a text: a line for each entry of the log, the count of later hits, the totals over all steps, and last the
-- first step with a hit; or one refusal.
use Rattle.std.specs.Prelude.{ℕ, cond, List, [], ◌∷◌, ◌++◌, ◌≡◌}
use Rattle.decimals.specs.Digits.{digits}
use Rattle.meaning.specs.Limits.{report_room}
use Rattle.meaning.specs.Refusals.{Outcome, given, refused}
use Rattle.meaning.specs.List.{Pair}
use Rattle.meaning.specs.Text.{long_text}
use Rattle.meaning.specs.Report.{kind_word, verdict_word, total_word, report_line, refused_line, OfAllRead, InFront}
use Rattle.meaning.specs.Series.{HitAt, Told}
use Rattle.meaning.specs.SeriesText.{Ended, SeriesIs}
use Rattle.meaning.specs.declared.Settled.TheVariants.{Hit}

-- `later` and `first`
abbrev pub later_word : List ℕ
later_word = 108 ∷ 97 ∷ 116 ∷ 101 ∷ 114 ∷ []

abbrev pub first_word : List ℕ
first_word = 102 ∷ 105 ∷ 114 ∷ 115 ∷ 116 ∷ []

-- `pt` or `ee`, the two places
abbrev pub pair_fields : Pair → List (List ℕ)
pair_fields p = kind_word p.kind ∷ digits p.first ∷ digits p.second ∷ []

-- `hit`, the step, `pt` or `ee`, the two places
abbrev pub hit_line : HitAt → List ℕ
hit_line h = report_line (verdict_word Hit) (digits h.step ∷ pair_fields h.pair)

unfoldable pub hit_lines : List HitAt → List ℕ
hit_lines [] = []
hit_lines (h ∷ hs) = hit_line h ++ hit_lines hs

-- a word and one number
abbrev pub number_line : List ℕ → ℕ → List ℕ
number_line word n = report_line word (digits n ∷ [])

-- listed, hits, misses, touch, apart, over all steps
abbrev pub series_total : Told → List ℕ
series_total t =
    report_line total_word
    (digits t.listed ∷ digits t.hits ∷ digits t.misses ∷ digits t.touches ∷ digits t.aparts ∷ [])

abbrev pub told_lines : Told → List ℕ
told_lines t = hit_lines t.log ++ (number_line later_word t.later ++ (series_total t ++ number_line first_word t.first))

-- a refusal prints its number and its line, or the needed count, or 0
unfoldable pub outcome_lines : Outcome Ended → List ℕ
outcome_lines (given e) = told_lines e.told
outcome_lines (refused n third) = refused_line n third

-- what is printed for a text: 8, or the first faulty line, or 7 for the first step without room with the count that it needs, or what is told. The
-- program has buffers of its own, which are long enough, so that there is no 12
pub record SeriesPrinted (text printed : List ℕ) : Type 0 where
  pub outcome : Outcome Ended
  pub right : cond (long_text text) (outcome ≡ refused 8 0) (SeriesIs text report_room outcome)
  pub lines : printed ≡ outcome_lines outcome

abbrev pub SeriesReported : List ℕ → List ℕ → List ℕ → ℕ → Type 0
SeriesReported text = InFront (SeriesPrinted text)

-- of every text of which that was read
abbrev pub SeriesRead : List ℕ → ℕ → List ℕ → List ℕ → ℕ → Type 0
SeriesRead buffer count o o' n = OfAllRead (λ text. SeriesReported text o o' n) buffer count
