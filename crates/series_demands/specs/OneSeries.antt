-- A text is one series, or has one first faulty line with one fault; and its outcome is one.
use Rattle.std.specs.Prelude.{ℕ, Bool, true, false, cond, List, [], ◌∷◌, ◌≡◌, refl}
use Rattle.std.proofs.Common.{sym, ap, ◌∙◌, subst}
use Rattle.meaning.specs.Scene.{Scene}
use Rattle.meaning.specs.Refusals.{Outcome, given, refused, Answers}
use Rattle.meaning.specs.Lines.{after_all}
use Rattle.meaning.specs.Text.{short_buffer, long_text}
use Rattle.answers.specs.Answering.{one_answer}
use Rattle.text_laws.specs.Unique.{records_unique, sound_or_faulty, faulty_unique}
use Rattle.meaning.specs.Series.{Series, Told, ToldRight}
use Rattle.meaning.specs.SeriesText.{Item, nothing_yet, series_so_far, series_lines, HoldsSeries, SeriesFaultyAt, room_checks, Ended, SeriesIs, faulty, read, SeriesOutcome}
use Rattle.series_line.specs.Rendered.{series_readable}
use Rattle.series_demands.specs.OneTold.{one_told}

pub one_series : (text : List ℕ) (x y : Series) → HoldsSeries text x → HoldsSeries text y → x ≡ y
one_series text x y h k =
    h.series
    ∙ ap (λ (rs : List Item). series_so_far (after_all series_lines nothing_yet rs)) (records_unique series_readable h.records k.records)
    ∙ sym k.series

-- a text of a series has no faulty line
pub series_or_faulty : (text : List ℕ) (x : Series) (n line : ℕ) → HoldsSeries text x → SeriesFaultyAt text n line → ⊥
series_or_faulty text x n line h k = sound_or_faulty series_readable h.records k

one_ended : (x : Series) (e f : Ended) → (e.series ≡ x) × ToldRight x e.told → (f.series ≡ x) × ToldRight x f.told → e ≡ f
one_ended x e f h k =
    let series : e.series ≡ f.series = h.0 ∙ sym k.0 in
    let told : e.told ≡ f.told = one_told x e.told f.told h.1 k.1 in
    λ i. record { series = series i; told = told i }

pub one_outcome : (text : List ℕ) (room : ℕ) (o o' : Outcome Ended) → SeriesIs text room o → SeriesIs text room o' → o ≡ o'
one_outcome text room o o' (faulty n line e h) (faulty m place f k) =
    let (a, b) = faulty_unique series_readable h k in
    e ∙ (λ i. refused (a i) (b i)) ∙ sym f
one_outcome text room o o' (faulty n line e h) (read y k a) = absurd (series_or_faulty text y n line k h)
one_outcome text room o o' (read x h a) (faulty m place f k) = absurd (series_or_faulty text x m place h k)
one_outcome text room o o' (read x h a) (read y k b) =
    let same : y ≡ x = one_series text y x k h in
    let here : Answers (room_checks room x) (λ (e : Ended). (e.series ≡ x) × ToldRight x e.told) o' =
    subst (λ (z : Series). Answers (room_checks room z) (λ (e : Ended). (e.series ≡ z) × ToldRight z e.told) o') same b in
    one_answer (λ (e : Ended). (e.series ≡ x) × ToldRight x e.told) (one_ended x) (room_checks room x) o o' a here

-- of a call: 12, 8, then the text
pub one_series_outcome : (text : List ℕ) (lent : Scene) (room : ℕ) (o o' : Outcome Ended) → SeriesOutcome text lent room o → SeriesOutcome text lent room o'
    → o ≡ o'
one_series_outcome text lent room o o' = by_buffers (short_buffer lent) (long_text text)
  where
    by_buffers : (b c : Bool) → cond b (o ≡ refused 12 0) (cond c (o ≡ refused 8 0) (SeriesIs text room o))
        → cond b (o' ≡ refused 12 0) (cond c (o' ≡ refused 8 0) (SeriesIs text room o')) → o ≡ o'
    by_buffers true c h k = h ∙ sym k
    by_buffers false true h k = h ∙ sym k
    by_buffers false false h k = one_outcome text room o o' h k
