-- A series of a text that is not too long has few steps, its steps few pairs, and its text few lines: each is below 2^32, and a place is below 2^10.
use Rattle.std.specs.Prelude.{ℕ, ◌+◌, ◌≤◌, ◌<◌, ◌||◌, ◌≡◌, refl, ℤ, length}
use mathlib.Core.List.{List, [], ◌∷◌, map, Memᴰ}
use Rattle.std.proofs.Common.{sym, ap, ◌∙◌, subst, arith, length-append, ltb-false}
use Rattle.meaning.specs.Limits.{text_limit}
use Rattle.meaning.specs.Scene.{Scene}
use Rattle.meaning.specs.Refusals.{Outcome, given, refused, Check, Answers}
use Rattle.meaning.specs.Lines.{lines_of}
use Rattle.meaning.specs.List.{pairs}
use Rattle.meaning.specs.Text.{short_buffer, long_text}
use Rattle.meaning.specs.StoredBoxes.{short_boxes}
use Rattle.meaning.specs.Series.{Series, steps_of, last_step, HitAt, ToldRight}
use Rattle.meaning.specs.SeriesText.{nothing_yet, series_lines, HoldsSeries, SeriesFaultyAt, step_room, Ended, SeriesIs, faulty, read}
use Rattle.answers.specs.Answering.{is_refused, is_past, is_given}
use Rattle.list_entries.specs.Entries.{Narrow}
use Rattle.list_pairs.specs.Sizes.{few_pairs}
use Rattle.text_laws.specs.Unique.{records_few}
use Rattle.answers.specs.Deciding.{holds_or_not}
use Rattle.series_laws.specs.Longer.{steps_count, last_among, blocks_few}
use Rattle.series_line.specs.Rendered.{series_readable}
use Rattle.series_laws.specs.AllAccepted.{EachAccepted, steps_accepted}
use Rattle.meaning.specs.SeriesCall.{BoxedSeries}
use Rattle.meaning.specs.Numbers.{upper}
use Rattle.c_numbers.specs.Small.{line_in}

-- ---- no more steps than bytes, and one

module _ {text : List ℕ} {x : Series} (h : HoldsSeries text x) where
  pub steps_few : length (steps_of x) ≤ length text + 1
  steps_few =
      let few : length x.blocks ≤ 0 + length h.items =
      subst (λ (y : Series). length y.blocks ≤ 0 + length h.items) (sym h.series) (blocks_few nothing_yet h.items) in
      omega (arith, few, steps_count x.scene x.blocks, records_few series_readable h.items, ap length h.records.lines)

  pub last_few : length (pairs (last_step x)) < upper
  last_few = omega (arith, few_pairs (last_step x) (steps_accepted h (last_step x) (last_among x.scene x.blocks)))

pub line_few : {text : List ℕ} {n line : ℕ} → SeriesFaultyAt text n line → line ≤ length text + 1
line_few h =
    omega (
      arith,
      h.place,
      records_few series_readable h.above,
      ap length h.lines ∙ length-append (lines_of series_lines h.above) h.below,
    )

-- ---- an entry of the log

-- its step and its places have room in a row
pub record Fits (h : HitAt) : Type 0 where
  pub step : h.step < upper
  pub places : Narrow h.pair

-- ---- what a refusal carries

room_carries : {A : Type 0} (R : A → Type 0) (room : ℕ) (ss : List Scene) → EachAccepted ss → (n c : ℕ) → Answers (map (step_room room) ss) R (refused n c) → c < upper
unfolding Answers step_room
room_carries R room [] all n c a = absurd a
room_carries R room (s ∷ ss) all n c a =
    holds_or_not (step_room room s).holds
    (λ h.
    let e : refused n c ≡ refused 7 (length (pairs s)) = is_refused R (step_room room s) (map (step_room room) ss) (refused n c) h a in
    let same : c ≡ length (pairs s) = cc in
    omega (arith, same, few_pairs s (all s (mathlib.Core.List.Memᴰ.head refl))))
    (λ h.
    room_carries R room ss (λ t m. all t (mathlib.Core.List.Memᴰ.tail m)) n c (is_past R (step_room room s) (map (step_room room) ss) (refused n c) h a))

series_carries : (text : List ℕ) (room : ℕ) (o : Outcome Ended) → length text ≤ text_limit → SeriesIs text room o → line_in o < upper
unfolding line_in
series_carries text room o h (faulty n line e f) = rw e (omega (arith, line_few f))
series_carries text room (given z) h (read x k a) = omega arith
series_carries text room (refused n c) h (read x k a) = room_carries _ room (steps_of x) (steps_accepted k) n c a

-- ---- what the call was asked

right_of : {A : Type 0} (R : A → Type 0) (ks : List Check) (a : A) → Answers ks R (given a) → R a
unfolding Answers
right_of R [] a p = p
right_of R (k ∷ ks) a p = right_of R ks a (is_given R k ks a p).1

-- a series that is told is that of the text, which is not too long
pub record TextOf (text : List ℕ) (e : Ended) : Type 0 where
  pub brief : length text ≤ text_limit
  pub holds : HoldsSeries text e.series
  pub right : ToldRight e.series e.told

text_of : (text : List ℕ) (room : ℕ) (e : Ended) → length text ≤ text_limit → SeriesIs text room (given e) → TextOf text e
text_of text room e h (faulty n line q f) = let bad : ◌≡◌ {A = ℕ} 0 1 = cc in absurd (omega arith)
text_of text room e h (read x k a) =
    let both : (e.series ≡ x) × ToldRight x e.told = right_of (λ (z : Ended). (z.series ≡ x) × ToldRight x z.told) _ e a in
    record {
      brief = h;
      holds = subst (HoldsSeries text) (sym both.0) k;
      right = subst (λ (y : Series). ToldRight y e.told) (sym both.0) both.1;
    }

module _ (text : List ℕ) (lent : Scene) (b : List ℤ) (room : ℕ) where
  by_text : (o : Outcome Ended) {P : Type 0} → BoxedSeries text lent b room o → ((n : ℕ) → o ≡ refused n 0 → P)
      → (length text ≤ text_limit → SeriesIs text room o → P)
      → P
  by_text o p early then =
      holds_or_not (short_boxes b || short_buffer lent)
      (λ h. early 12 (rw h at p))
      (λ h.
      holds_or_not (long_text text)
      (λ k. early 8 (rw (h, k) at p))
      (λ k. then (ltb-false text_limit (length text) k) (rw (h, k) at p)))

  pub carries_few : (o : Outcome Ended) → BoxedSeries text lent b room o → line_in o < upper
  unfolding line_in
  carries_few o p = by_text o p (λ n e. rw e (omega arith)) (series_carries text room o)

  pub told_text : (e : Ended) → BoxedSeries text lent b room (given e) → TextOf text e
  told_text e p = by_text (given e) p (λ n q. let bad : ◌≡◌ {A = ℕ} 0 1 = cc in absurd (omega arith)) (text_of text room e)
