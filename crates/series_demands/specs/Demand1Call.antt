-- Demand 1 for a series: each refusal exactly where the table has it, in its order, and else the series is told. A refusal changes nothing; after
-- success each stored box is the one worked out from the positions of the last step.
use Rattle.std.specs.Prelude.{ℕ, ◌≤◌, ◌<◌, Bool, true, false, cond, ◌||◌, List, [], ◌∷◌, map, refl, ℤ, ltb, length}
use Rattle.std.proofs.Math.Path.{◌≡◌, ap, subst}
use Rattle.std.proofs.Common.{sym, ◌∙◌, arith, lt-ltb, le-ltb, ltb-true}
use Rattle.answers.specs.Answering.{is_past}
use Rattle.meaning.specs.Limits.{text_limit}
use Rattle.meaning.specs.Scene.{Scene}
use Rattle.meaning.specs.Refusals.{Outcome, given, refused, Check, Answers}
use Rattle.meaning.specs.List.{pairs, room_of}
use Rattle.meaning.specs.Text.{short_buffer, long_text}
use Rattle.meaning.specs.StoredBoxes.{short_boxes, Boxed}
use Rattle.meaning.specs.Series.{Series, steps_of, last_step, Told, ToldRight}
use Rattle.meaning.specs.SeriesText.{HoldsSeries, SeriesFaultyAt, step_room, room_checks, Ended, SeriesIs, faulty, read, last_step_left, list_left}
use Rattle.series_demands.specs.OneSeries.{one_series, series_or_faulty, one_outcome}
use Rattle.meaning.specs.SeriesAnswers.{answer_says}
use Rattle.meaning.specs.declared.SeriesAnswer.{SeriesAnswer}
use Rattle.series_walk.specs.Telling.{first_over, over_refuses}
use Rattle.meaning.specs.SeriesCall.{told_part, counts_part, counts_said, FillsLast, SeriesCalled}

-- where every step has room, a value is given
given_where_room : {A : Type 0} (R : A → Type 0) (room : ℕ) (ss : List Scene) (o : Outcome A) → first_over room ss ≡ 0 → Answers (map (step_room room) ss) R o
    → (a : A) × (o ≡ given a) × R a
unfolding first_over step_room Answers
given_where_room R room [] (given a) h p = (a, refl, p)
given_where_room R room [] (refused n c) h p = absurd p
given_where_room R room (s ∷ ss) o h p = by_room (ltb room (length (pairs s))) refl (given_where_room R room ss o)
  where
    by_room : (b : Bool) → ltb room (length (pairs s)) ≡ b
        → (first_over room ss ≡ 0 → Answers (map (step_room room) ss) R o → (a : _) × (o ≡ given a) × R a)
        → (a : _) × (o ≡ given a) × R a
    by_room true e rest =
        let none : length (pairs s) ≡ 0 = rw e at h in
        absurd (omega (arith, ltb-true room (length (pairs s)) e))
    by_room false e rest = rest (rw e at h) (is_past R (step_room room s) (map (step_room room) ss) o e p)

-- what is told of a series that has room for every step
pub record AllTold (x : Series) (r : SeriesAnswer) (b' : List ℤ) : Type 0 where
  pub told : Told
  pub says : answer_says r ≡ given told
  pub right : ToldRight x told
  pub boxed : Boxed (last_step x) b'

module _ {text : List ℕ} {lent left : Scene} {b b' : List ℤ} {l l' : List ℕ} {r : SeriesAnswer} (h : SeriesCalled text lent left b b' l l' r) where
  said : {n c : ℕ} → h.outcome ≡ refused n c → answer_says r ≡ refused n c
  unfolding told_part
  said e = h.says ∙ ap told_part e

  -- 12: any of the five buffers is short
  pub demand1_series_short : short_boxes b || short_buffer lent ≡ true → answer_says r ≡ refused 12 0
  demand1_series_short s = said (rw s at h.right)

  module _ (wide : short_boxes b || short_buffer lent ≡ false) where
    -- 8: text over 32,768 bytes
    pub demand1_series_long : text_limit < length text → answer_says r ≡ refused 8 0
    demand1_series_long k = said (rw (wide, lt-ltb text_limit (length text) k) at h.right)

    module _ (brief : length text ≤ text_limit) where
      text_is : SeriesIs text (room_of l) h.outcome
      text_is = rw (wide, le-ltb text_limit (length text) brief) at h.right

      -- 9, 10, 11, 13, 2, 3, 15, 4: the first faulty line, with its first fault
      pub demand1_series_line : (n line : ℕ) → SeriesFaultyAt text n line → answer_says r ≡ refused n line
      demand1_series_line n line f = said (one_outcome text (room_of l) h.outcome (refused n line) text_is (faulty n line refl f))

      -- 7: the first step whose list has no room, after all lines
      pub demand1_series_room : (x : Series) → HoldsSeries text x → 0 < first_over (room_of l) (steps_of x)
          → answer_says r ≡ refused 7 (first_over (room_of l) (steps_of x))
      demand1_series_room x k over =
          said (one_outcome text (room_of l) h.outcome (refused 7 (first_over (room_of l) (steps_of x))) text_is
          (read x k (over_refuses (room_of l) (λ (e : Ended). (e.series ≡ x) × ToldRight x e.told) (steps_of x) over)))

      given_from : (x : Series) → HoldsSeries text x → first_over (room_of l) (steps_of x) ≡ 0 → (o : Outcome Ended) → SeriesIs text (room_of l) o
          → (e : Ended) × (o ≡ given e) × ((e.series ≡ x) × ToldRight x e.told)
      given_from x k room o (faulty n line e f) = absurd (series_or_faulty text x n line k f)
      given_from x k room o (read y j a) =
          let same : y ≡ x = one_series text y x j k in
          given_where_room (λ (e : Ended). (e.series ≡ x) × ToldRight x e.told) (room_of l) (steps_of x) o room
          (subst (λ (z : Series). Answers (room_checks (room_of l) z) (λ (e : Ended). (e.series ≡ z) × ToldRight z e.told) o) same a)

      -- else it is told, and each stored box is the one worked out
      pub demand1_series_told : (x : Series) → HoldsSeries text x → first_over (room_of l) (steps_of x) ≡ 0 → AllTold x r b'
      unfolding told_part FillsLast
      demand1_series_told x k room =
          let (e, o, both) = given_from x k room h.outcome text_is in
          let boxes : FillsLast (given e) b b' = subst (λ (z : Outcome Ended). FillsLast z b b') o h.boxes in
          record {
            told = e.told;
            says = h.says ∙ ap told_part o;
            right = both.1;
            boxed = subst (λ (z : Series). Boxed (last_step z) b') both.0 boxes.boxed;
          }

  -- a refusal changes no lent number
  pub unchanged_series : {n c : ℕ} → answer_says r ≡ refused n c → (left ≡ lent) × (b' ≡ b) × (l' ≡ l)
  unfolding told_part last_step_left list_left FillsLast
  unchanged_series {n} {c} e = by_outcome h.outcome (sym h.says ∙ e) h.leaves h.boxes h.list
    where
      by_outcome : (o : Outcome Ended) → told_part o ≡ refused n c → left ≡ last_step_left o lent → FillsLast o b b' → l' ≡ list_left o l
          → (left ≡ lent) × (b' ≡ b) × (l' ≡ l)
      by_outcome (given z) q s f t = let bad : ◌≡◌ {A = ℕ} 0 1 = cc in absurd (omega arith)
      by_outcome (refused m d) q s f t = (s, f, t)
