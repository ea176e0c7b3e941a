-- How the answer of the call is shown right, whichever way it comes about.
use Rattle.std.specs.Prelude.{ℕ, ◌*◌, ◌≤◌, ◌<◌, Bool, true, false, ◌||◌, List, [], ◌∷◌, ◌++◌, ◌≡◌, ℤ, ltb, take, drop, Err, Ok, Result}
use Rattle.std.proofs.Math.Path.{refl, sym, ap, subst}
use Rattle.std.proofs.Common.{◌∙◌, arith, length-take-le, take_at}
use Rattle.std.proofs.Math.ListN.{length}
use borrow.Author.Tests.{lt-ltb, le-ltb, ltb-true, ltb-false}
use Rattle.sequences.specs.Wrote.{written}
use Rattle.answers.specs.Below.{or_left, or_rest}
use Rattle.meaning.specs.Limits.{text_limit}
use Rattle.meaning.specs.Scene.{Scene, scene_of, Accepted}
use Rattle.meaning.specs.Refusals.{Outcome, given, refused, number_of, carrying}
use Rattle.meaning.specs.List.{pairs, entries, room_of}
use Rattle.meaning.specs.Text.{short_buffer, counts_of}
use Rattle.meaning.specs.StoredBoxes.{short_boxes, box_numbers, Filled}
use Rattle.meaning.specs.Series.{Series, step_after, steps_of, steps_from, last_from, last_step, ToldRight}
use Rattle.meaning.specs.SeriesText.{Ended, SeriesIs, faulty, read, last_step_left, list_left}
use Rattle.meaning.specs.declared.SceneCounts.{SceneCounts}
use Rattle.meaning.specs.declared.Refusal.TheVariants.{ShortBuffer, LongText}
use Rattle.text_line.specs.Above.{Bounded, Lengths, lengths_count}
use Rattle.text_record.specs.Putting.{Roomy}
use Rattle.text_scene.specs.Answering.{roomy}
use Rattle.series_front.specs.Fronts.{FrontRead, FrontIs}
use Rattle.text_draft.specs.declared.Lines.{Lines}
use Rattle.meaning.specs.SeriesAnswers.{told_says, outcome_says}
use Rattle.meaning.specs.declared.SeriesAnswer.{SeriesAnswer}
use Rattle.meaning.specs.SeriesAnswers.{nothing_told}
use Rattle.meaning.specs.declared.SeriesListed.{SeriesListed}
use Rattle.series_walk.specs.Telling.{first_over, over_gives, refused_with}
use Rattle.text_draft.specs.Reading.{total}
use Rattle.series_walk.specs.Reading.{FirstStep, LastTold, StepsAre}
use Rattle.meaning.specs.SeriesCall.{told_part, ToldWhole, counts_part, counts_said, FillsLast, last_count, SeriesCounted}
use Rattle.series_leave.specs.Leaving.{front_of, LeaveReady, LastLeft}
use Rattle.meaning.specs.declared.Refused.{Refused}

-- the lent buffers are large enough, and the text is not too long
pub record AllLent (text : List ℕ) (lent : Scene) (b : List ℤ) : Type 0 where
  pub brief : length text ≤ text_limit
  pub scene : Roomy lent
  pub boxes : box_numbers ≤ length b

-- what the steps of a draft give: the scene in front of it is then the last step
abbrev pub DraftTold : List ℕ → ℕ → Scene → SceneCounts → SeriesAnswer → Type 0
DraftTold text room own c r =
    StepsAre text room (front_of c own).positions (front_of c own).edges (front_of c own).triangles (front_of c own).seams c r.outcome r.told

-- as SeriesCalled, past 12 and 8
pub record TextTold (text : List ℕ) (lent left : Scene) (b b' : List ℤ) (l l' : List ℕ) (r : SeriesAnswer) (k : ℕ) : Type 0 where
  pub outcome : Outcome Ended
  pub right : SeriesIs text (room_of l) outcome
  pub says : outcome_says r.outcome (told_says r.told) ≡ told_part outcome
  pub whole : ToldWhole r.outcome r.told
  pub counts : counts_said r.outcome ≡ counts_part outcome
  pub leaves : left ≡ last_step_left outcome lent
  pub boxes : FillsLast outcome b b'
  pub list : l' ≡ list_left outcome l
  pub count : k ≡ last_count outcome

-- ---- refused

module _ (text : List ℕ) (lent : Scene) (b : List ℤ) (l : List ℕ) where
  text_refused : (f : Refused) → SeriesIs text (room_of l) (refused (number_of f.why) f.carries) → TextTold text lent lent b b l l (refused_with f) 0
  unfolding outcome_says told_part ToldWhole counts_part counts_said last_step_left list_left FillsLast last_count
  text_refused f right =
      record { outcome = refused (number_of f.why) f.carries; right = right; says = refl; whole = refl; counts = refl; leaves = refl; boxes = refl; list = refl; count = refl }

  pub front_refused : (own : Scene) (table : List ℕ) {r : Result Lines Refused} {f : Refused} → FrontIs text own table r
      → r ≡ Err f → TextTold text lent lent b b l l (refused_with f) 0
  unfolding FrontIs
  front_refused own table {r} {f} d e =
      text_refused f (faulty (number_of f.why) f.carries refl (rw e at d))

  pub called_short : short_boxes b || short_buffer lent ≡ true → SeriesCounted text lent lent b b l l (record { answer = refused_with (carrying ShortBuffer 0); count = 0 })
  unfolding outcome_says told_part ToldWhole counts_part counts_said last_step_left list_left FillsLast last_count number_of
  called_short h =
      record {
        called = record { outcome = refused 12 0; right = rw h refl; says = refl; whole = refl; counts = refl; leaves = refl; boxes = refl; list = refl };
        count = refl;
      }

  module _ (wide : short_boxes b || short_buffer lent ≡ false) where
    pub called_long : text_limit < length text → SeriesCounted text lent lent b b l l (record { answer = refused_with (carrying LongText 0); count = 0 })
    unfolding outcome_says told_part ToldWhole counts_part counts_said last_step_left list_left FillsLast last_count number_of
    called_long h =
        record {
          called = record {
            outcome = refused 8 0;
            right = rw (wide, lt-ltb text_limit (length text) h) refl;
            says = refl;
            whole = refl;
            counts = refl;
            leaves = refl;
            boxes = refl;
            list = refl;
          };
          count = refl;
        }

    pub all_lent : length text ≤ text_limit → AllLent text lent b
    all_lent brief =
        record {
          brief = brief;
          scene = roomy lent (or_rest (short_boxes b) (short_buffer lent) wide);
          boxes = ltb-false _ _ (or_left (short_boxes b) (short_buffer lent) wide);
        }

    pub called : length text ≤ text_limit → {left : Scene} {b' : List ℤ} {l' : List ℕ} (r : SeriesListed) → TextTold text lent left b b' l l' r.answer r.count
        → SeriesCounted text lent left b b' l l' r
    called brief r t =
        record {
          called = record {
            outcome = t.outcome;
            right = rw (wide, le-ltb text_limit (length text) brief) t.right;
            says = t.says;
            whole = t.whole;
            counts = t.counts;
            leaves = t.leaves;
            boxes = t.boxes;
            list = t.list;
          };
          count = t.count;
        }

-- ---- told

module _ (text : List ℕ) (room : ℕ) (own : Scene) (c : SceneCounts) (r : SeriesAnswer) (d : DraftTold text room own c r) where
  pub draft_refused : {f : Refused} → r.outcome ≡ Err f
      → SeriesIs text room (refused (number_of f.why) f.carries) × (r.told ≡ nothing_told)
  unfolding StepsAre
  draft_refused e = rw e at d

  pub draft_last : {c' : SceneCounts} → r.outcome ≡ Ok c'
      → (c' ≡ c) × LastTold text room (front_of c own).positions (front_of c own).edges (front_of c own).triangles (front_of c own).seams r.told
  unfolding StepsAre
  draft_last e = rw e at d

-- the scene of the text is its first step
pub first_step : {text : List ℕ} {own : Scene} {table : List ℕ} {c : SceneCounts} {at : ℕ} → FrontRead text own table c at → length text ≤ text_limit
    → FirstStep text at (total c) (front_of c own).positions (front_of c own).edges (front_of c own).triangles (front_of c own).seams table
first_step f brief =
    record {
      brief = brief;
      scene = f.scene;
      here = f.here;
      lines = f.lines;
      few = f.few;
      ended = f.ended;
      edges = f.drafted.fronts.edges;
      triangles = f.drafted.fronts.triangles;
      sewn = f.drafted.sewn;
    }

pub front_is_read : (text : List ℕ) (own : Scene) (table : List ℕ) {r : Result Lines Refused} {lines : Lines} → FrontIs text own table r
    → r ≡ Ok lines → FrontRead text own table lines.counts lines.at
unfolding FrontIs
front_is_read text own table d e = rw e at d

-- its positions have gone on to the last step
pub draft_told : (text : List ℕ) (room : ℕ) (own : Scene) (c : SceneCounts) (r : SeriesAnswer) (ys : List ℤ) → length ys ≡ 6 * c.vertices
    → StepsAre text room ys (front_of c own).edges (front_of c own).triangles (front_of c own).seams c r.outcome r.told
    → DraftTold text room (scene_of (ys ++ drop (6 * c.vertices) own.positions) own.edges own.triangles own.seams) c r
draft_told text room own c r ys long h =
    subst (λ (l : List ℤ). StepsAre text room l (front_of c own).edges (front_of c own).triangles (front_of c own).seams c r.outcome r.told)
    (sym (take_at ys (drop (6 * c.vertices) own.positions) (6 * c.vertices) long)) h

-- no step is without room, so the last is not
over_rest : (room : ℕ) (s : Scene) (ss : List Scene) → first_over room (s ∷ ss) ≡ 0 → (length (pairs s) ≤ room) × (first_over room ss ≡ 0)
unfolding first_over
over_rest room s ss h = by_room (ltb room (length (pairs s))) refl
  where
    by_room : (b : Bool) → ltb room (length (pairs s)) ≡ b → (length (pairs s) ≤ room) × (first_over room ss ≡ 0)
    by_room true e =
        let none : length (pairs s) ≡ 0 = rw e at h in
        absurd (omega (arith, ltb-true room (length (pairs s)) e))
    by_room false e = (ltb-false room (length (pairs s)) e, rw e at h)

last_fits : (room : ℕ) (s : Scene) (bs : List (List ℤ)) → first_over room (steps_from s bs) ≡ 0 → length (pairs (last_from s bs)) ≤ room
unfolding steps_from last_from
last_fits room s [] h = (over_rest room s [] h).0
last_fits room s (b ∷ bs) h = last_fits room (step_after s b) bs (over_rest room s (steps_from (step_after s b) bs) h).1

-- the counts of the scene in front
front_lengths : (c : SceneCounts) (own : Scene) → Bounded c → Roomy own → Lengths (front_of c own) c
front_lengths c own b room =
    record {
      positions = length-take-le (6 * c.vertices) own.positions (omega (arith, b.vertices, room.positions));
      edges = length-take-le (2 * c.edges) own.edges (omega (arith, b.edges, room.edges));
      triangles = length-take-le (3 * c.triangles) own.triangles (omega (arith, b.triangles, room.triangles));
      seams = length-take-le (2 * c.seams) own.seams (omega (arith, b.seams, room.seams));
    }

-- what the front of a text gave, with the positions gone on
module _ {text : List ℕ} {at : ℕ} {c : SceneCounts} {before own : Scene} {table : List ℕ} (f : FrontRead text before table c at)
    (same : own.seams ≡ before.seams) (room-own : Roomy own) {l : List ℕ} (r : SeriesAnswer) (d : DraftTold text (room_of l) own c r) where
  pub leave_ready : {lent : Scene} {b : List ℤ} {c' : SceneCounts} → AllLent text lent b → r.outcome ≡ Ok c'
      → LeaveReady c own table lent b l
  leave_ready lent e =
      let h = (draft_last text (room_of l) own c r d e).1 in
      record {
        bounded = f.drafted.above.bounded;
        accepted = subst Accepted h.last h.accepted;
        sewn = f.drafted.sewn ∙ sym (ap (take (2 * c.seams)) same ∙ f.drafted.fronts.seams);
        own_room = room-own;
        lent_room = lent.scene;
        boxes = lent.boxes;
        fits = subst (λ (s : Scene). length (pairs s) ≤ room_of l) h.last (last_fits (room_of l) h.series.scene h.series.blocks h.roomy);
      }

  pub text_given : {lent left : Scene} {b b' : List ℤ} {l' : List ℕ} {n : ℕ} {c' : SceneCounts} → r.outcome ≡ Ok c'
      → LastLeft c own lent left b b' l l' n → TextTold text lent left b b' l l' r n
  unfolding outcome_says told_part ToldWhole counts_part counts_said last_step_left list_left FillsLast last_count
  text_given {lent} {left} {b} {b'} {l'} {n} {c'} e k =
      let (same-counts, h) = draft_last text (room_of l) own c r d e in
      let x : Series = h.series in
      let ended : Ended = record { series = x; told = told_says r.told } in
      let last : front_of c own ≡ last_step x = sym h.last in
      let counts : c ≡ counts_of (front_of c own) = lengths_count (front_lengths c own f.drafted.above.bounded room-own) in
      let scene : left ≡ scene_of (written (front_of c own).positions lent.positions) (written (front_of c own).edges lent.edges) (written (front_of c own).triangles lent.triangles) (written (front_of c own).seams lent.seams) =
      λ i. scene_of (k.scene.positions i) (k.scene.edges i) (k.scene.triangles i) (k.scene.seams i) in
      record {
        outcome = given ended;
        right = read x h.holds (over_gives (room_of l) (λ (z : Ended). (z.series ≡ x) × ToldRight x z.told) (steps_of x) ended h.roomy (refl, h.right));
        says = ap (λ (o : Result SceneCounts Refused). outcome_says o (told_says r.told)) e;
        whole = subst (λ (o : Result SceneCounts Refused). ToldWhole o r.told) (sym e) h.held;
        counts = ap counts_said e ∙ ap given (same-counts ∙ counts ∙ ap counts_of last);
        leaves = scene
            ∙ ap (λ (s : Scene). scene_of (written s.positions lent.positions) (written s.edges lent.edges) (written s.triangles lent.triangles) (written s.seams lent.seams)) last;
        boxes = subst (λ (s : Scene). Filled s b b') last k.filled;
        list = k.listed ∙ ap (λ (s : Scene). written (entries (pairs s)) l) last;
        count = k.counts ∙ ap (λ (s : Scene). length (pairs s)) last;
      }

  pub text_not_given : (lent : Scene) (b : List ℤ) {g : Refused} → r.outcome ≡ Err g → TextTold text lent lent b b l l r 0
  unfolding outcome_says told_part ToldWhole counts_part counts_said last_step_left list_left FillsLast last_count
  text_not_given lent b {g} e =
      let (right, none) = draft_refused text (room_of l) own c r d e in
      record {
        outcome = refused (number_of g.why) g.carries;
        right = right;
        says = ap (λ (o : Result SceneCounts Refused). outcome_says o (told_says r.told)) e;
        whole = subst (λ (o : Result SceneCounts Refused). ToldWhole o r.told) (sym e) none;
        counts = ap counts_said e;
        leaves = refl;
        boxes = refl;
        list = refl;
        count = refl;
      }
