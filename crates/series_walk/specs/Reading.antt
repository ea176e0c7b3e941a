-- The steps of a text, from its scene to its last block: which step the positions hold, and what is told of the steps so far.
use Rattle.std.specs.Prelude.{Result, Ok, Err, ℕ, ◌+◌, ◌≤◌, ◌<◌, ◌≡◌, ◌⊎◌, ℤ, length}
use mathlib.Core.List.{List, [], ◌∷◌, ◌++◌}
use Rattle.std.proofs.Math.Path.{refl, sym, ap, subst}
use Rattle.std.proofs.Common.{◌∙◌, ⊎_elim, arith, length-append, lt-ltb, le-ltb}
use Rattle.sequences.specs.Range.{le_or_lt}
use Rattle.sequences.specs.Stands.{Stands}
use Rattle.scene_seams.specs.Alone.{tabled}
use Rattle.scene_seams.specs.Table.{seams_of}
use Rattle.meaning.specs.Limits.{text_limit}
use Rattle.meaning.specs.Scene.{Scene, scene_of, Accepted}
use Rattle.meaning.specs.Refusals.{refused, Answers, number_of, carrying}
use Rattle.meaning.specs.Lines.{FaultyAt}
use Rattle.meaning.specs.Series.{Series, step_after, steps_from, steps_of, last_from, last_step, ToldRight}
use Rattle.meaning.specs.SeriesText.{next, item_line, SoFar, nothing_yet, blocks_so_far, series_so_far, series_lines, HoldsSeries, room_checks, Ended, SeriesIs, faulty, read}
use Rattle.meaning.specs.declared.SceneCounts.{SceneCounts}
use Rattle.meaning.specs.declared.Refusal.{Refusal}
use Rattle.meaning.specs.declared.Refusal.TheVariants.{NoRoom}
use Rattle.text_laws.specs.Going.{reached_end}
use Rattle.series_laws.specs.Longer.{next_steps, steps_append, last_append, steps_count, blocks_few}
use Rattle.series_laws.specs.Stepping.{step_edges, step_triangles}
use Rattle.series_block.specs.Moving.{fault_number}
use Rattle.series_block.specs.Reading.{StepHere, AtStep, AtSomeStep, NextStep, BlockIs, BlockRead}
use Rattle.series_block.specs.declared.Block.{Block}
use Rattle.series_block.specs.declared.FaultyLine.{FaultyLine}
use Rattle.series_front.specs.Fronts.{scene_alone}
use Rattle.meaning.specs.SeriesAnswers.{HeldRight}
use Rattle.series_log.specs.Kept.{log_held}
use Rattle.meaning.specs.SeriesAnswers.{told_says}
use Rattle.meaning.specs.declared.SeriesTold.{SeriesTold}
use Rattle.meaning.specs.declared.SeriesAnswer.{SeriesAnswer}
use Rattle.meaning.specs.SeriesAnswers.{nothing_told}
use Rattle.series_walk.specs.Telling.{first_over, over_refuses, told_right, TellsSteps, StepAdded, steps_start, RoomAnswer}
use Rattle.series_walk.specs.declared.Telling.{Telling}
use Rattle.meaning.specs.declared.Refused.{Refused}

-- ---- what is asked and promised

-- the scene of a text that is not too long in own arrays, with the table of its seams; an `n` stands behind it, or the text ends
pub record FirstStep (text : List ℕ) (at line : ℕ) (p : List ℤ) (e t w table : List ℕ) : Type 0 where
  pub brief : length text ≤ text_limit
  pub scene : Scene
  pub here : StepHere text at (scene_alone scene) scene p w
  pub lines : line ≡ length here.reached.above
  pub few : line ≤ at
  pub ended : (length text ≤ at) ⊎ Stands text at (item_line next) (at + 2)
  pub edges : e ≡ scene.edges
  pub triangles : t ≡ scene.triangles
  pub sewn : seams_of table ≡ scene.seams

-- the text is a series, every step has room, and this is told of it; the arrays hold its last step
pub record LastTold (text : List ℕ) (room : ℕ) (p : List ℤ) (e t w : List ℕ) (told : SeriesTold) : Type 0 where
  pub series : Series
  pub holds : HoldsSeries text series
  pub roomy : first_over room (steps_of series) ≡ 0
  pub right : ToldRight series (told_says told)
  pub held : HeldRight told.log
  pub last : last_step series ≡ scene_of p e t w
  pub accepted : Accepted (last_step series)

unfoldable pub StepsAre : List ℕ → ℕ → List ℤ → List ℕ → List ℕ → List ℕ → SceneCounts → Result SceneCounts Refused → SeriesTold → Type 0
StepsAre text room p e t w c (Ok c') told = (c' ≡ c) × LastTold text room p e t w told
StepsAre text room p e t w c (Err f) told =
    SeriesIs text room (refused (number_of f.why) f.carries) × (told ≡ nothing_told)

-- ---- on the way

-- the positions hold the last step so far, of this number
pub record StepNow (text : List ℕ) (room at line step : ℕ) (p : List ℤ) (e t w table : List ℕ) (all : Telling) : Type 0 where
  pub series : SoFar
  pub scene : Scene
  pub here : StepHere text at series scene p w
  pub lines : line ≡ length here.reached.above
  pub few : line ≤ at
  pub ended : (length text ≤ at) ⊎ Stands text at (item_line next) (at + 2)
  pub edges : e ≡ scene.edges
  pub triangles : t ≡ scene.triangles
  pub sewn : seams_of table ≡ scene.seams
  pub number : step ≡ length (steps_of (series_so_far series))
  pub telling : TellsSteps room (steps_of (series_so_far series)) all

-- the scene that the table tells is the step
tabled_is : {p : List ℤ} {e t : List ℕ} (table : List ℕ) {s : Scene} → p ≡ s.positions → e ≡ s.edges → t ≡ s.triangles → seams_of table ≡ s.seams
    → tabled p e t table ≡ s
tabled_is table a b c d = λ i. scene_of (a i) (b i) (c i) (d i)

module _ {text : List ℕ} {at line : ℕ} {p : List ℤ} {e t w table : List ℕ} (f : FirstStep text at line p e t w table) where
  first_is : tabled p e t table ≡ f.scene
  first_is = tabled_is table f.here.draft f.edges f.triangles f.sewn

  pub first_accepted : Accepted (tabled p e t table)
  first_accepted = subst Accepted (sym first_is) f.here.accepted

  pub first_told : (room : ℕ) {all : Telling} → StepAdded room 1 (tabled p e t table) (record { told = nothing_told; needed = 0 }) all
      → StepNow text room at line 1 p e t w table all
  unfolding steps_from
  first_told room {all} a =
      record {
        series = scene_alone f.scene;
        scene = f.scene;
        here = f.here;
        lines = f.lines;
        few = f.few;
        ended = f.ended;
        edges = f.edges;
        triangles = f.triangles;
        sewn = f.sewn;
        number = refl;
        telling = subst (λ (s : Scene). TellsSteps room (s ∷ []) all) first_is (a.goes [] refl (steps_start room));
      }

module _ {text : List ℕ} {room at line step : ℕ} {p : List ℤ} {e t w table : List ℕ} {all : Telling}
    (n : StepNow text room at line step p e t w table all) where
  steps_long : length (steps_of (series_so_far n.series)) ≡ length (blocks_so_far n.series) + 1
  steps_long = steps_count n.series.scene (blocks_so_far n.series)

  -- there are no more steps than bytes, and one
  pub step_few : step ≤ length text + 1
  step_few =
      let few : length (blocks_so_far n.series) ≤ 0 + length n.here.reached.above =
      subst (λ (x : SoFar). length (blocks_so_far x) ≤ 0 + length n.here.reached.above) (sym n.here.reached.state)
      (blocks_few nothing_yet n.here.reached.above) in
      omega (arith, n.number, steps_long, few, n.lines, n.few, n.here.reached.within)

  pub line_few : line ≤ length text
  line_few = omega (arith, n.few, n.here.reached.within)

  -- an `n` stands here, where the text goes on
  pub at_next : at < length text → AtStep text at (line + 1) n.series n.scene p w
  at_next h =
      record {
        here = n.here;
        lines = ap (λ (k : ℕ). k + 1) n.lines;
        few = omega (arith, n.few);
        stands = ⊎_elim (λ past. absurd (omega arith)) (λ s. s) n.ended;
      }

  pub some_step : at < length text → AtSomeStep text at (line + 1) p w
  some_step h = record { series = n.series; step = n.scene; at_step = at_next h }

  -- what the next block gives
  module _ (inside : at < length text) (p' : List ℤ) {r : Result Block FaultyLine} (b : BlockRead text at (line + 1) p p' w r) where
    block_is : {r' : Result Block FaultyLine} → r ≡ r' → BlockIs text n.series p' w r'
    block_is q = subst (BlockIs text n.series p' w) q (b n.series n.scene (at_next inside))

    pub block_faulty : {f : FaultyLine} (x : Refusal) (c : SceneCounts) → r ≡ Err f
        → number_of x ≡ fault_number f.fault → StepsAre text room p' e t w c (Err (carrying x f.line)) nothing_told
    unfolding StepsAre BlockIs
    block_faulty {f} x c q same = (
      faulty (number_of x) f.line refl (subst (λ (m : ℕ). FaultyAt series_lines nothing_yet text m f.line) (sym same) (block_is q)),
      refl,
    )

    module _ {block : Block} (q : r ≡ Ok block) where
      next_step : NextStep text n.series p' w block.next block.last
      unfolding BlockIs
      next_step = block_is q

      abbrev y : SoFar
      y = next_step.series

      next_seams : n.scene.seams ≡ next_step.step.seams
      next_seams = sym n.here.seams ∙ next_step.here.seams

      -- the step that its block makes
      after_is : next_step.step ≡ step_after (last_step (series_so_far n.series)) next_step.block
      unfolding last_from
      after_is =
          next_step.here.step
          ∙ (λ i. last_from (next_step.scene i) (next_step.blocks i))
          ∙ last_append n.series.scene (blocks_so_far n.series) (next_step.block ∷ [])

      steps_of_next : steps_of (series_so_far y) ≡ steps_of (series_so_far n.series) ++ (next_step.step ∷ [])
      unfolding next_steps
      steps_of_next =
          (λ i. steps_from (next_step.scene i) (next_step.blocks i))
          ∙ steps_append n.series.scene (blocks_so_far n.series) (next_step.block ∷ [])
          ∙ ap (λ (s : Scene). steps_of (series_so_far n.series) ++ (s ∷ [])) (sym after_is)

      same_parts : next_step.step ≡ step_after n.scene next_step.block
      same_parts = after_is ∙ ap (λ (s : Scene). step_after s next_step.block) (sym n.here.step)

      next_edges : e ≡ next_step.step.edges
      next_edges = n.edges ∙ sym (step_edges n.scene next_step.block) ∙ ap (λ (s : Scene). s.edges) (sym same_parts)

      next_triangles : t ≡ next_step.step.triangles
      next_triangles = n.triangles ∙ sym (step_triangles n.scene next_step.block) ∙ ap (λ (s : Scene). s.triangles) (sym same_parts)

      next_is : tabled p' e t table ≡ next_step.step
      next_is = tabled_is table next_step.here.draft next_edges next_triangles (n.sewn ∙ next_seams)

      pub next_accepted : Accepted (tabled p' e t table)
      next_accepted = subst Accepted (sym next_is) next_step.here.accepted

      pub next_told : {all' : Telling} → StepAdded room (step + 1) (tabled p' e t table) all all'
          → StepNow text room block.next block.last (step + 1) p' e t w table all'
      next_told {all'} a =
          let told : TellsSteps room (steps_of (series_so_far n.series) ++ (tabled p' e t table ∷ [])) all' =
          a.goes (steps_of (series_so_far n.series)) (ap (λ (k : ℕ). k + 1) n.number) n.telling in
          record {
            series = y;
            scene = next_step.step;
            here = next_step.here;
            lines = next_step.lines;
            few = next_step.few;
            ended = next_step.ended;
            edges = next_edges;
            triangles = next_triangles;
            sewn = n.sewn ∙ next_seams;
            number = ap (λ (k : ℕ). k + 1) n.number
                ∙ sym (ap length steps_of_next ∙ length-append (steps_of (series_so_far n.series)) (next_step.step ∷ []));
            telling = subst (λ (l : List Scene). TellsSteps room l all')
                (ap (λ (s : Scene). steps_of (series_so_far n.series) ++ (s ∷ [])) next_is ∙ sym steps_of_next)
                told;
          }

  -- ---- the text ends

  module _ (over : length text ≤ at) where
    abbrev whole : Series
    whole = series_so_far n.series

    text_holds : HoldsSeries text whole
    text_holds =
        record {
          items = n.here.reached.above;
          records = reached_end n.here.reached over;
          series = ap series_so_far n.here.reached.state;
        }

    pub ends_full : (c : SceneCounts) → 0 < all.needed
        → StepsAre text room p e t w c (Err (carrying NoRoom all.needed)) nothing_told
    unfolding StepsAre number_of
    ends_full c h =
        let over_all : 0 < first_over room (steps_of whole) = subst (λ (k : ℕ). 0 < k) n.telling.needed h in (
          read whole text_holds
              (subst (λ (k : ℕ). Answers (room_checks room whole) (λ (z : Ended). (z.series ≡ whole) × ToldRight whole z.told) (refused 7 k)) (sym n.telling.needed)
              (over_refuses room (λ (z : Ended). (z.series ≡ whole) × ToldRight whole z.told) (steps_of whole) over_all)),
          refl,
        )

    pub ends_told : (c : SceneCounts) → all.needed ≡ 0 → StepsAre text room p e t w c (Ok c) all.told
    unfolding StepsAre
    ends_told c h = (
      refl,
      record {
        series = whole;
        holds = text_holds;
        roomy = sym n.telling.needed ∙ h;
        right = told_right whole (n.telling.told h);
        held = log_held (n.telling.told h).tells.log;
        last = sym n.here.step ∙ sym (λ i. scene_of (n.here.draft i) (n.edges i) (n.triangles i) (n.here.seams i));
        accepted = subst Accepted n.here.step n.here.accepted;
      },
    )

  -- 7, or told
  pub ends_all : length text ≤ at → (c : SceneCounts) (r : SeriesAnswer) → r ≡ RoomAnswer c all → StepsAre text room p e t w c r.outcome r.told
  ends_all over c r same =
      rw same
      (⊎_elim
      (λ some. rw (lt-ltb 0 all.needed some) (ends_full over c some))
      (λ none. rw (le-ltb 0 all.needed (omega arith)) (ends_told over c (omega arith)))
      (le_or_lt 1 all.needed))
