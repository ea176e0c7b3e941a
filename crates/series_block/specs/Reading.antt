-- A whole block: from a step that is whole, over an `n`, to the next step, or to the first fault.
use Rattle.std.specs.Prelude.{ℕ, ◌+◌, ◌*◌, ◌/◌, ◌≤◌, ◌<◌, Bool, ◌||◌, ◌&&◌, ◌≡◌, refl, ◌⊎◌, ℤ, drop}
use Rattle.std.proofs.Math.Bool.{true, false, cond, not}
use mathlib.Core.List.{List, [], ◌∷◌, ◌++◌}
use Rattle.std.proofs.Math.Path.{sym, ap, subst}
use Rattle.std.proofs.Common.{◌∙◌, inl, inr, arith}
use Rattle.std.proofs.Math.Dec.{leb, ltb}
use Rattle.std.proofs.Math.ListN.{length}
use borrow.Author.Tests.{le-leb, le-ltb, ltb-false}
use Rattle.sequences.specs.Stands.{Stands, stands_inside}
use Rattle.meaning.specs.Limits.{vertex_limit}
use Rattle.meaning.specs.Scene.{Scene, vertex_count, broken_seam, Accepted}
use Rattle.meaning.specs.Refusals.{given, refused}
use Rattle.meaning.specs.Lines.{Fault, misplaced, nothing, RecordJudged, FaultyAt}
use Rattle.answers.specs.Answering.{refuses, lets_pass, gives, is_given}
use Rattle.answers.specs.Below.{or_rest}
use Rattle.scene_seams.specs.Sewing.{seams_alone}
use Rattle.text_laws.specs.Going.{Reached, reached_next, reached_longer, reached_fault}
use Rattle.meaning.specs.Series.{last_from, step_after, last_step}
use Rattle.meaning.specs.SeriesText.{ends, next, item_line, SoFar, nothing_yet, blocks_so_far, series_so_far, with_item, ItemFormed, block_full, block_short, wrong_length, item_checks, series_lines}
use Rattle.series_laws.specs.Longer.{last_append}
use Rattle.series_laws.specs.Stepping.{step_accepted, step_length, step_vertices, step_seams}
use Rattle.series_laws.specs.PartWay.{part_way, part_starts, part_ends}
use Rattle.series_line.specs.Rendered.{series_readable}
use Rattle.series_block.specs.Block.{InBlock, not_at_most, short_is, block_ready}
use Rattle.series_block.specs.Moving.{EndReady}
use Rattle.series_block.specs.Moving.{fault_number}
use Rattle.series_block.specs.Taking.{TakenIs, MovedTo, ClosedAt, BlockTaken, last_is}
use Rattle.series_block.specs.declared.BlockFault as Faults
use Rattle.series_block.specs.declared.BlockFault.{BlockFault}
use Rattle.series_block.specs.declared.LineTaken as Takes
use Rattle.series_block.specs.declared.LineTaken.{LineTaken}
use Rattle.series_block.specs.declared.Block.{Block}
use Rattle.series_block.specs.declared.FaultyLine.{FaultyLine}
use Rattle.std.specs.Prelude.{Result, Ok, Err}

-- the lines down to a place come to a series whose last step is s, and these are its positions and its seams
pub record StepHere (text : List ℕ) (at : ℕ) (x : SoFar) (s : Scene) (p : List ℤ) (w : List ℕ) : Type 0 where
  pub reached : Reached series_lines nothing_yet text x at
  pub step : s ≡ last_step (series_so_far x)
  pub whole : block_short x ≡ false
  pub accepted : Accepted s
  pub vertices : vertex_count x.scene ≡ vertex_count s
  pub long : length s.positions ≡ 6 * vertex_count s
  pub draft : p ≡ s.positions
  pub seams : w ≡ s.seams

-- and an `n` stands there, in the line of this number
pub record AtStep (text : List ℕ) (at line : ℕ) (x : SoFar) (s : Scene) (p : List ℤ) (w : List ℕ) : Type 0 where
  pub here : StepHere text at x s p w
  pub lines : line ≡ length here.reached.above + 1
  pub few : line ≤ at + 1
  pub stands : Stands text at (item_line next) (at + 2)

pub record AtSomeStep (text : List ℕ) (at line : ℕ) (p : List ℤ) (w : List ℕ) : Type 0 where
  pub series : SoFar
  pub step : Scene
  pub at_step : AtStep text at line series step p w

abbrev pub ends_at_once : List ℕ → ℕ → List ℤ → Bool
ends_at_once text at p = leb (length text) (at + 2) && ltb 0 (length p / 6)

-- ---- the promise

-- the next step: the series has one block more
pub record NextStep (text : List ℕ) (x : SoFar) (p' : List ℤ) (w : List ℕ) (after line : ℕ) : Type 0 where
  pub series : SoFar
  pub step : Scene
  pub here : StepHere text after series step p' w
  pub lines : line ≡ length here.reached.above
  pub few : line ≤ after
  pub scene : series.scene ≡ x.scene
  pub block : List ℤ
  pub blocks : blocks_so_far series ≡ blocks_so_far x ++ (block ∷ [])
  pub ended : (length text ≤ after) ⊎ Stands text after (item_line next) (after + 2)

unfoldable pub BlockIs : List ℕ → SoFar → List ℤ → List ℕ → Result Block FaultyLine → Type 0
BlockIs text x p' w (Err f) = FaultyAt series_lines nothing_yet text (fault_number f.fault) f.line
BlockIs text x p' w (Ok block) = NextStep text x p' w block.next block.last

abbrev pub BlockRead : List ℕ → ℕ → ℕ → List ℤ → List ℤ → List ℕ → Result Block FaultyLine → Type 0
BlockRead text at line p p' w r = (x : SoFar) (s : Scene) → AtStep text at line x s p w → BlockIs text x p' w r

-- ---- while it is read

pub record Going (text : List ℕ) (x : SoFar) (s : Scene) (k after line : ℕ) (p : List ℤ) (w : List ℕ) : Type 0 where
  pub series : SoFar
  pub reached : Reached series_lines nothing_yet text series after
  pub lines : line ≡ length reached.above
  pub few : line ≤ after
  pub block : InBlock series s k p w
  pub scene : series.scene ≡ x.scene
  pub blocks : series.blocks ≡ blocks_so_far x
  pub finished : length text ≤ after → vertex_count s ≤ k

seams_alone_lem : (s : Scene) → broken_seam (step_after s []) ≡ broken_seam (seams_alone (step_after s []).positions s.seams)
unfolding step_after
seams_alone_lem s = refl

module _ {text : List ℕ} {at line : ℕ} {x : SoFar} {s : Scene} {p : List ℤ} {w : List ℕ} (a : AtStep text at line x s p w) where
  draft_count : length p / 6 ≡ vertex_count s
  draft_count = ap (λ (l : List ℤ). length l / 6) a.here.draft

  short_of_next : block_short (with_item x next) ≡ ltb 0 (vertex_count s)
  unfolding with_item
  short_of_next = (λ i. not (leb (a.here.vertices i) 0)) ∙ not_at_most (vertex_count s) 0

  -- what is asked of the `n`
  next_wrong : wrong_length x next (nothing (drop (at + 2) text)) ≡ ends_at_once text at p
  unfolding wrong_length
  next_wrong =
      let last : nothing (drop (at + 2) text) ≡ leb (length text) (at + 2) = last_is text (at + 2) in
      let few : vertex_count s ≡ length p / 6 = sym draft_count in
      (λ i. a.here.whole i || last i && short_of_next i) ∙ (λ i. leb (length text) (at + 2) && ltb 0 (few i))

  -- the `n` is the last line, and vertices are still to come
  pub ends_fault : ends_at_once text at p ≡ true → BlockIs text x p w (Err (record { fault = Faults.TheVariants.Length; line = line }))
  unfolding BlockIs fault_number ItemFormed item_checks
  ends_fault h =
      reached_fault a.here.reached
      (misplaced next (drop (at + 2) text) tt a.stands.here (refuses (λ t. Unit {0}) _ _ (refused 13 0) (next_wrong ∙ h) refl))
      a.lines

  -- a step without vertices goes on to itself
  nothing_apart : vertex_count s ≤ 0 → broken_seam (step_after s []) ≡ false
  nothing_apart h =
      let zero : vertex_count s ≡ 0 = omega arith in
      let same : (step_after s []).positions ≡ s.positions =
      sym (part_ends s [] a.here.long) ∙ ap (part_way s []) zero ∙ part_starts s in
      seams_alone_lem s ∙ ap (λ (l : List ℤ). broken_seam (seams_alone l s.seams)) same ∙ a.here.accepted.sewn_well

  first_block : InBlock (with_item x next) s 0 p w
  unfolding with_item
  first_block = record {
    begun = refl;
    before = a.here.step;
    vertices = a.here.vertices;
    accepted = a.here.accepted;
    long = a.here.long;
    lines = refl;
    within = omega arith;
    near = λ i. refl;
    draft = a.here.draft ∙ sym (part_starts s);
    seams = a.here.seams;
    sewn = nothing_apart;
  }

  -- else it is not at fault
  pub block_starts : ends_at_once text at p ≡ false → Going text x s 0 (at + 2) line p w
  unfolding with_item ItemFormed item_checks
  block_starts h =
      let U : Unit {0} → Type 0 = λ t. Unit {0} in
      let judged : RecordJudged series_lines x next (nothing (drop (at + 2) text)) (given tt) =
      lets_pass U _ [] (given tt) (next_wrong ∙ h) (gives U tt tt) in
      let (r, further) = reached_next a.here.reached series_readable next tt judged a.stands in
      record {
        series = with_item x next;
        reached = r;
        lines = a.lines ∙ sym (reached_longer a.here.reached series_readable next tt judged a.stands);
        few = omega (arith, a.few);
        block = first_block;
        scene = refl;
        blocks = refl;
        finished = λ e.
            let yes : leb (length text) (at + 2) ≡ true = le-leb (length text) (at + 2) e in
            let none : ltb 0 (length p / 6) ≡ false = sym (λ i. yes i && ltb 0 (length p / 6)) ∙ h in
            omega (arith, ltb-false 0 (length p / 6) none, draft_count);
      }

module _ {text : List ℕ} {x : SoFar} {s : Scene} {k after line : ℕ} {p : List ℤ} {w : List ℕ} (g : Going text x s k after line p w) where
  pub block_goes : {p' : List ℤ} {further : ℕ} → MovedTo text after g.series s k p' w further → Going text x s (k + 1) further (line + 1) p' w
  unfolding with_item item_checks wrong_length
  block_goes {p'} {further} m =
      let y : SoFar = g.series in
      let (r, more) = reached_next g.reached series_readable (ends m.place) m.formed m.judged m.stands in
      record {
        series = with_item y (ends m.place);
        reached = r;
        lines = ap (λ (n : ℕ). n + 1) g.lines
            ∙ sym (reached_longer g.reached series_readable (ends m.place) m.formed m.judged m.stands);
        few = omega (arith, g.few, more);
        block = m.block;
        scene = g.scene;
        blocks = g.blocks;
        finished = λ e.
            let U : Unit {0} → Type 0 = λ t. Unit {0} in
            let (placed, rest) = is_given U _ _ tt m.judged in
            let shut : nothing (drop further text) && block_short (with_item y (ends m.place)) ≡ false = or_rest (block_full y) _ placed in
            let last : nothing (drop further text) ≡ true = last_is text further ∙ le-leb (length text) further e in
            let filled : block_short (with_item y (ends m.place)) ≡ false =
            sym (λ i. last i && block_short (with_item y (ends m.place))) ∙ shut in
            ltb-false (k + 1) (vertex_count s) (sym (short_is m.block) ∙ filled);
      }

  pub block_fault : {n : ℕ} → Fault series_lines g.series (drop after text) n → FaultyAt series_lines nothing_yet text n (line + 1)
  block_fault f = reached_fault g.reached f (ap (λ (n : ℕ). n + 1) g.lines)

  pub block_whole : vertex_count s ≤ k → (length text ≤ after) ⊎ Stands text after (item_line next) (after + 2) → NextStep text x p w after line
  unfolding last_from
  block_whole h e =
      let y : SoFar = g.series in
      let b : InBlock y s k p w = g.block in
      let t : Scene = step_after s y.block in
      let all : k ≡ vertex_count s = omega (arith, b.within) in
      record {
        series = y;
        step = t;
        here = record {
          reached = g.reached;
          step = ap (λ (z : Scene). step_after z y.block) b.before
              ∙ sym (last_append y.scene y.blocks (y.block ∷ []))
              ∙ ap (λ (c : Bool). last_from y.scene (cond c (y.blocks ++ (y.block ∷ [])) [])) (sym b.begun);
          whole = short_is b ∙ le-ltb k (vertex_count s) h;
          accepted = step_accepted s y.block b.accepted b.near (b.sewn h);
          vertices = b.vertices ∙ sym (step_vertices s y.block);
          long = step_length s y.block ∙ ap (λ (n : ℕ). 6 * n) (sym (step_vertices s y.block));
          draft = b.draft ∙ ap (part_way s y.block) all ∙ part_ends s y.block b.long;
          seams = b.seams ∙ sym (step_seams s y.block);
        };
        lines = g.lines;
        few = g.few;
        scene = g.scene;
        block = y.block;
        blocks = λ i. cond (b.begun i) (g.blocks i ++ (y.block ∷ [])) [];
        ended = e;
      }

  -- from what a line gives
  module _ (p' : List ℤ) {t : Result LineTaken BlockFault} (taken : BlockTaken text after k p p' w t) where
    taken_here : {t' : Result LineTaken BlockFault} → t ≡ t' → TakenIs text after g.series s k p p' w t'
    taken_here e = subst (TakenIs text after g.series s k p p' w) e (taken g.series s g.block)

    pub read_fails : {f : BlockFault} → t ≡ Err f → BlockIs text x p' w (Err (record { fault = f; line = line + 1 }))
    unfolding BlockIs TakenIs
    read_fails e = block_fault (taken_here e)

    pub read_closes : t ≡ Ok Takes.TheVariants.Closed → BlockIs text x p' w (Ok (record { next = after; last = line }))
    unfolding BlockIs TakenIs
    read_closes e =
        let c : ClosedAt text after s k p p' = taken_here e in
        subst (λ (l : List ℤ). NextStep text x l w after line) (sym c.same) (block_whole c.whole (inr c.stands))

    pub read_goes : {further : ℕ} → t ≡ Ok (Takes.TheVariants.Moved further) → Going text x s (k + 1) further (line + 1) p' w × (after < further)
    unfolding TakenIs
    read_goes {further} e =
        let m : MovedTo text after g.series s k p' w further = taken_here e in
        (block_goes m, (reached_next g.reached series_readable (ends m.place) m.formed m.judged m.stands).1)

  pub read_ends : length text ≤ after → BlockIs text x p w (Ok (record { next = after; last = line }))
  unfolding BlockIs
  read_ends h = block_whole (g.finished h) (inl h)

  pub count_small : k ≤ vertex_limit
  count_small =
      let r : EndReady k p w (0 ∷ 0 ∷ 0 ∷ []) (false ∷ false ∷ false ∷ []) = block_ready g.block (omega arith) (omega arith) in
      omega (arith, r.within, r.sewable.few)

pub next_inside : {text : List ℕ} {at line : ℕ} {x : SoFar} {s : Scene} {p : List ℤ} {w : List ℕ} → AtStep text at line x s p w → at + 2 ≤ length text
next_inside a = stands_inside a.here.reached.within a.stands
