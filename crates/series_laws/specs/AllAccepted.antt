-- Every step of a series that was read from a text is accepted: nobody checks it twice.
use Rattle.std.specs.Prelude.{ℕ, Bool, ◌&&◌, refl, ℤ}
use Rattle.std.proofs.Math.Bool.{true, false, cond, not}
use Rattle.std.proofs.Common.{true≢false, ◌∙◌, arith}
use mathlib.Core.List.Memᴰ
use mathlib.Core.List.{List, [], ◌∷◌, ◌++◌, flat_map, Memᴰ}
use Rattle.std.proofs.Math.Logic.{⊎_elim}
use Rattle.std.proofs.Math.Path.{◌≡◌, sym, ap, subst}
use borrow.Author.Tests.{leb-true, not-false}
use Rattle.whole.specs.Vector.{Vector}
use Rattle.sequences.specs.Pick.{either}
use Rattle.sequences.specs.Parts.{none_of}
use Rattle.meaning.specs.Scene.{Scene, scene_of, vertex_count, broken_seam, Accepted}
use Rattle.meaning.specs.Refusals.{given}
use Rattle.meaning.specs.Lines as Lines
use Rattle.meaning.specs.Lines.{nothing, after_all, RecordJudged}
use Rattle.meaning.specs.Text.{Entry}
use Rattle.meaning.specs.Series.{Series, step_after, steps_from, last_from, steps_of, last_step}
use Rattle.meaning.specs.SeriesText.{Item, of, ends, next, SoFar, nothing_yet, blocks_so_far, series_so_far, with_item, ItemFormed, block_full, block_short, wrong_length, far_end, comes_apart_now, item_checks, series_lines, HoldsSeries}
use Rattle.meaning.specs.declared.SceneCounts.{SceneCounts}
use Rattle.answers.specs.Answering.{is_given}
use Rattle.answers.specs.Below.{or_left, or_rest}
use Rattle.scene_checks.specs.Facts.{accepted_sized}
use Rattle.text_line.specs.Reading.{sort_of}
use Rattle.text_line.specs.Above.{Above, above_none, above_more, counted_by, no_counts}
use Rattle.series_laws.specs.Longer.{next_steps, steps_append, last_append, last_among}
use Rattle.series_laws.specs.Stepping.{AllNear, near_more, step_accepted, step_length, step_vertices}

abbrev pub EachAccepted : List Scene → Type 0
EachAccepted ss = (s : Scene) → Memᴰ s ss → Accepted s

-- ---- steps

last_vertices : (s : Scene) (bs : List (List ℤ)) → vertex_count (last_from s bs) ≡ vertex_count s
unfolding last_from
last_vertices s [] = refl
last_vertices s (b ∷ bs) = last_vertices (step_after s b) bs ∙ step_vertices s b

-- a step more
one_more : (s : Scene) (bs : List (List ℤ)) (b : List ℤ) → EachAccepted (steps_from s bs) → Accepted (step_after (last_from s bs) b)
    → EachAccepted (steps_from s (bs ++ (b ∷ [])))
unfolding next_steps
one_more s bs b all new t m =
    ⊎_elim (all t) (λ l. subst Accepted (sym (Memᴰ.eq_of_singleton l)) new)
    (Memᴰ.append_cases (steps_from s bs) (subst (Memᴰ t) (steps_append s bs (b ∷ [])) m))

-- a step without vertices goes on to itself
still : (s : Scene) → Accepted s → vertex_count s ≡ 0 → broken_seam (step_after s []) ≡ false
unfolding step_after
still s a few =
    let here : s.positions ≡ [] = none_of s.positions (omega (arith, (accepted_sized a).positions_long)) in
    let there : (step_after s []).positions ≡ [] = none_of (step_after s []).positions (omega (arith, step_length s [])) in
    ap (λ (p : List ℤ). broken_seam (scene_of p s.edges s.triangles s.seams)) (there ∙ sym here) ∙ a.sewn_well

-- ---- what holds below records that are not at fault

record Standing (x : SoFar) : Type 0 where
  counts : SceneCounts
  above : Above x.scene counts
  -- the steps above the last `n`, the numbers below it, and no seam that came apart
  steps : x.begun ≡ true → EachAccepted (steps_from x.scene x.blocks)
  near : x.begun ≡ true → AllNear x.block
  together : x.begun ≡ true → comes_apart_now x ≡ false

-- where the last block is whole, every step so far is accepted
module _ {x : SoFar} (h : Standing x) (whole : block_short x ≡ false) where
  scene_alone : x.begun ≡ false → EachAccepted (steps_of (series_so_far x))
  unfolding steps_from
  scene_alone none t m =
      let alone : steps_of (series_so_far x) ≡ x.scene ∷ [] =
      ap (λ (b : Bool). steps_from x.scene (cond b (x.blocks ++ (x.block ∷ [])) [])) none in
      rw (Memᴰ.eq_of_singleton (subst (Memᴰ t) alone m)) h.above.accepted

  with_block : x.begun ≡ true → EachAccepted (steps_of (series_so_far x))
  unfolding last_from
  with_block begun =
      let full : block_full x ≡ true = not-false (block_full x) (sym (λ i. begun i && not (block_full x)) ∙ whole) in
      let apart : broken_seam (last_step (series_so_far x)) ≡ false =
      sym (λ i. full i && broken_seam (last_step (series_so_far x))) ∙ h.together begun in
      let blocks : blocks_so_far x ≡ x.blocks ++ (x.block ∷ []) = λ i. cond (begun i) (x.blocks ++ (x.block ∷ [])) [] in
      let step : last_step (series_so_far x) ≡ step_after (last_from x.scene x.blocks) x.block =
      ap (last_from x.scene) blocks ∙ last_append x.scene x.blocks (x.block ∷ []) in
      let new : Accepted (step_after (last_from x.scene x.blocks) x.block) =
      step_accepted (last_from x.scene x.blocks) x.block (h.steps begun _ (last_among x.scene x.blocks)) (h.near begun)
      (sym (ap broken_seam step) ∙ apart) in
      subst (λ (bs : List (List ℤ)). EachAccepted (steps_from x.scene bs)) (sym blocks)
      (one_more x.scene x.blocks x.block (h.steps begun) new)

  whole_accepted : EachAccepted (steps_of (series_so_far x))
  whole_accepted = ⊎_elim with_block scene_alone (either x.begun)

-- ---- record by record

-- below the last line the last block is whole
unfoldable Ended : SoFar → List Item → Type 0
Ended x [] = block_short x ≡ false
Ended x (i ∷ is) = Unit {0}

-- one record more
record Goes (x : SoFar) (i : Item) (last : Bool) : Type 0 where
  standing : Standing (with_item x i)
  whole : last ≡ true → block_short (with_item x i) ≡ false

module _ {x : SoFar} (h : Standing x) (last : Bool) where
  U : Unit {0} → Type 0
  U t = Unit {0}

  of_goes : (e : Entry) → RecordJudged series_lines x (of e) last (given tt) → Goes x (of e) last
  unfolding item_checks with_item U
  of_goes e judged =
      let (early, rest) = is_given U (record { number = 10; holds = x.begun; carries = 0 }) _ tt judged in
      let never : (P : Type 0) → x.begun ≡ true → P = λ P b. let z : ◌≡◌ {A = Bool} true false = sym b ∙ early in absurd (true≢false z) in
      record {
        standing = record {
          counts = counted_by h.counts (sort_of e);
          above = above_more e h.above rest;
          steps = never _;
          near = never _;
          together = never _;
        };
        whole = λ l. (λ i. early i && not (block_full (with_item x (of e))));
      }

  ends_goes : (p : Vector) → ItemFormed x (ends p) → RecordJudged series_lines x (ends p) last (given tt) → Goes x (ends p) last
  unfolding item_checks with_item ItemFormed wrong_length U
  ends_goes p formed judged =
      let (placed, rest) = is_given U (record { number = 13; holds = wrong_length x (ends p) last; carries = 0 }) _ tt judged in
      let (near, rest') = is_given U (record { number = 2; holds = far_end p; carries = 0 }) _ tt rest in
      let (together, rest'') = is_given U (record { number = 15; holds = comes_apart_now (with_item x (ends p)); carries = 0 }) _ tt rest' in
      record {
        standing = record {
          counts = h.counts;
          above = h.above;
          steps = h.steps;
          near = λ b. near_more x.block p (h.near b) near;
          together = λ b. together;
        };
        whole = λ l. sym (λ i. l i && block_short (with_item x (ends p))) ∙ or_rest (block_full x) _ placed;
      }

  next_goes : RecordJudged series_lines x next last (given tt) → Goes x next last
  unfolding item_checks with_item wrong_length U last_from
  next_goes judged =
      let (placed, rest) = is_given U (record { number = 13; holds = wrong_length x next last; carries = 0 }) _ tt judged in
      let all : EachAccepted (steps_of (series_so_far x)) = whole_accepted h (or_left (block_short x) _ placed) in
      let t : Scene = last_step (series_so_far x) in
      let step : last_step (series_so_far (with_item x next)) ≡ step_after t [] = last_append x.scene (blocks_so_far x) ([] ∷ []) in
      let apart : comes_apart_now (with_item x next) ≡ false =
      ⊎_elim
      (λ (full : block_full (with_item x next) ≡ true).
      (λ i. full i && broken_seam (step i))
      ∙ still t (all t (last_among x.scene (blocks_so_far x)))
      (last_vertices x.scene (blocks_so_far x) ∙ omega (arith, leb-true (vertex_count x.scene) 0 full)))
      (λ (short : block_full (with_item x next) ≡ false). λ i. short i && broken_seam (last_step (series_so_far (with_item x next))))
      (either (block_full (with_item x next))) in
      record {
        standing = record {
          counts = h.counts;
          above = h.above;
          steps = λ b. all;
          near = λ b i. refl;
          together = λ b. apart;
        };
        whole = λ l. sym (λ i. l i && block_short (with_item x next)) ∙ or_rest (block_short x) _ placed;
      }

  item_goes : (i : Item) → ItemFormed x i → RecordJudged series_lines x i last (given tt) → Goes x i last
  item_goes (of e) formed judged = of_goes e judged
  item_goes (ends p) formed judged = ends_goes p formed judged
  item_goes next formed judged = next_goes judged

-- ---- all records

all_accepted : (x : SoFar) (is : List Item) → Standing x → Ended x is → Lines.Sound series_lines x is []
    → EachAccepted (steps_of (series_so_far (after_all series_lines x is)))
unfolding Lines.Sound after_all Ended nothing flat_map
all_accepted x [] h e sound = whole_accepted h e
all_accepted x (i ∷ []) h e sound =
    let g : Goes x i true = item_goes h true i sound.0 sound.1 in
    all_accepted (with_item x i) [] g.standing (g.whole refl) sound.2
all_accepted x (i ∷ j ∷ is) h e sound =
    let g = item_goes h (nothing (Lines.lines_of series_lines (j ∷ is) ++ [])) i sound.0 sound.1 in
    all_accepted (with_item x i) (j ∷ is) g.standing tt sound.2

nothing_standing : Standing nothing_yet
nothing_standing =
    let never : (P : Type 0) → ◌≡◌ {A = Bool} false true → P = λ P b. absurd (true≢false (sym b)) in
    record { counts = no_counts; above = above_none; steps = never _; near = never _; together = never _ }

-- the steps of a text's series
pub steps_accepted : {text : List ℕ} {x : Series} → HoldsSeries text x → (s : Scene) → Memᴰ s (steps_of x) → Accepted s
unfolding Ended
steps_accepted {text} {x} h =
    subst (λ (y : Series). EachAccepted (steps_of y)) (sym h.series)
    (all_accepted nothing_yet h.items nothing_standing (ended h.items) h.records.sound)
  where
    ended : (is : List Item) → Ended nothing_yet is
    ended [] = refl
    ended (i ∷ is) = tt
