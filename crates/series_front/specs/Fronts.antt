-- A scene's lines in front of a series: what a reader of scenes finds in them is what the grammar of series says.
use Rattle.std.specs.Prelude.{Result, Ok, Err, ℕ, ◌+◌, ◌*◌, ◌≤◌, true, false, ◌≡◌, refl, ◌⊎◌, take, drop}
use Rattle.std.proofs.Common.{true≢false, ◌∙◌, inl, inr, arith, length-append, length-drop}
use mathlib.Core.List.{List, [], ◌∷◌, ◌++◌, map, flat_map, head-eq_of_cons-eq}
use Rattle.std.proofs.Math.Path.{sym, ap}
use Rattle.std.proofs.Math.ListN.{length}
use Rattle.std.proofs.lemmas.List.{length-map}
use Rattle.sequences.specs.Stands.{Stands}
use Rattle.meaning.specs.Scene.{Scene}
use Rattle.meaning.specs.Refusals.{given, refused, number_of, carrying}
use Rattle.meaning.specs.Lines.{Fault, unformed, misplaced, lines_of, after_all, Sound, FaultyAt}
use Rattle.meaning.specs.Text as Text
use Rattle.meaning.specs.Text.{Entry, none, scene_with, scene_lines, line_feed}
use Rattle.meaning.specs.declared.Refusal.{Refusal}
use Rattle.meaning.specs.declared.SceneCounts.{SceneCounts}
use Rattle.answers.specs.Answering.{lets_pass}
use Rattle.text_laws.specs.Unique.{records_few}
use Rattle.text_laws.specs.Going.{Reached, reached_fault}
use Rattle.text_record.specs.Drafting.{Drafted}
use Rattle.text_draft.specs.Reading.{Drafting, StoppedAt, total}
use Rattle.meaning.specs.Series.{last_from}
use Rattle.meaning.specs.SeriesText.{Item, of, ends, next, item_line, SoFar, nothing_yet, with_item, ItemFormed, item_checks, series_lines}
use Rattle.text_line.specs.Rendered.{line_is}
use Rattle.series_line.specs.Rendered.{series_readable, letter_not_next}
use Rattle.series_line.specs.Reading.{next_here, next_stands, no_next}
use Rattle.series_block.specs.Reading.{StepHere}
use Rattle.text_draft.specs.declared.Lines.{Lines}
use Rattle.meaning.specs.declared.Refused.{Refused}

-- a series that is a scene so far
abbrev pub scene_alone : Scene → SoFar
scene_alone s = record { scene = s; begun = false; blocks = []; block = [] }

-- ---- the promise

-- the draft holds the scene, and the lines down to the place come to it
pub record FrontRead (text : List ℕ) (b : Scene) (table : List ℕ) (c : SceneCounts) (at : ℕ) : Type 0 where
  pub scene : Scene
  pub drafted : Drafted b table scene c
  pub here : StepHere text at (scene_alone scene) scene (take (6 * c.vertices) b.positions) (take (2 * c.seams) b.seams)
  pub lines : total c ≡ length here.reached.above
  pub few : total c ≤ at
  pub ended : (length text ≤ at) ⊎ Stands text at (item_line next) (at + 2)

unfoldable pub FrontIs : List ℕ → Scene → List ℕ → Result Lines Refused → Type 0
FrontIs text b table (Err f) = FaultyAt series_lines nothing_yet text (number_of f.why) f.carries
FrontIs text b table (Ok lines) = FrontRead text b table lines.counts lines.at

-- ---- the lines of a scene are lines of a series

of_sound : (s : Scene) (rs : List Entry) (below : List ℕ) → Sound scene_lines s rs below → Sound series_lines (scene_alone s) (map of rs) below
unfolding Sound ItemFormed item_checks with_item
of_sound s [] below h = tt
of_sound s (r ∷ rs) below h = (
  (refl, h.0),
  lets_pass (λ t. Unit {0}) (record { number = 10; holds = false; carries = 0 }) _ (given tt) refl h.1,
  of_sound (scene_with s r) rs below h.2,
)

of_lines : (rs : List Entry) → lines_of series_lines (map of rs) ≡ lines_of scene_lines rs
unfolding flat_map item_line
of_lines [] = refl
of_lines (r ∷ rs) = ap (λ (l : List ℕ). Text.line_of r ++ l) (of_lines rs)

of_after : (s : Scene) (rs : List Entry) → after_all series_lines (scene_alone s) (map of rs) ≡ scene_alone (after_all scene_lines s rs)
unfolding after_all with_item
of_after s [] = refl
of_after s (r ∷ rs) = of_after (scene_with s r) rs

module _ {text : List ℕ} {s : Scene} {at : ℕ} (i : Reached scene_lines none text s at) where
  of_reached : Reached series_lines nothing_yet text (scene_alone s) at
  of_reached = record {
    above = map of i.above;
    ran = record {
      sound = of_sound none i.above (drop at text) i.ran.sound;
      lines = i.ran.lines ∙ ap (λ (l : List ℕ). l ++ drop at text) (sym (of_lines i.above));
    };
    state = ap scene_alone i.state ∙ sym (of_after none i.above);
    within = i.within;
  }

of_fault : (text : List ℕ) (at : ℕ) (s : Scene) {n : ℕ} → next_here text at ≡ false → Text.SceneFault s (drop at text) n
    → Fault series_lines (scene_alone s) (drop at text) n
unfolding ItemFormed item_line item_checks
of_fault text at s no_n (unformed e some never) = unformed e some no_line
  where
    no_line : (i : Item) (rest : List ℕ) → ItemFormed (scene_alone s) i → drop at text ≡ item_line i ++ rest → ⊥
    no_line (of r) rest f eq = never r rest f.1 eq
    no_line (ends p) rest f eq = true≢false (sym f.0)
    no_line next rest f eq = no_next text at no_n rest eq
of_fault text at s {n} no_n (misplaced r rest formed eq j) =
    misplaced (of r) rest (refl, formed) eq
    (lets_pass (λ t. Unit {0}) (record { number = 10; holds = false; carries = 0 }) _ (refused n 0) refl j)

-- each line has a byte at least
lines_few : {x : SoFar} {text : List ℕ} {at : ℕ} (r : Reached series_lines nothing_yet text x at) → length r.above ≤ at
lines_few {x} {text} {at} r =
    omega (
      arith,
      records_few series_readable r.above,
      ap length r.ran.lines ∙ length-append (lines_of series_lines r.above) (drop at text),
      length-drop at text,
      r.within,
    )

-- ---- the laws

module _ {text : List ℕ} {b : Scene} {table : List ℕ} {c : SceneCounts} {at : ℕ} (i : Drafting text b table c at) where
  front_read : (length text ≤ at) ⊎ Stands text at (item_line next) (at + 2) → FrontRead text b table c at
  unfolding last_from of_reached
  front_read e =
      let d : Drafted b table i.scene c = i.drafted in
      let r : Reached series_lines nothing_yet text (scene_alone i.scene) at = of_reached i.reached in
      let many : total c ≡ length (map of i.reached.above) = i.lines ∙ sym (length-map i.reached.above of) in
      record {
        scene = i.scene;
        drafted = d;
        here = record {
          reached = r;
          step = refl;
          whole = refl;
          accepted = d.above.accepted;
          vertices = refl;
          long = omega (arith, d.above.lengths.positions);
          draft = d.fronts.positions;
          seams = d.fronts.seams;
        };
        lines = many;
        few = omega (arith, many, lines_few r);
        ended = e;
      }

  pub front_ends : length text ≤ at → FrontIs text b table (Ok (record { counts = c; at = at }))
  unfolding FrontIs
  front_ends h = front_read (inl h)

next_first : (text : List ℕ) (at : ℕ) → next_here text at ≡ true → drop at text ≡ 110 ∷ (line_feed ∷ drop (at + 2) text)
unfolding item_line
next_first text at here = (next_stands text at here).here

-- an `n` is no record of a scene, so that a scene is at fault there with 9
next_is_nine : (text : List ℕ) (at : ℕ) (s : Scene) {n : ℕ} → next_here text at ≡ true → Text.SceneFault s (drop at text) n → n ≡ 9
next_is_nine text at s here (unformed e some never) = e
next_is_nine text at s here (misplaced r rest formed eq j) =
    absurd (letter_not_next r (head-eq_of_cons-eq (sym (line_is r rest) ∙ sym eq ∙ next_first text at here)))

module _ {text : List ℕ} {b : Scene} {table : List ℕ} {f : Refusal} {c : SceneCounts} {at : ℕ} (i : StoppedAt text b table f c at) where
  pub front_next : next_here text at ≡ true → FrontIs text b table (Ok (record { counts = c; at = at }))
  unfolding FrontIs
  front_next h =
      front_read (record {
        scene = i.scene;
        reached = i.reached;
        drafted = i.here.kept (next_is_nine text at i.scene h i.here.fault);
        lines = i.lines;
      }) (inr (next_stands text at h))

  pub front_fails : {line : ℕ} → next_here text at ≡ false → line ≡ total c + 1 → FrontIs text b table (Err (carrying f line))
  unfolding FrontIs of_reached
  front_fails no_n l =
      let many : total c ≡ length (map of i.reached.above) = i.lines ∙ sym (length-map i.reached.above of) in
      reached_fault (of_reached i.reached) (of_fault text at i.scene no_n i.here.fault) (l ∙ ap (λ (k : ℕ). k + 1) many)
