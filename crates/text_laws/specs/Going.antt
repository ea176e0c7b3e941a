-- How a reader goes down a text: up to a place the lines are records, none at fault, and they come to a state. So it starts, goes on, finds
-- the first faulty line, or comes to the end.
use mathlib.Core.List.{List, [], ◌∷◌, ◌++◌, flat_map, append_assoc, append-nil}
use Rattle.std.specs.Prelude.{◌≡◌, refl, ℕ, ◌+◌, ◌≤◌, ◌<◌, length}
use Rattle.std.proofs.Math.Path.{sym, ap}
use Rattle.std.proofs.Common.{◌∙◌, subst, arith, drop_of_length-le}
use Rattle.std.proofs.Math.ListN.{drop, length-append}
use Rattle.sequences.specs.Flat.{flat_append}
use Rattle.sequences.specs.Stands.{Stands, stands_inside}
use Rattle.meaning.specs.Refusals.{given}
use Rattle.meaning.specs.Lines.{Grammar, nothing, RecordJudged, lines_of, after_all, Sound, Fault, AllSound, FaultyAt}
use Rattle.text_laws.specs.Below.{after_append, sound_append, sound_below}
use Rattle.text_laws.specs.Unique.{Readable, Ran}

pub record Reached (g : Grammar) (s₀ : g.State) (text : List ℕ) (s : g.State) (at : ℕ) : Type 0 where
  pub above : List g.Record
  pub ran : Ran g s₀ text above (drop at text)
  pub state : s ≡ after_all g s₀ above
  pub within : at ≤ length text

pub reached_first : (g : Grammar) (s₀ : g.State) (text : List ℕ) → Reached g s₀ text s₀ 0
unfolding flat_map Sound after_all
reached_first g s₀ text =
    record { above = []; ran = record { sound = tt; lines = refl }; state = refl; within = omega arith }

pub reached_none : (g : Grammar) (s₀ : g.State) (text : List ℕ) → length (reached_first g s₀ text).above ≡ 0
unfolding reached_first
reached_none g s₀ text = refl

module _ {g : Grammar} {s₀ : g.State} {text : List ℕ} {s : g.State} {at : ℕ} (i : Reached g s₀ text s at) where
  -- a line that is a record's, and not at fault
  pub reached_next : Readable g → (r : g.Record) {next : ℕ} → g.Formed s r → RecordJudged g s r (nothing (drop next text)) (given tt)
      → Stands text at (g.line r) next → Reached g s₀ text (g.after s r) next × (at < next)
  unfolding Sound after_all flat_map
  reached_next readable r {next} formed good stands =
      let all : List g.Record = i.above ++ (r ∷ []) in
      let lines : lines_of g all ≡ lines_of g i.above ++ g.line r =
      flat_append g.line i.above (r ∷ []) ∙ ap (λ (l : List ℕ). lines_of g i.above ++ l) (append-nil (g.line r)) in
      let below : drop at text ≡ lines_of g (r ∷ []) ++ drop next text =
      stands.here ∙ ap (λ (l : List ℕ). l ++ drop next text) (sym (append-nil (g.line r))) in (
        record {
          above = all;
          ran = record {
            sound = sound_append g s₀ i.above (r ∷ []) (drop next text) (sound_below g s₀ i.above below i.ran.sound)
                (subst (λ (x : g.State). Sound g x (r ∷ []) (drop next text)) i.state (formed, good, tt));
            lines = i.ran.lines
                ∙ ap (λ (l : List ℕ). lines_of g i.above ++ l) stands.here
                ∙ sym (append_assoc (lines_of g i.above) (g.line r) (drop next text))
                ∙ ap (λ (l : List ℕ). l ++ drop next text) (sym lines);
          };
          state = ap (λ (x : g.State). g.after x r) i.state ∙ sym (after_append g s₀ i.above (r ∷ []));
          within = stands_inside i.within stands;
        },
        omega (arith, stands.place, readable.some r),
      )

  -- the records above are then one more
  pub reached_longer : (readable : Readable g) (r : g.Record) {next : ℕ} (formed : g.Formed s r) (good : RecordJudged g s r (nothing (drop next text)) (given tt))
      (stands : Stands text at (g.line r) next) → length (reached_next readable r formed good stands).0.above ≡ length i.above + 1
  unfolding reached_next
  reached_longer readable r formed good stands = length-append i.above (r ∷ [])

  -- a line at fault is the first
  pub reached_fault : {n line : ℕ} → Fault g s (drop at text) n → line ≡ length i.above + 1 → FaultyAt g s₀ text n line
  reached_fault {n} {line} fault place =
      record {
        above = i.above;
        below = drop at text;
        sound = i.ran.sound;
        lines = i.ran.lines;
        place = place;
        fault = subst (λ (x : g.State). Fault g x (drop at text) n) i.state fault;
      }

  -- at the end none was
  pub reached_end : length text ≤ at → AllSound g s₀ text i.above
  reached_end h =
      let none : drop at text ≡ [] = drop_of_length-le text h in
      record {
        sound = sound_below g s₀ i.above none i.ran.sound;
        lines = i.ran.lines ∙ ap (λ (l : List ℕ). lines_of g i.above ++ l) none ∙ append-nil (lines_of g i.above);
      }
