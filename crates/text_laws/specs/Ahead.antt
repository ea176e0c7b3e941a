-- How a reader goes down a text that has no faulty line: which records are still ahead.
use mathlib.Core.List.{List, [], ◌∷◌, ◌++◌, flat_map, append-nil}
use Rattle.std.specs.Prelude.{◌≡◌, refl, ℕ, ◌+◌, ◌≤◌, ◌<◌}
use Rattle.std.proofs.Common.{sym, ◌∙◌, arith, length-append, drop_of_length-le}
use Rattle.std.proofs.Math.Path.{ap, subst}
use Rattle.std.proofs.Math.ListN.{length, drop, length-drop}
use Rattle.sequences.specs.Flat.{flat_cons}
use Rattle.sequences.specs.Stands.{Stands}
use Rattle.meaning.specs.Lines.{Grammar, nothing, RecordJudged, lines_of, Sound, Fault, AllSound}
use Rattle.text_laws.specs.Unique.{Readable, Stuck, fault_stuck, no_line_of_none}

pub record Ahead (g : Grammar) (text : List ℕ) (s : g.State) (at : ℕ) (below : List g.Record) : Type 0 where
  pub sound : Sound g s below []
  pub lines : drop at text ≡ lines_of g below

module _ {g : Grammar} (readable : Readable g) {text : List ℕ} where
  pub ahead_first : {s : g.State} {rs : List g.Record} → AllSound g s text rs → Ahead g text s 0 rs
  ahead_first h = record { sound = h.sound; lines = h.lines }

  module _ {s : g.State} {at : ℕ} {below : List g.Record} (a : Ahead g text s at below) where
    -- at the end there is none
    pub ahead_none : length text ≤ at → below ≡ []
    ahead_none h = go below (sym a.lines ∙ drop_of_length-le text h)
      where
        go : (rs : List g.Record) → lines_of g rs ≡ [] → rs ≡ []
        go [] e = refl
        go (r ∷ rs) e = absurd (no_line_of_none readable r (lines_of g rs) (sym e ∙ flat_cons g.line r rs))

    module _ (inside : at < length text) where
      -- before it there is one
      pub ahead_some : (r : g.Record) × (more : List g.Record) × (below ≡ r ∷ more)
      unfolding flat_map
      ahead_some = go below a.lines
        where
          go : (rs : List g.Record) → drop at text ≡ lines_of g rs → (r : g.Record) × (more : List g.Record) × (rs ≡ r ∷ more)
          go [] e = absurd (omega (arith, simp length-drop at (ap length e)))
          go (r ∷ rs) e = (r, rs, refl)

      -- it is not at fault
      pub ahead_never : {n : ℕ} → Fault g s (drop at text) n → ⊥
      unfolding Sound
      ahead_never fault =
          let (r, more, is) = ahead_some in
          let sound : Sound g s (r ∷ more) [] = subst (λ (rs : List g.Record). Sound g s rs []) is a.sound in
          let nil : lines_of g more ++ [] ≡ lines_of g more = append-nil (lines_of g more) in
          (fault_stuck readable fault).never r (lines_of g more ++ []) sound.0
          (a.lines ∙ ap (lines_of g) is ∙ flat_cons g.line r more ∙ ap (λ (l : List ℕ). g.line r ++ l) (sym nil)) sound.1

      -- and it is the one whose line stands there
      pub ahead_next : (r : g.Record) {next : ℕ} → g.Formed s r → Stands text at (g.line r) next
          → (more : List g.Record) × (below ≡ r ∷ more) × Ahead g text (g.after s r) next more
      unfolding Sound
      ahead_next r {next} formed stands =
          let (q, more, is) = ahead_some in
          let sound : Sound g s (q ∷ more) [] = subst (λ (rs : List g.Record). Sound g s rs []) is a.sound in
          let (same, rest) =
          readable.cancel r q (drop next text) (lines_of g more) formed sound.0
          (sym stands.here ∙ a.lines ∙ ap (lines_of g) is ∙ flat_cons g.line q more) in (
            more,
            is ∙ ap (λ (x : g.Record). x ∷ more) (sym same),
            record { sound = subst (λ (x : g.Record). Sound g (g.after s x) more []) (sym same) sound.2; lines = rest },
          )
