-- Records below records: what they come to, their lines, and that none is at fault.
use mathlib.Core.List.{List, [], ◌∷◌, ◌++◌, flat_map, append_assoc}
use Rattle.std.specs.Prelude.{◌≡◌, ℕ}
use Rattle.std.proofs.Math.Path.{refl, subst}
use Rattle.std.proofs.Common.{sym, ap, ◌∙◌}
use Rattle.sequences.specs.Flat.{flat_append}
use Rattle.meaning.specs.Refusals.{given}
use Rattle.meaning.specs.Lines.{Grammar, nothing, RecordJudged, lines_of, after_all, Sound}

module _ (g : Grammar) where
  pub after_append : (s : g.State) (rs qs : List g.Record) → after_all g s (rs ++ qs) ≡ after_all g (after_all g s rs) qs
  unfolding after_all
  after_append s [] qs = refl
  after_append s (r ∷ rs) qs = after_append (g.after s r) rs qs

  lines_below : (rs qs : List g.Record) (below : List ℕ) → lines_of g rs ++ (lines_of g qs ++ below) ≡ lines_of g (rs ++ qs) ++ below
  lines_below rs qs below =
      sym (append_assoc (lines_of g rs) (lines_of g qs) below) ∙ ap (λ (l : List ℕ). l ++ below) (sym (flat_append g.line rs qs))

  pub sound_append : (s : g.State) (rs qs : List g.Record) (below : List ℕ) → Sound g s rs (lines_of g qs ++ below)
      → Sound g (after_all g s rs) qs below → Sound g s (rs ++ qs) below
  unfolding Sound after_all
  sound_append s [] qs below h k = k
  sound_append s (r ∷ rs) qs below h k = (
    h.0,
    subst (λ (l : List ℕ). RecordJudged g s r (nothing l) (given tt)) (lines_below rs qs below) h.1,
    sound_append (g.after s r) rs qs below h.2 k,
  )

  pub sound_below : (s : g.State) (rs : List g.Record) {below below' : List ℕ} → below ≡ below' → Sound g s rs below → Sound g s rs below'
  sound_below s rs e h = subst (Sound g s rs) e h
