-- Records of which none is at fault, as computed (meaning/FirstFault), are a text of their grammar.
use Prim.Native.Nat.{ℕ, suc, ◌+◌, ◌≤◌}
use Rattle.std.specs.Prelude.{Bool}
use Rattle.std.proofs.Math.Bool.{false}
use mathlib.Core.List.{List, [], ◌∷◌, ◌++◌, flat_map, append_assoc}
use Rattle.std.proofs.Math.Path.{◌≡◌, refl, ap, subst}
use Rattle.std.proofs.Common.{sym, ◌∙◌, arith}
use Rattle.std.proofs.Math.ListN.{length}
use Rattle.meaning.specs.Refusals.{Outcome, given, refused}
use Rattle.meaning.specs.Lines.{Grammar, nothing, RecordJudged, lines_of, Sound}
use Rattle.meaning.specs.shown.FirstFault.{first_held, held_answers, none_of, or_else, first_fault}
use Rattle.text_laws.specs.Unique.{Readable}

module _ {g : Grammar} (readable : Readable g) where
  no_bytes : (rs : List g.Record) → nothing (lines_of g rs ++ []) ≡ none_of rs
  unfolding nothing none_of flat_map
  no_bytes [] = refl
  no_bytes (r ∷ rs) = ap nothing (append_assoc (g.line r) (lines_of g rs) []) ∙ some (g.line r) (lines_of g rs ++ []) (readable.some r)
    where
      some : (l x : List ℕ) → suc 0 ≤ length l → nothing (l ++ x) ≡ false
      some [] x h = absurd (omega arith)
      some (b ∷ l) x h = refl

  -- each record has its form, below those above it
  unfoldable pub EachFormed : g.State → List g.Record → Type 0
  EachFormed s [] = Unit
  EachFormed s (r ∷ rs) = g.Formed s r × EachFormed (g.after s r) rs

  -- records without a fault are a text
  pub no_fault : (s : g.State) (line : ℕ) (rs : List g.Record) → EachFormed s rs → first_fault g s line rs ≡ given tt → Sound g s rs []
  unfolding first_fault EachFormed Sound or_else
  no_fault s line [] f e = tt
  no_fault s line (r ∷ rs) f e =
      go (first_held (g.checks s r (none_of rs))) (held_answers (g.checks s r (none_of rs)))
      (no_fault (g.after s r) (line + 1) rs f.1) e
    where
      go : (o : Outcome (Unit {0})) → RecordJudged g s r (none_of rs) o
          → (first_fault g (g.after s r) (line + 1) rs ≡ given tt → Sound g (g.after s r) rs [])
          → or_else o line (first_fault g (g.after s r) (line + 1) rs) ≡ given tt
          → Sound g s (r ∷ rs) []
      go (given t) j more e =
          (f.0, subst (λ (b : Bool). RecordJudged g s r b (given tt)) (sym (no_bytes rs)) j, more e)
      go (refused n c) j more e = let z : ◌≡◌ {A = ℕ} 0 1 = cc in absurd (omega arith)
