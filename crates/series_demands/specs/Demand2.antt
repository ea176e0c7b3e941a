-- Demand 2 of a series, which reads per step: every step of a text's series is accepted, and of each the verdicts, the list and the pairs that it
-- leaves out are as demanded. The hits of a series are the listed pairs of its steps that are hit, and every entry of the log is one of them.
use Rattle.std.specs.Prelude.{ℕ, ◌+◌, false, ◌≡◌, length}
use mathlib.Core.List.{List, ◌∷◌, ◌++◌, Memᴰ}
use Rattle.std.proofs.Common.{sym, ◌∙◌, subst, le_refl}
use Rattle.meaning.specs.Limits.{coordinate_limit}
use Rattle.meaning.specs.Scene.{Scene, Accepted}
use Rattle.meaning.specs.Refusals.{not_there, shares}
use Rattle.meaning.specs.Boxes.{boxes_meet}
use Rattle.meaning.specs.List.{Pair, pairs}
use Rattle.meaning.specs.Series.{Series, steps_of, HitAt, hit_at, hits_from, hits_of, StepsSettled, Told, ToldRight}
use Rattle.meaning.specs.SeriesText.{HoldsSeries}
use Rattle.meaning.specs.declared.Kind.{Kind}
use Rattle.meaning.specs.declared.Settled.{Settled}
use Rattle.meaning.specs.declared.Settled.TheVariants.{Hit}
use Rattle.demands.specs.Demand2.{demand2_verdicts, AnswersAsDemanded, demand2_answers, ListAsDemanded, demand2_list, ApartAsDemanded, demand2_culled}
use Rattle.series_laws.specs.AllAccepted.{steps_accepted}
use Rattle.series_laws.specs.TrueHits.{HasWord, HitThere, logged_hits, hit_of_steps}

pub record StepAsDemanded (s : Scene) : Type 0 where
  pub accepted : Accepted s
  pub answers : (kind : Kind) (i j : ℕ) → not_there s kind i j ≡ false → shares s kind i j ≡ false → AnswersAsDemanded s kind i j
  pub list : ListAsDemanded s (pairs s)
  pub culled : (kind : Kind) (i j : ℕ) → shares s kind i j ≡ false → boxes_meet s kind i j ≡ false → ApartAsDemanded s kind i j

pub demand2_series : {text : List ℕ} {x : Series} → HoldsSeries text x → (s : Scene) → Memᴰ s (steps_of x) → StepAsDemanded s
demand2_series h s m =
    let a : Accepted s = steps_accepted h s m in
    record {
      accepted = a;
      answers = demand2_answers coordinate_limit (le_refl coordinate_limit) a;
      list = demand2_list s;
      culled = demand2_culled s;
    }

one_word_lem : (s : Scene) (p : Pair) (w : Settled) → HasWord s p w → HasWord s p Hit → w ≡ Hit
one_word_lem s p w h hit =
    let only = (demand2_verdicts s p.kind p.first p.second).pair.one_word.only in
    only w h ∙ sym (only Hit hit)

-- a listed pair of a step that is hit there is among the hits, with the step's number, counted from 1
pub every_hit : (x : Series) (words : List (List Settled)) → StepsSettled (steps_of x) words
    → (before : List Scene) (s : Scene) (behind : List Scene) → steps_of x ≡ before ++ (s ∷ behind)
    → (p : Pair) → Memᴰ p (pairs s) → HasWord s p Hit → Memᴰ (hit_at (1 + length before) p) (hits_of x words)
every_hit x words settled before s behind steps p listed hit =
    subst (λ (ss : List Scene). Memᴰ (hit_at (1 + length before) p) (hits_from 1 ss words)) (sym steps)
    (hit_of_steps one_word_lem 1 before s behind words p (subst (λ (ss : List Scene). StepsSettled ss words) steps settled) listed hit)

-- and every entry of the log is such a pair
pub true_log : (x : Series) (t : Told) → ToldRight x t → (h : HitAt) → Memᴰ h t.log → HitThere 1 (steps_of x) h
true_log = logged_hits
