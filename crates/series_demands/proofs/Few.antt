-- An entry of the log has room in its row.
use Rattle.std.specs.Prelude.{ℕ, ◌≤◌, refl, length}
use mathlib.Core.List.{List, ◌∷◌, Memᴰ}
use Rattle.std.proofs.Common.{sym, ap, ◌∙◌, subst, arith, length-append}
use Rattle.meaning.specs.Limits.{text_limit}
use Rattle.meaning.specs.Series.{Series, steps_of, HitAt, Told, ToldRight}
use Rattle.meaning.specs.SeriesText.{HoldsSeries}
use Rattle.list_pairs.specs.Sizes.{pairs_narrow}
use Rattle.series_laws.specs.AllAccepted.{steps_accepted}
use Rattle.series_laws.specs.TrueHits.{HitThere, logged_hits}
use Rattle.series_demands.specs.Few.{steps_few, Fits}

pub logged_fits : {text : List ℕ} {x : Series} {t : Told} → HoldsSeries text x → length text ≤ text_limit → ToldRight x t
    → (h : HitAt) → Memᴰ h t.log → Fits h
logged_fits {text} {x} {t} holds brief right h m =
    let g : HitThere 1 (steps_of x) h = logged_hits x t right h m in
    let among : Memᴰ g.here (steps_of x) =
    subst (Memᴰ g.here) (sym g.steps) (mathlib.Core.List.Memᴰ.append_right g.before (mathlib.Core.List.Memᴰ.head refl)) in
    record {
      step = omega (
        arith,
        g.number,
        steps_few holds,
        ap length g.steps ∙ length-append g.before (g.here ∷ g.behind),
        brief,
      );
      places = pairs_narrow g.here (steps_accepted holds g.here among) h.pair g.listed;
    }
