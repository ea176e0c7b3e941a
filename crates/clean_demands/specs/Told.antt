-- What is told of a series says it: no hit and no touch in any step. A series that was read from a text has accepted steps.
use Rattle.std.specs.Prelude.{ℕ, ◌≡◌, List, [], ◌∷◌}
use Rattle.std.proofs.Common.{arith, sym, ◌∙◌, ap, subst, ⊎_elim}
use mathlib.Core.List.Memᴰ
use Rattle.meaning.specs.Scene.{Scene}
use Rattle.meaning.specs.Series.{Series, steps_of, StepsSettled, total_of, counted, Told, ToldRight}
use Rattle.meaning.specs.declared.Settled.{Settled}
use Rattle.meaning.specs.declared.Settled.TheVariants.{Hit, Touch}
use Rattle.clean_demands.specs.Mesh.{NothingTouched}
use Rattle.clean_demands.specs.Listed.{totals_untroubled}
use Rattle.clean_demands.specs.Steps.{EachStep}

-- the words of all steps, none of them hit and none touch
steps_untouched : (ss : List Scene) (wss : List (List Settled)) → StepsSettled ss wss → total_of Hit wss ≡ 0 → total_of Touch wss ≡ 0 → EachStep NothingTouched ss
unfolding StepsSettled total_of
steps_untouched [] wss a e f s m = absurd (Memᴰ.not-nil m)
steps_untouched (t ∷ ss) [] a e f s m = absurd a
steps_untouched (t ∷ ss) (ws ∷ wss) a e f s m =
    ⊎_elim (λ is. subst NothingTouched (sym is) (totals_untroubled t ws a.0 (omega arith) (omega arith)))
    (λ later. steps_untouched ss wss a.1 (omega arith) (omega arith) s later)
    (Memᴰ.cases_cons m)

none_counted : (n : ℕ) → counted n ≡ 0 → n ≡ 0
none_counted n e = omega arith

-- a series of which no hit and no touch is told
pub told_untouched : (x : Series) (t : Told) → ToldRight x t → t.hits ≡ 0 → t.touches ≡ 0 → EachStep NothingTouched (steps_of x)
told_untouched x t right hits touches =
    steps_untouched (steps_of x) right.words right.settled
    (none_counted (total_of Hit right.words) (sym (ap (λ (u : Told). u.hits) right.told) ∙ hits))
    (none_counted (total_of Touch right.words) (sym (ap (λ (u : Told). u.touches) right.told) ∙ touches))
