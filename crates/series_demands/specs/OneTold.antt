-- What is told of a series is one thing; and the log keeps the first cause: a longer series has the shorter one's log in front of its own.
use Rattle.std.specs.Prelude.{ℕ, ◌<◌, List, [], ◌∷◌, ◌++◌, ◌≡◌, refl, ℤ, length}
use Rattle.std.proofs.Common.{sym, ap, ◌∙◌}
use Rattle.meaning.specs.Scene.{Scene}
use Rattle.meaning.specs.List.{pairs}
use Rattle.meaning.specs.declared.Settled.{Settled}
use Rattle.list_words.specs.OneResult.{all_judged_one}
use Rattle.meaning.specs.Series.{Series, steps_of, HitAt, StepsSettled, Told, told_of, ToldRight}
use Rattle.series_laws.specs.Longer.{longer, goes_on}

words_one : (ss : List Scene) (us vs : List (List Settled)) → StepsSettled ss us → StepsSettled ss vs → us ≡ vs
unfolding StepsSettled
words_one [] [] [] h k = refl
words_one [] [] (v ∷ vs) h k = absurd k
words_one [] (u ∷ us) vs h k = absurd h
words_one (s ∷ ss) [] vs h k = absurd h
words_one (s ∷ ss) (u ∷ us) [] h k = absurd k
words_one (s ∷ ss) (u ∷ us) (v ∷ vs) h k =
    let e = all_judged_one s (pairs s) u v h.0 k.0 in
    let f = words_one ss us vs h.1 k.1 in
    λ i. e i ∷ f i

pub one_told : (x : Series) (t u : Told) → ToldRight x t → ToldRight x u → t ≡ u
one_told x t u h k =
    h.told ∙ ap (told_of x) (words_one (steps_of x) h.words k.words h.settled k.settled) ∙ sym k.told

-- whatever blocks follow, what the log held stays in front of it
pub log_in_front : (x : Series) (more : List (List ℤ)) (t u : Told) → ToldRight x t → ToldRight (longer x more) u
    → (rest : List HitAt) × (u.log ≡ t.log ++ rest)
log_in_front x more t u h k =
    let g = goes_on x more u k in
    (g.rest, g.log ∙ ap (λ (z : Told). z.log ++ g.rest) (one_told x g.shorter t g.right h))
