-- From the check of a scene to an accepted scene and back, and the checks that come after the five.
use Rattle.std.specs.Prelude.{List, ◌++◌, ◌≡◌, Err, Ok, Result}
use Rattle.std.proofs.Common.{subst}
use Rattle.meaning.specs.Scene.{Scene, Accepted}
use Rattle.meaning.specs.Refusals.{Outcome, refused, number_of, Check, Answers, scene_checks, SceneChecked, outcome_alone}
use Rattle.meaning.specs.declared.Refusal.{Refusal}
use Rattle.answers.specs.Answering.{is_given, refused_before, given_before, given_after}

pub accepted_checked : (s : Scene) → Accepted s → SceneChecked s (Ok tt)
unfolding Answers outcome_alone
accepted_checked s a = rw (a.shapely, a.in_range, a.known, a.sewn_well, a.distinct) tt

pub checked_accepted : (s : Scene) → SceneChecked s (Ok tt) → Accepted s
unfolding outcome_alone
checked_accepted s a =
    let (h1, a1) = is_given (λ t. Unit {0}) _ _ tt a in
    let (h2, a2) = is_given (λ t. Unit {0}) _ _ tt a1 in
    let (h3, a3) = is_given (λ t. Unit {0}) _ _ tt a2 in
    let (h4, a4) = is_given (λ t. Unit {0}) _ _ tt a3 in
    let (h5, a5) = is_given (λ t. Unit {0}) _ _ tt a4 in
    record { shapely = h1; in_range = h2; known = h3; sewn_well = h4; distinct = h5 }

-- of an answer that turned out so
pub accepted_by : (s : Scene) {r : Result (Unit {0}) Refusal} → r ≡ Ok tt → SceneChecked s r → Accepted s
accepted_by s e p = checked_accepted s (subst (SceneChecked s) e p)

module _ {A : Type 0} (s : Scene) (more : List Check) (Right : A → Type 0) where
  pub after_accepted : (o : Outcome A) → Accepted s → Answers more Right o → Answers (scene_checks s ++ more) Right o
  unfolding outcome_alone
  after_accepted o a p = given_before (λ t. Unit {0}) Right (scene_checks s) more tt o (accepted_checked s a) p

  pub past_accepted : (o : Outcome A) → Accepted s → Answers (scene_checks s ++ more) Right o → Answers more Right o
  unfolding outcome_alone
  past_accepted o a p = given_after (λ t. Unit {0}) Right (scene_checks s) more tt o (accepted_checked s a) p

  pub after_refused : {r : Result (Unit {0}) Refusal} {x : Refusal} → r ≡ Err x → SceneChecked s r → Answers (scene_checks s ++ more) Right (refused (number_of x) 0)
  unfolding outcome_alone
  after_refused {r} {x} e p =
      refused_before (λ t. Unit {0}) Right (scene_checks s) more (number_of x) 0 (subst (SceneChecked s) e p)
