-- 12 before the scene's own checks, and those that a call has behind them.
use Rattle.std.specs.Prelude.{true, false, List, ◌++◌, ◌≡◌, refl, ℤ, Err, Result}
use Rattle.meaning.specs.Scene.{Scene, Accepted}
use Rattle.meaning.specs.Refusals.{Outcome, refused, number_of, Check, Answers, scene_checks, SceneChecked}
use Rattle.meaning.specs.StoredBoxes.{short_boxes, box_checks}
use Rattle.meaning.specs.declared.Refusal.{Refusal}
use Rattle.answers.specs.Answering.{refuses, lets_pass, is_past}
use Rattle.scene_checks.specs.Accepting.{after_accepted, after_refused, past_accepted}

module _ {A : Type 0} (s : Scene) (b : List ℤ) (more : List Check) (Right : A → Type 0) where
  -- 12
  pub short_boxes_lem : short_boxes b ≡ true → Answers (box_checks s b ++ more) Right (refused 12 0)
  short_boxes_lem h = refuses Right _ (scene_checks s ++ more) (refused 12 0) h refl

  module _ (long : short_boxes b ≡ false) where
    -- the scene's own
    pub boxed_refused : {r : Result (Unit {0}) Refusal} {x : Refusal} → r ≡ Err x → SceneChecked s r
        → Answers (box_checks s b ++ more) Right (refused (number_of x) 0)
    boxed_refused {r} {x} e p = lets_pass Right _ (scene_checks s ++ more) (refused (number_of x) 0) long (after_refused s more Right e p)

    -- those behind decide, and nothing else does
    pub boxed_accepted : (o : Outcome A) → Accepted s → Answers more Right o → Answers (box_checks s b ++ more) Right o
    boxed_accepted o a p = lets_pass Right _ (scene_checks s ++ more) o long (after_accepted s more Right o a p)

    pub past_boxed : (o : Outcome A) → Accepted s → Answers (box_checks s b ++ more) Right o → Answers more Right o
    past_boxed o a p = past_accepted s more Right o a (is_past Right _ (scene_checks s ++ more) o long p)
