-- Two results that meet the promise are equal, refused calls too: a scene turned round.
use Rattle.std.specs.Prelude.{◌≡◌, Result}
use Rattle.std.proofs.Common.{sym, ◌∙◌, ap}
use Rattle.meaning.specs.Scene.{Scene}
use Rattle.meaning.specs.Backwards.{turned_left, Turning}
use Rattle.answers.specs.Speaking.{one_scene_answer}
use Rattle.meaning.specs.declared.Refusal.{Refusal}
use Rattle.meaning.specs.Refusals.{outcome_alone}

pub one_turning : (s t t' : Scene) (r r' : Result (Unit {0}) Refusal) → Turning s t r → Turning s t' r' → (r ≡ r') × (t ≡ t')
one_turning s t t' r r' p q =
    let same : r ≡ r' = one_scene_answer s r r' p.answer q.answer in
    (same, p.scene ∙ ap (λ (x : Result (Unit {0}) Refusal). turned_left (outcome_alone x) s) same ∙ sym q.scene)
