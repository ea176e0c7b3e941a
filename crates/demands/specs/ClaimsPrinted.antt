-- The answers to claims that are printed are one: two results that meet the promise are equal, lent buffers too. So a line `refused` is the scene's fault
-- where the scene's text has one, else the claims', and a line for each claim stands where neither has one.
use Rattle.std.specs.Prelude.{ℕ, ◌≤◌, ◌<◌, Bool, List, ◌≡◌, refl, length, take}
use Rattle.std.proofs.Common.{ap, subst, arith}
use Rattle.meaning.specs.Limits.{text_limit, claim_room}
use Rattle.meaning.specs.Scene.{Scene}
use Rattle.meaning.specs.Refusals.{Outcome, given, refused}
use Rattle.meaning.specs.Text.{Holds, SceneFaultyAt}
use Rattle.meaning.specs.Report.{refused_line, OfAllRead}
use Rattle.meaning.specs.shown.ReadShown.{front_read}
use Rattle.meaning.specs.Claims.{ClaimsOutcome, answer_lines, AnswersOf, too_long, no_scene, refused_claims, answered, AnswersReported}
use Rattle.answers.specs.Printed.{one_in_front}
use Rattle.text_scene.specs.OneReading.{same_scene, held_or_faulty, faulty_one}
use Rattle.claim_answers.specs.Checking.{one_outcome}

-- ---- one result

-- the lines for an outcome of the claims
unfoldable lines_for : Outcome (List Bool) → List ℕ
lines_for (given bs) = answer_lines bs
lines_for (refused n c) = refused_line n c

same_lines : {s t : Scene} {text : List ℕ} → s ≡ t → (o p : Outcome (List Bool)) → ClaimsOutcome s text claim_room o → ClaimsOutcome t text claim_room p
    → lines_for o ≡ lines_for p
same_lines {s} {t} {text} e o p h k =
    ap lines_for (one_outcome t text claim_room o p (subst (λ (u : Scene). ClaimsOutcome u text claim_room o) e h) k)

pub one_answers : {scene_text text r r' : List ℕ} → AnswersOf scene_text text r → AnswersOf scene_text text r' → r ≡ r'
unfolding lines_for
one_answers (too_long h) (too_long k) = refl
one_answers (too_long h) (no_scene m place k g) = absurd (omega arith)
one_answers (too_long h) (refused_claims t m d k b q) = absurd (omega arith)
one_answers (too_long h) (answered t bs k b q) = absurd (omega arith)
one_answers (no_scene n line h f) (too_long k) = absurd (omega arith)
one_answers (no_scene n line h f) (no_scene m place k g) = faulty_one f g
one_answers (no_scene n line h f) (refused_claims t m d k b q) = absurd (held_or_faulty b f)
one_answers (no_scene n line h f) (answered t bs k b q) = absurd (held_or_faulty b f)
one_answers (refused_claims s n c h a p) (too_long k) = absurd (omega arith)
one_answers (refused_claims s n c h a p) (no_scene m place k g) = absurd (held_or_faulty a g)
one_answers (refused_claims s n c h a p) (refused_claims t m d k b q) = same_lines (same_scene a b) (refused n c) (refused m d) p q
one_answers (refused_claims s n c h a p) (answered t bs k b q) = same_lines (same_scene a b) (refused n c) (given bs) p q
one_answers (answered s ys h a p) (too_long k) = absurd (omega arith)
one_answers (answered s ys h a p) (no_scene m place k g) = absurd (held_or_faulty a g)
one_answers (answered s ys h a p) (refused_claims t m d k b q) = same_lines (same_scene a b) (given ys) (refused m d) p q
one_answers (answered s ys h a p) (answered t bs k b q) = same_lines (same_scene a b) (given ys) (given bs) p q

pub one_answers_reported : (scene_text text o o' o'' : List ℕ) (n n' : ℕ) → AnswersReported scene_text text o o' n → AnswersReported scene_text text o o'' n'
    → (n ≡ n') × (o' ≡ o'')
one_answers_reported scene_text text o o' o'' n n' p q = one_in_front (AnswersOf scene_text text) (λ l k h g. one_answers h g) p q

-- of what was read: there are always texts of which that was read
pub one_answers_read : (scene claims o o' o'' : List ℕ) (count claimed n n' : ℕ)
    → OfAllRead (λ (s : List ℕ). OfAllRead (λ (t : List ℕ). AnswersReported s t o o' n) claims claimed) scene count
    → OfAllRead (λ (s : List ℕ). OfAllRead (λ (t : List ℕ). AnswersReported s t o o'' n') claims claimed) scene count
    → (n ≡ n') × (o' ≡ o'')
one_answers_read scene claims o o' o'' count claimed n n' p q =
    let s = take count scene in
    let t = take claimed claims in
    one_answers_reported s t o o' o'' n n' (p s (front_read scene count) t (front_read claims claimed)) (q s (front_read scene count) t (front_read claims claimed))

-- ---- taken apart: whose fault a line tells

module _ {scene_text text r : List ℕ} (printed : AnswersOf scene_text text r) where
  pub long_scene_printed : text_limit < length scene_text → r ≡ refused_line 8 0
  long_scene_printed long = one_answers printed (too_long long)

  module _ (short : length scene_text ≤ text_limit) where
    pub scene_fault_printed : (n line : ℕ) → SceneFaultyAt scene_text n line → r ≡ refused_line n line
    scene_fault_printed n line f = one_answers printed (no_scene n line short f)

    pub claims_fault_printed : (s : Scene) (n c : ℕ) → Holds scene_text s → ClaimsOutcome s text claim_room (refused n c) → r ≡ refused_line n c
    claims_fault_printed s n c held out = one_answers printed (refused_claims s n c short held out)

    pub answers_printed : (s : Scene) (bs : List Bool) → Holds scene_text s → ClaimsOutcome s text claim_room (given bs) → r ≡ answer_lines bs
    answers_printed s bs held out = one_answers printed (answered s bs short held out)
