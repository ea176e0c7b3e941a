-- The answers of what was read of two texts: of the texts themselves, or of every text that begins so.
use Rattle.std.specs.Prelude.{ℕ, ◌<◌, min, Bool, true, List, [], ◌∷◌, ◌++◌, ◌≡◌, length, take}
use Rattle.std.proofs.Common.{sym, ◌∙◌, subst, arith, lt-ltb}
use Rattle.meaning.specs.Limits.{text_limit, claim_room}
use Rattle.meaning.specs.Scene.{Scene}
use Rattle.meaning.specs.Refusals.{Outcome, given, refused, Check, Answers, scene_checks}
use Rattle.meaning.specs.Text.{long_text}
use Rattle.meaning.specs.Report.{OfAllRead}
use Rattle.meaning.specs.Claims.{FirstIs, ClaimsOutcome, before, faulty, read, AnswersOf, too_long, no_scene, refused_claims, answered, AnswersReported}
use Rattle.answers.specs.Answering.{is_refused, is_given}
use Rattle.text_scene.specs.ReadSoFar.{StandsFor, whole, long, stands_for}

-- a last check that holds lets nothing pass
none_past : (ks : List Check) (k : Check) → k.holds ≡ true → Answers (ks ++ (k ∷ [])) (λ (t : Unit {0}). Unit {0}) (given tt) → ⊥
none_past [] k h a = let e = is_refused (λ (t : Unit {0}). Unit {0}) k [] (given tt) h a in let z : ◌≡◌ {A = ℕ} 0 1 = cc in omega arith
none_past (j ∷ ks) k h a = none_past ks k h (is_given (λ (t : Unit {0}). Unit {0}) j (ks ++ (k ∷ [])) tt a).1

module _ (s : Scene) (text other : List ℕ) (h : text_limit < length text) (k : text_limit < length other) where
  too_long_lem : long_text text ≡ true
  too_long_lem = lt-ltb text_limit (length text) h

  also_long : long_text other ≡ true
  also_long = lt-ltb text_limit (length other) k

  refused_alike : (n c : ℕ) → FirstIs s text (refused n c) → FirstIs s other (refused n c)
  refused_alike n c f =
      let same : long_text text ≡ long_text other = too_long_lem ∙ sym also_long in
      rw same at f

  never_past : FirstIs s text (given tt) → ⊥
  never_past a = none_past (scene_checks s) (record { number = 8; holds = long_text text; carries = 0 }) too_long_lem a

  outcome_alike : {o : Outcome (List Bool)} → ClaimsOutcome s text claim_room o → ClaimsOutcome s other claim_room o
  outcome_alike (before n c e f) = before n c e (refused_alike n c f)
  outcome_alike (faulty n line e f a) = absurd (never_past f)
  outcome_alike (read cs f a b) = absurd (never_past f)

-- claims that are too long are answered alike, and so is a scene text that is too long
claims_alike : (scene text other l : List ℕ) → text_limit < length text → text_limit < length other → AnswersOf scene text l → AnswersOf scene other l
claims_alike scene text other l h k (too_long x) = too_long x
claims_alike scene text other l h k (no_scene n line x f) = no_scene n line x f
claims_alike scene text other l h k (refused_claims s n c x a o) = refused_claims s n c x a (outcome_alike s text other h k o)
claims_alike scene text other l h k (answered s bs x a o) = answered s bs x a (outcome_alike s text other h k o)

scene_alike : (scene other text l : List ℕ) → text_limit < length scene → text_limit < length other → AnswersOf scene text l → AnswersOf other text l
scene_alike scene other text l h k (too_long x) = too_long k
scene_alike scene other text l h k (no_scene n line x f) = absurd (omega (arith, h, x))
scene_alike scene other text l h k (refused_claims s n c x a o) = absurd (omega (arith, h, x))
scene_alike scene other text l h k (answered s bs x a o) = absurd (omega (arith, h, x))

for_scene : (scene front text l : List ℕ) → StandsFor scene front → AnswersOf front text l → AnswersOf scene text l
for_scene scene front text l (whole e) a = subst (λ (t : List ℕ). AnswersOf t text l) (sym e) a
for_scene scene front text l (long h k) a = scene_alike front scene text l k h a

for_claims : (scene text front l : List ℕ) → StandsFor text front → AnswersOf scene front l → AnswersOf scene text l
for_claims scene text front l (whole e) a = subst (λ (t : List ℕ). AnswersOf scene t l) (sym e) a
for_claims scene text front l (long h k) a = claims_alike scene front text l k h a

pub answers_of_read : {scene claims o o' : List ℕ} {count claimed n : ℕ} → text_limit < length scene → text_limit < length claims
    → AnswersReported (take (min count (length scene)) scene) (take (min claimed (length claims)) claims) o o' n
    → OfAllRead (λ (s : List ℕ). OfAllRead (λ (t : List ℕ). AnswersReported s t o o' n) claims claimed) scene count
answers_of_read {scene} {claims} {o} {o'} {count} {claimed} {n} wide also p s r t q =
    record {
      report = p.report;
      right = for_scene s (take (min count (length scene)) scene) t p.report (stands_for r wide)
          (for_claims (take (min count (length scene)) scene) t (take (min claimed (length claims)) claims) p.report (stands_for q also) p.right);
      length_is = p.length_is;
      buffer = p.buffer;
    }
