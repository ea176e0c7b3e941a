-- The answers to claims that are printed, taken apart: what is printed is one of four things, each with what it says of the two texts.
use Rattle.std.specs.Prelude.{ℕ, ◌≤◌, ◌<◌, Bool, List, ◌⊎◌, ◌≡◌, refl, length}
use Rattle.std.proofs.Common.{inl, inr}
use Rattle.meaning.specs.Limits.{text_limit, claim_room}
use Rattle.meaning.specs.Scene.{Scene}
use Rattle.meaning.specs.Refusals.{given, refused}
use Rattle.meaning.specs.Text.{Holds, SceneFaultyAt}
use Rattle.meaning.specs.Report.{refused_line}
use Rattle.meaning.specs.Claims.{ClaimsOutcome, answer_lines, AnswersOf, too_long, no_scene, refused_claims, answered}

module _ (scene_text text : List ℕ) where
  -- a scene's text that is too long
  abbrev pub LongPrinted : List ℕ → Type 0
  LongPrinted r = (text_limit < length scene_text) × (r ≡ refused_line 8 0)

  -- the scene's first faulty line
  abbrev pub ScenePrinted : List ℕ → Type 0
  ScenePrinted r = (n : ℕ) × (line : ℕ) × (length scene_text ≤ text_limit) × SceneFaultyAt scene_text n line × (r ≡ refused_line n line)

  -- a refusal of the claims beside that scene
  abbrev pub ClaimsPrinted : List ℕ → Type 0
  ClaimsPrinted r =
      (s : Scene) × (n : ℕ) × (c : ℕ) × (length scene_text ≤ text_limit) × Holds scene_text s × ClaimsOutcome s text claim_room (refused n c)
      × (r ≡ refused_line n c)

  -- a line for each claim
  abbrev pub AnswersPrinted : List ℕ → Type 0
  AnswersPrinted r =
      (s : Scene) × (bs : List Bool) × (length scene_text ≤ text_limit) × Holds scene_text s × ClaimsOutcome s text claim_room (given bs)
      × (r ≡ answer_lines bs)

  pub taken_apart : {r : List ℕ} → AnswersOf scene_text text r → LongPrinted r ⊎ (ScenePrinted r ⊎ (ClaimsPrinted r ⊎ AnswersPrinted r))
  taken_apart (too_long h) = inl (h, refl)
  taken_apart (no_scene n line h f) = inr (inl (n, line, h, f, refl))
  taken_apart (refused_claims s n c h a p) = inr (inr (inl (s, n, c, h, a, p, refl)))
  taken_apart (answered s bs h a p) = inr (inr (inr (s, bs, h, a, p, refl)))
