-- A text is one scene, or has one first faulty line with one fault; and records that are not at fault are not, whatever stands below them.
use Rattle.std.specs.Prelude.{List, [], ◌∷◌, ◌≡◌, ℕ}
use Rattle.std.proofs.Common.{sym, ap, ◌∙◌}
use Rattle.meaning.specs.Scene.{Scene}
use Rattle.meaning.specs.Refusals.{Outcome, given, refused}
use Rattle.meaning.specs.Lines as Lines
use Rattle.meaning.specs.Text.{Entry, scene_with, scene_lines, scene_from, TextIs}
use Rattle.text_laws.specs.Unique.{records_unique, sound_or_faulty, faulty_unique}
use Rattle.text_line.specs.Rendered.{scene_readable}

-- no check of a scene's record asks whether its line is the last
pub sound_anywhere : (s : Scene) (rs : List Entry) (x y : List ℕ) → Lines.Sound scene_lines s rs x → Lines.Sound scene_lines s rs y
unfolding Lines.Sound
sound_anywhere s [] x y h = tt
sound_anywhere s (r ∷ rs) x y h = (h.0, h.1, sound_anywhere (scene_with s r) rs x y h.2)

pub text_unique : (text : List ℕ) (o o' : Outcome Scene) → TextIs text o → TextIs text o' → o ≡ o'
unfolding TextIs
text_unique text (given s) (given s') h k =
    ap given (h.scene ∙ ap scene_from (records_unique scene_readable h.records k.records) ∙ sym k.scene)
text_unique text (given s) (refused n line) h k = absurd (sound_or_faulty scene_readable h.records k)
text_unique text (refused n line) (given s) h k = absurd (sound_or_faulty scene_readable k.records h)
text_unique text (refused n line) (refused m place) h k =
    let (a, b) = faulty_unique scene_readable h k in
    λ i. refused (a i) (b i)
