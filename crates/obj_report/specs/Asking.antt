-- What is asked for of a scene, and that it stands in front of a buffer.
use Rattle.std.specs.Prelude.{ℕ, List, ◌≡◌}
use Rattle.sequences.specs.Wrote.{Wrote}
use Rattle.meaning.specs.Scene.{Scene}
use Rattle.meaning.specs.SceneLines.{SceneReport}
use Rattle.meaning.specs.ObjPrinted.{SceneText}
use Rattle.obj_report.specs.declared.Asked.{Asked}
use Rattle.obj_report.specs.declared.Asked.TheVariants.{Report, Text}

unfoldable pub shown_for : Asked → Scene → List ℕ → Type 0
shown_for Report = SceneReport
shown_for Text = SceneText

pub record Shown (Right : List ℕ → Type 0) (o o' : List ℕ) (n : ℕ) : Type 0 where
  pub shown : List ℕ
  pub right : Right shown
  pub wrote : Wrote o 0 shown o' n
