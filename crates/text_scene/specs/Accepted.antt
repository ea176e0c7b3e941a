-- A scene that was read from a text is accepted: nobody checks it twice.
use Rattle.std.specs.Prelude.{List, [], ◌∷◌, ℕ}
use Rattle.meaning.specs.Scene.{Scene, Accepted}
use Rattle.meaning.specs.Lines as Lines
use Rattle.meaning.specs.Lines.{after_all}
use Rattle.meaning.specs.Text.{Entry, none, scene_with, scene_lines, SceneSound, Holds}
use Rattle.meaning.specs.declared.SceneCounts.{SceneCounts}
use Rattle.text_line.specs.Reading.{sort_of}
use Rattle.text_line.specs.Above.{Above, above_none, above_more, counted_by, no_counts}

-- the counts of records below others
unfoldable pub counted_all : SceneCounts → List Entry → SceneCounts
counted_all c [] = c
counted_all c (r ∷ rs) = counted_all (counted_by c (sort_of r)) rs

pub above_all : (s : Scene) (c : SceneCounts) (rs : List Entry) → Above s c → SceneSound s rs → Above (after_all scene_lines s rs) (counted_all c rs)
unfolding Lines.Sound after_all counted_all
above_all s c [] a h = a
above_all s c (r ∷ rs) a h = above_all (scene_with s r) (counted_by c (sort_of r)) rs (above_more r a h.1) h.2

pub text_accepted : {text : List ℕ} {s : Scene} → Holds text s → Accepted s
text_accepted h = rw h.scene (above_all none no_counts h.entries above_none h.records.sound).accepted
