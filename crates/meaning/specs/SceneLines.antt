-- What is printed for a scene that is accepted, however it came about.
use Rattle.std.specs.Prelude.{ℕ, ◌≤◌, ◌<◌, List, ◌++◌, length}
use Rattle.meaning.specs.Limits.{report_room}
use Rattle.meaning.specs.Scene.{Scene}
use Rattle.meaning.specs.List.{pairs}
use Rattle.meaning.specs.SceneWords.{AllSettled}
use Rattle.meaning.specs.Report.{pair_lines, total_line, refused_line}
use Rattle.meaning.specs.declared.Settled.{Settled}

-- its report: 7 with the count needed, or the pairs and the totals
pub data SceneReport (s : Scene) : List ℕ → Type 0 where
  no_room : report_room < length (pairs s) → SceneReport s (refused_line 7 (length (pairs s)))
  judged : (vs : List Settled) → length (pairs s) ≤ report_room → AllSettled s (pairs s) vs → SceneReport s (pair_lines (pairs s) vs ++ total_line vs)
