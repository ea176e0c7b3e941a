-- What `import` prints is a scene that one can keep: read back it is the scene of the two files, and `report` prints of it what `obj` prints of them.
use Rattle.std.specs.Prelude.{ℕ, ◌≤◌, List, length}
use Rattle.meaning.specs.Limits.{text_limit}
use Rattle.meaning.specs.Scene.{Scene}
use Rattle.meaning.specs.Text.{Holds}
use Rattle.meaning.specs.Report.{ReportOf}
use Rattle.meaning.specs.SceneLines.{SceneReport, no_room, judged}
use Rattle.meaning.specs.Saved.{saved_text}
use Rattle.meaning.specs.ObjPair.{read, PairOutcome}
use Rattle.saved_demands.specs.ReadBack.{reads_back}
use Rattle.obj_scene.specs.Using.{pair_accepted}

pub import_reads_back : (start end : List ℕ) (s : Scene) → PairOutcome start end (read s) → Holds (saved_text s) s
import_reads_back start end s h = reads_back s (pair_accepted start end s h)

pub same_report : (start end : List ℕ) (s : Scene) → PairOutcome start end (read s) → length (saved_text s) ≤ text_limit
    → {l : List ℕ} → SceneReport s l → ReportOf (saved_text s) l
same_report start end s h short (no_room many) = ReportOf.no_room s short (import_reads_back start end s h) many
same_report start end s h short (judged vs few right) = ReportOf.judged s vs short (import_reads_back start end s h) few right
