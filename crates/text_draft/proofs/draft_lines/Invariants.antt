-- `text_draft::draft_lines` meets its contract: the lines before the place are records, none at fault, and the draft holds their scene. Each turn
-- takes a line.
use mathlib.Core.Path.{◌≡◌}
use Prim.Native.Nat.{◌-◌}
use lib.ListN.{length}
use Rattle.meaning.specs.Scene.{scene_of}
use Rattle.text_draft.specs.Reading.{Drafting, SameRoom}
use Rattle.text_draft.proofs.draft_lines.Given as goal

abbrev pub invariant-loop-at : goal.invariant-loop-at
invariant-loop-at l =
    Drafting l.text (scene_of l.positions l.edges l.triangles l.seams) l.stands l.c l.at
    × SameRoom (scene_of l.initial.positions l.initial.edges l.initial.triangles l.initial.seams) l.initial.stands (scene_of l.positions l.edges l.triangles l.seams) l.stands
    × (length l.sizes ≡ 6)
    × (length l.minus ≡ 6)

abbrev pub decreases-loop-at : goal.decreases-loop-at
decreases-loop-at l = length l.text - l.at
