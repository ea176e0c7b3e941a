-- `obj_draft::draft_file` meets its contract: the lines before the place say something, none at fault, and the draft holds their scene. Each
-- turn takes a line.
use Prim.Native.Nat.{◌-◌}
use lib.ListN.{length}
use Rattle.obj_draft.specs.Reading.{Drafting, SameRoom}
use Rattle.obj_draft.proofs.draft_file.Given as goal

abbrev pub invariant-loop-at : goal.invariant-loop-at
invariant-loop-at l = Drafting l.text l.positions l.edges l.triangles l.c l.at l.line × SameRoom l.initial.positions l.initial.edges l.initial.triangles l.positions l.edges l.triangles

abbrev pub decreases-loop-at : goal.decreases-loop-at
decreases-loop-at l = length l.text - l.at
