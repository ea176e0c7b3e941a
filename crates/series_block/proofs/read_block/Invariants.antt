-- `series_block::read_block` meets its contract: the lines before the place are records, none at fault, and the positions have gone as far as the
-- block's lines. Each turn takes a line.
use mathlib.Core.Path.{◌≡◌}
use Prim.Native.Nat.{◌-◌}
use lib.ListN.{length}
use Rattle.meaning.specs.Scene.{Scene}
use Rattle.meaning.specs.SeriesText.{SoFar}
use Rattle.series_block.specs.Reading.{AtStep, Going}
use Rattle.series_block.proofs.read_block.Given as goal

abbrev pub invariant-loop-next : goal.invariant-loop-next
invariant-loop-next l =
    ((x : SoFar) (s : Scene) → AtStep l.text l.at l.line x s l.initial.positions l.seams → Going l.text x s l.k l.next l.read l.positions l.seams)
    × (length l.positions ≡ length l.initial.positions)
    × (length l.sizes ≡ 6)
    × (length l.minus ≡ 6)

abbrev pub decreases-loop-next : goal.decreases-loop-next
decreases-loop-next l = length l.text - l.next
