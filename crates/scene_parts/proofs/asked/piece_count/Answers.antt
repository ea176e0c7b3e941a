use borrow.Author.Rules.{rules}
use Rattle.meaning.specs.Pieces.{piece_count}
use Rattle.scene_parts.proofs.asked.piece_count.Goals as goal

pub returns-in-PointTriangle : goal.returns-in-PointTriangle
unfolding piece_count
returns-in-PointTriangle c = search rules

pub returns-in-EdgeEdge : goal.returns-in-EdgeEdge
unfolding piece_count
returns-in-EdgeEdge c = search rules
