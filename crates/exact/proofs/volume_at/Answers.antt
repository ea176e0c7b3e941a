use borrow.Author.Rules.{rules}
use mir.Syntax.{w64}
use Rattle.whole.proofs.Sizes.{back}
use Rattle.exact.specs.Minors.{minors_small, standing_first}
use Rattle.exact.proofs.volume_at.Goals as goal

pub volume_with-requires : goal.volume_with-requires
volume_with-requires c = let p = c.requires in (p.0, minors_small c.minors_at.ensures, p.3)

pub returns : goal.returns
returns c = back w64 (standing_first c.volume_with.ensures c.minors_at.ensures) tt
