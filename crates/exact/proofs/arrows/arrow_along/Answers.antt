use borrow.Author.Rules.{rules}
use mir.Syntax.{w64}
use Rattle.whole.proofs.Sizes.{back}
use Rattle.exact.proofs.arrows.arrow_along.Goals as goal

pub returns : goal.returns
returns c =
    record {
      is_x = back w64 c.unit-x.ensures tt;
      is_y = back w64 c.unit-y.ensures tt;
      is_z = back w64 c.unit-z.ensures tt;
    }
