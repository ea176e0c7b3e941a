use borrow.Author.Rules.{rules}
use mir.Syntax.{w64}
use Rattle.whole.proofs.Sizes.{back}
use Rattle.corner_sides.proofs.sides_of.Goals as goal

pub returns : goal.returns
returns c =
    record {
      sides = λ i. record {
        ab = (back w64 c.cross-ab.ensures tt).same i;
        ac = (back w64 c.cross-ac.ensures tt).same i;
        ad = (back w64 c.cross-ad.ensures tt).same i;
        bc = (back w64 c.cross-bc.ensures tt).same i;
        bd = (back w64 c.cross-bd.ensures tt).same i;
        cd = (back w64 c.cross-cd.ensures tt).same i;
      };
    }
