use borrow.Author.Rules.{rules}
use mir.Syntax.{w64}
use Rattle.whole.proofs.Sizes.{back}
use Rattle.exact.specs.Bounds.{apart_short}
use Rattle.exact.proofs.minors_at.Goals as goal

pub returns : goal.returns
returns c =
    let p = c.requires in
    record {
      former = apart_short p.2 _ _;
      latter = apart_short p.2 _ _;
      is_yz = back w64 c.minor-yz.ensures tt;
      is_xz = back w64 c.minor-xz.ensures tt;
      is_xy = back w64 c.minor-xy.ensures tt;
    }
