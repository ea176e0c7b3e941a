use mir.Syntax.{w64}
use Rattle.whole.proofs.Sizes.{fits, back}
use Rattle.exact.specs.Volumes.{turned}
use Rattle.exact.proofs.in_turn.Goals as goal

pub overflow_sub-less1 : goal.overflow_sub-less1
overflow_sub-less1 c = fits w64 (turned c.requires.small1) tt

pub overflow_sub-less3 : goal.overflow_sub-less3
overflow_sub-less3 c = fits w64 (turned c.requires.small3) tt

pub returns : goal.returns
returns c =
    record {
      is0 = back w64 c.requires.small0 tt;
      is1 = back w64 (turned c.requires.small1) tt;
      is2 = back w64 c.requires.small2 tt;
      is3 = back w64 (turned c.requires.small3) tt;
    }
