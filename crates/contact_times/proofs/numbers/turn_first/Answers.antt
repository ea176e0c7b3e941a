-- The first volume turned round is no larger than it was.
use mir.Syntax.{w64}
use Rattle.whole.proofs.Sizes.{fits, back}
use Rattle.exact.specs.Volumes.{turned}
use Rattle.contact_laws.specs.Numbers.{turned_in}
use Rattle.contact_times.proofs.numbers.turn_first.Goals as goal

pub overflow_sub-result : goal.overflow_sub-result
overflow_sub-result c = fits w64 (turned c.requires.is0) tt

pub returns : goal.returns
unfolding turned_in
returns c =
    let p = c.requires in
    record {
      is0 = back w64 (turned p.is0) tt;
      is1 = back w64 p.is1 tt;
      is2 = back w64 p.is2 tt;
      is3 = back w64 p.is3 tt;
    }
